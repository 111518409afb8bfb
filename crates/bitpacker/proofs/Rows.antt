-- The loops that unpack a block, a row of four lanes at a time.
use mathlib.Core.Path.{◌≡◌, refl, sym, ap, ◌∙◌, subst}
use mathlib.Core.List.{List}
use Prim.Native.Nat.{ℕ, zero, suc, ◌+◌, ◌-◌, ◌*◌, ◌/◌, ◌%◌, ◌^◌, ◌≤◌, ◌<◌}
use native.Mathlib.Nat.{add-zero, add_comm, mul_comm, one-mul, add-mul, mul-le-mul_right, mod-one}
use native.Mathlib.Omega.{arith}
use lib.ListN.{get_or, get_or-replicate, replicate}
use lib.Bits.{bit_and}
use lib.Pow.{shl_exact, shr-shr, high}
use Rattle.arrays.proofs.Filling.{Filling, goes-on4}
use Rattle.codec.specs.Bits.{word_at}
use Rattle.bitpacker.specs.Packed.{lane_at, lane_of, bit_place, packed_at}
use Rattle.bitpacker.specs.Inner.Rows.{Across, Carried, EachLane, First, in_lane, set_four, Unpacked, Whole}
use Rattle.bitpacker.specs.declared.Four.{Four}
use Rattle.bitpacker.specs.declared.BitPlace.{BitPlace}
use Rattle.bitpacker.proofs.Lanes.{cut-32, down, first-words, last_word, left_lt, masked, one_more}

-- the lanes one by one
by-lane : {f : ℕ → ℕ} {x : Four} → EachLane f x → (n : ℕ) → n < 4 → in_lane x n ≡ f n
by-lane F zero h = F.lane0
by-lane F (suc zero) h = F.lane1
by-lane F (suc (suc zero)) h = F.lane2
by-lane F (suc (suc (suc zero))) h = F.lane3
by-lane F (suc (suc (suc (suc n)))) h = absurd (omega arith)

-- what holds of the four lanes holds of any number of a lane
in_all : {x : Four} {b : ℕ} → ((n : ℕ) → n < 4 → in_lane x n < b) → (n : ℕ) → in_lane x n < b
in_all h zero = h 0 (omega arith)
in_all h (suc zero) = h 1 (omega arith)
in_all h (suc (suc zero)) = h 2 (omega arith)
in_all h (suc (suc (suc n))) = h 3 (omega arith)

-- the bit place a row on
next-bits : (w i n : ℕ) → bit_place w (i + 4 + n) ≡ bit_place w (i + n) + w
next-bits w i n = ap (λ (x : ℕ). x * w) (up i n) ∙ add-mul ((i + n) / 4) 1 w ∙ ap (λ (x : ℕ). (i + n) / 4 * w + x) (one-mul w)
  where
    up : (i n : ℕ) → (i + 4 + n) / 4 ≡ (i + n) / 4 + 1
    up i n = omega arith

-- i values are unpacked, and what is carried to the next row is right
pub record Rows (s : List ℕ) (at w : ℕ) (out : List ℕ) (place : BitPlace) (i : ℕ) : Type 0 where
  pub carried : Carried s at w i place
  pub first : First s at w i out

-- where a row begins k bits into word m of the lanes, and that word is read
module _ (s : List ℕ) (bytes : (k : ℕ) → get_or s k 0 < 256) (at w i m k : ℕ) (h : i < 128) (f : i % 4 ≡ 0) (e : 32 * m + k ≡ i / 4 * w) (z : 0 < w) (l : k < 32) where
  same_row : (n : ℕ) → n < 4 → (i + n) / 4 ≡ i / 4
  same_row n d = omega arith

  pub word-inside : m + 1 ≤ w
  word-inside = go (i / 4 * w) (mul-le-mul_right w rows) e
    where
      rows : i / 4 ≤ 31
      rows = omega arith

      go : (b : ℕ) → b ≤ 31 * w → 32 * m + k ≡ b → m + 1 ≤ w
      go b g e = omega arith

  pub begun : {out : List ℕ} → First s at w i out → (words rest : Four) → EachLane (λ n. word_at s (at + 16 * m + 4 * n)) words → EachLane (λ n. in_lane words n / 2 ^ k) rest
      → Rows s at w out (record { rest = rest; left = 32 - k; next = at + 16 * m + 16 }) i
  begun F words rest W S = record {
    carried = record {
      words = m + 1;
      inside = word-inside;
      next = on at m;
      lane = λ n d. omega arith;
      bits = λ n d. ap (λ (b : ℕ). b * w + (32 - k)) (same_row n d) ∙ all_of (i / 4 * w) e;
      rest = λ n d.
          by-lane S n d
          ∙ ap (λ (x : ℕ). x / 2 ^ k) (by-lane W n d)
          ∙ upper n
          ∙ ap (λ (b : ℕ). lane_at (m + 1) s (at + 4 * n) / 2 ^ b) (e ∙ ap (λ (x : ℕ). x * w) (sym (same_row n d)));
    };
    first = F;
  }
    where
      on : (at m : ℕ) → at + 16 * m + 16 ≡ at + 16 * (m + 1)
      on at m = omega arith

      all_of : (b : ℕ) → 32 * m + k ≡ b → b + (32 - k) ≡ 32 * (m + 1)
      all_of b e = omega arith

      there : (n : ℕ) → at + 16 * m + 4 * n ≡ at + 4 * n + 16 * m
      there n = omega arith

      upper : (n : ℕ) → word_at s (at + 16 * m + 4 * n) / 2 ^ k ≡ lane_at (m + 1) s (at + 4 * n) / 2 ^ (32 * m + k)
      upper n =
          ap (λ (x : ℕ). x / 2 ^ k) (ap (word_at s) (there n) ∙ sym (last_word s bytes m (at + 4 * n)))
          ∙ shr-shr (lane_at (m + 1) s (at + 4 * n)) (32 * m) k

-- the mask of w bits
pub unit-is : (w : ℕ) → w < 32 → 1 * 2 ^ w % 4294967296 ≡ 2 ^ w
unit-is w h = shl_exact 1 w 32 (omega arith) (omega arith) ∙ one-mul (2 ^ w)

module _ {s : List ℕ} {at w : ℕ} {out : List ℕ} {place : BitPlace} {i : ℕ} (R : Rows s at w out place i) where
  fours : i % 4 ≡ 0
  fours = let e = R.carried.lane 0 (omega arith) in omega arith

  -- so a row fits
  pub row_fits : i < 128 → i + 4 ≤ 128
  row_fits h = omega (arith, fours)

  -- after a row whose values, one of each lane, are the block's
  row_more : (i < 128) → (f : ℕ → ℕ) → ((n : ℕ) → n < 4 → f n ≡ packed_at s at w (i + n)) → {to : BitPlace} → Carried s at w (i + 4) to → {new : List ℕ} → new ≡ set_four out i f
      → Rows s at w new to (i + 4)
  row_more h f F C {new} e = record { carried = C; first = record { long = filled.long; values = filled.done } }
    where
      filled : Filling 0 128 (packed_at s at w) out (i + 4) new
      filled =
          subst (Filling 0 128 (packed_at s at w) out (i + 4)) (sym e)
          (goes-on4 0 128 (packed_at s at w) out i out (f 0) (f 1) (f 2) (f 3) (omega (arith, fours))
          (F 0 (omega arith) ∙ ap (packed_at s at w) (add-zero i)) (F 1 (omega arith)) (F 2 (omega arith)) (F 3 (omega arith))
          (record { long = R.first.long; done = R.first.values; rest = λ k l. refl }))

  lane-next : (n : ℕ) → n < 4 → lane_of (i + 4 + n) ≡ n
  lane-next n k = let e = R.carried.lane n k in omega arith

  -- a value is the bits of its lane's first m words, where it ends in them
  value_in : (n m : ℕ) → n < 4 → m ≤ w → bit_place w (i + n) + w ≤ 32 * m → lane_at m s (at + 4 * n) / 2 ^ bit_place w (i + n) % 2 ^ w ≡ packed_at s at w (i + n)
  unfolding packed_at
  value_in n m k h e =
      sym (first-words s (at + 4 * n) m (bit_place w (i + n)) w h e)
      ∙ ap (λ (x : ℕ). lane_at w s (at + 4 * x) / 2 ^ bit_place w (i + n) % 2 ^ w) (sym (R.carried.lane n k))

  -- a row is taken from the bits left
  pub whole-more : (mask : ℕ) → mask ≡ 2 ^ w - 1 → i < 128 → w ≤ place.left → {new : List ℕ} {to : BitPlace} → Whole place w mask i out new to → Rows s at w new to (i + 4)
  whole-more mask ones h l W =
      let C = R.carried in
      row_more h (λ n. bit_and (in_lane place.rest n) mask)
      (λ n k.
      masked (in_lane place.rest n) w mask ones
      ∙ ap (λ (x : ℕ). x % 2 ^ w) (C.rest n k)
      ∙ value_in n C.words k C.inside (ends (bit_place w (i + n)) C.words (C.bits n k)))
      (record {
        words = C.words;
        inside = C.inside;
        next = W.next ∙ C.next;
        lane = lane-next;
        bits = λ n k. more (bit_place w (i + n)) (bit_place w (i + 4 + n)) C.words (next-bits w i n) (C.bits n k) W.left;
        rest = λ n k.
            by-lane W.rest n k
            ∙ ap (λ (x : ℕ). x / 2 ^ w) (C.rest n k)
            ∙ shr-shr (lane_at C.words s (at + 4 * n)) (bit_place w (i + n)) w
            ∙ ap (λ (b : ℕ). lane_at C.words s (at + 4 * n) / 2 ^ b) (sym (next-bits w i n));
      })
      W.row
    where
      ends : (b m : ℕ) → b + place.left ≡ 32 * m → b + w ≤ 32 * m
      ends b m e = omega arith

      more : (b b' m : ℕ) {l : ℕ} → b' ≡ b + w → b + place.left ≡ 32 * m → l ≡ place.left - w → b' + l ≡ 32 * m
      more b b' m e g k = omega arith

  -- the next words are read: the bits left and theirs are the lane's bits from the row on
  module _ (h : i < 128) (l : place.left < w) (t : w < 32) where
    abbrev C : Carried s at w i place
    C = R.carried

    -- the row ends inside the block
    ends-in : (n : ℕ) → n < 4 → bit_place w (i + n) + w ≤ 32 * w
    ends-in n k =
        subst (λ (x : ℕ). x ≤ 32 * w) (add-mul ((i + n) / 4) 1 w ∙ ap (λ (x : ℕ). bit_place w (i + n) + x) (one-mul w)) (mul-le-mul_right w (room (C.lane n k)))
      where
        room : (i + n) % 4 ≡ n → (i + n) / 4 + 1 ≤ 32
        room e = omega arith

    pub more-words : C.words + 1 ≤ w
    more-words = go (bit_place w (i + 0)) C.words (ends-in 0 (omega arith)) (C.bits 0 (omega arith))
      where
        go : (b m : ℕ) → b + w ≤ 32 * w → b + place.left ≡ 32 * m → m + 1 ≤ w
        go b m e g = omega arith

    on : (n : ℕ) → n < 4 → in_lane place.rest n + 2 ^ place.left * word_at s (place.next + 4 * n) ≡ lane_at (C.words + 1) s (at + 4 * n) / 2 ^ bit_place w (i + n)
    on n k =
        let b = bit_place w (i + n) in
        let q = at + 4 * n in
        ap (λ (x : ℕ). x + 2 ^ place.left * word_at s (place.next + 4 * n)) (C.rest n k)
        ∙ ap (λ (p : ℕ). lane_at C.words s q / 2 ^ b + 2 ^ place.left * word_at s p) (there C.words C.next)
        ∙ ap (λ (x : ℕ). lane_at C.words s q / 2 ^ b + 2 ^ x * word_at s (q + 16 * C.words)) (rest_of b C.words (C.bits n k))
        ∙ sym (down (lane_at C.words s q) (word_at s (q + 16 * C.words)) (below b C.words (C.bits n k)))
        ∙ ap (λ (x : ℕ). x / 2 ^ b) (sym (one_more s C.words q))
      where
        there : (m : ℕ) → place.next ≡ at + 16 * m → place.next + 4 * n ≡ at + 4 * n + 16 * m
        there m e = omega arith

        rest_of : (b m : ℕ) → b + place.left ≡ 32 * m → place.left ≡ 32 * m - b
        rest_of b m e = omega arith

        below : (b m : ℕ) → b + place.left ≡ 32 * m → b ≤ 32 * m
        below b m e = omega arith

    module _ (bytes : (k : ℕ) → get_or s k 0 < 256) where
      rest_lt : (n : ℕ) → n < 4 → in_lane place.rest n < 2 ^ place.left
      rest_lt n k = subst (λ (x : ℕ). x < 2 ^ place.left) (sym (C.rest n k)) (left_lt s bytes (at + 4 * n) C.words (bit_place w (i + n)) place.left (C.bits n k))

      pub rests-lt : (n : ℕ) → in_lane place.rest n < 2 ^ place.left
      rests-lt = in_all rest_lt

      -- and above the row only the next word has bits
      up : (n : ℕ) → n < 4 → word_at s (place.next + 4 * n) / 2 ^ (w - place.left) ≡ lane_at (C.words + 1) s (at + 4 * n) / 2 ^ (bit_place w (i + n) + w)
      up n k =
          let a = in_lane place.rest n in
          let e = word_at s (place.next + 4 * n) in
          let L = lane_at (C.words + 1) s (at + 4 * n) in
          ap (λ (x : ℕ). x / 2 ^ (w - place.left)) (sym (high e place.left (rest_lt n k)))
          ∙ ap (λ (x : ℕ). x / 2 ^ place.left / 2 ^ (w - place.left)) (add_comm (e * 2 ^ place.left) a ∙ ap (λ (x : ℕ). a + x) (mul_comm e (2 ^ place.left)) ∙ on n k)
          ∙ shr-shr (L / 2 ^ bit_place w (i + n)) place.left (w - place.left)
          ∙ ap (λ (x : ℕ). L / 2 ^ bit_place w (i + n) / 2 ^ x) whole-w
          ∙ shr-shr L (bit_place w (i + n)) w
        where
          whole-w : place.left + (w - place.left) ≡ w
          whole-w = omega arith

      pub across-more : (mask : ℕ) → mask ≡ 2 ^ w - 1 → {new : List ℕ} {to : BitPlace} → Across s place w mask i out new to → Rows s at w new to (i + 4)
      across-more mask ones A =
          row_more h (λ n. bit_and (in_lane A.taken n) mask)
          (λ n k.
          masked (in_lane A.taken n) w mask ones
          ∙ ap (λ (x : ℕ). x % 2 ^ w) (by-lane A.joins n k ∙ ap (λ (x : ℕ). (in_lane place.rest n + 2 ^ place.left * x) % 2 ^ 32) (by-lane A.read n k))
          ∙ cut-32 (in_lane place.rest n + 2 ^ place.left * word_at s (place.next + 4 * n)) w (omega arith)
          ∙ ap (λ (x : ℕ). x % 2 ^ w) (on n k)
          ∙ value_in n (C.words + 1) k more-words (ends (bit_place w (i + n)) C.words (C.bits n k)))
          (record {
            words = C.words + 1;
            inside = more-words;
            next = A.next ∙ ap (λ (x : ℕ). x + 16) C.next ∙ step at C.words;
            lane = lane-next;
            bits = λ n k. more (bit_place w (i + n)) (bit_place w (i + 4 + n)) C.words (next-bits w i n) (C.bits n k) A.left;
            rest = λ n k. by-lane A.rest n k ∙ ap (λ (x : ℕ). x / 2 ^ (w - place.left)) (by-lane A.read n k) ∙ up n k ∙ ap (λ (b : ℕ). lane_at (C.words + 1) s (at + 4 * n) / 2 ^ b) (sym (next-bits w i n));
          })
          A.row
        where
          ends : (b m : ℕ) → b + place.left ≡ 32 * m → b + w ≤ 32 * (m + 1)
          ends b m e = omega arith

          step : (at m : ℕ) → at + 16 * m + 16 ≡ at + 16 * (m + 1)
          step at m = omega arith

          more : (b b' m : ℕ) {r : ℕ} → b' ≡ b + w → b + place.left ≡ 32 * m → r ≡ 32 - (w - place.left) → b' + r ≡ 32 * (m + 1)
          more b b' m e g k = omega arith

-- of no width every value is 0
pub none-unpacked : (s : List ℕ) (at : ℕ) → Unpacked s at 0 (replicate 128 0)
unfolding packed_at
none-unpacked s at = record {
  long = refl;
  values = λ i h. get_or-replicate 128 i 0 0 h ∙ sym (mod-one (lane_at 0 s (at + 4 * lane_of i) / 2 ^ bit_place 0 i));
}
