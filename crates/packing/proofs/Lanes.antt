-- The loop that packs a block, a row of four lanes at a time.
use mathlib.Core.Path.{◌≡◌, refl, sym, ap, ◌∙◌, subst}
use mathlib.Core.List.{List}
use Prim.Native.Nat.{ℕ, zero, suc, ◌+◌, ◌-◌, ◌*◌, ◌/◌, ◌%◌, ◌^◌, ◌≤◌, ◌<◌}
use native.Mathlib.Nat.{mul_comm, add_comm, add-zero, zero-mul, add-suc, suc-mul, lt_of_lt_of_le, le_trans, mul-le-mul_right}
use native.Mathlib.Numerals.{add-one}
use native.Mathlib.Omega.{arith}
use lib.ListN.{get_or}
use lib.Pow.{pow-add, pow_mono, shr_lt, shr-shr, shl_exact}
use lib.Arith.{digits_lt}
use Rattle.bitpacker.proofs.Lanes.{cut, down}
use Rattle.pieces.specs.Bytes.{little_byte}
use Rattle.pieces.specs.Inner.Written.{Written, Put}
use Rattle.packing.specs.Packing.{stacked, lane_number, packed_byte, packed_block}
use Rattle.packing.specs.Inner.Fitting.{Fitting}
use Rattle.pieces.proofs.Writes.{none, also}
use Rattle.pieces.proofs.Puts.{put-bytes}
use Rattle.packing.proofs.Packs.{stacked-lt, byte_of}

-- values above bit e + 8 are no part of the byte there
pub stacked-low : (w : ℕ) (f : ℕ → ℕ) (k r e : ℕ) → e + 8 ≤ k * w → stacked w (k + r) f / 2 ^ e % 256 ≡ stacked w k f / 2 ^ e % 256
unfolding stacked
stacked-low w f k zero e h = rw add-zero
stacked-low w f k (suc r) e h =
    rw add-suc
    (cut (stacked w (k + r) f) (f (k + r)) e 8 ((k + r) * w) (le_trans h (mul-le-mul_right w (omega arith)))
    ∙ stacked-low w f k r e h)

-- a value above the bits that are kept, in 64 bits
abbrev lifted : ℕ → ℕ → ℕ → ℕ
lifted acc x shift = acc + x * 2 ^ shift % 18446744073709551616

-- lane n, of which k values are taken: acc is what of it is not written
pub record Lane (vs : List ℕ) (w n k word acc : ℕ) : Type 0 where
  pub kept : acc ≡ stacked w k (λ j. get_or vs (4 * j + n) 0) / 2 ^ (32 * word)

module _ {vs : List ℕ} {w : ℕ} (F : Fitting vs w) (n : ℕ) (n4 : n < 4) where
  each : (k : ℕ) → k ≤ 32 → (j : ℕ) → j < k → get_or vs (4 * j + n) 0 < 2 ^ w
  each k h j l = F.each (4 * j + n) (omega arith)

  module _ {k word shift acc : ℕ} (L : Lane vs w n k word acc) (h : k < 32) (l : shift < 32) (e : 32 * word + shift ≡ k * w) where
    acc_lt : acc < 2 ^ shift
    acc_lt =
        let f : ℕ → ℕ = λ j. get_or vs (4 * j + n) 0 in
        let t = sym e ∙ add_comm (32 * word) shift in
        rw L.kept (shr_lt shift (32 * word) (subst (λ (x : ℕ). stacked w k f < 2 ^ x) t (stacked-lt w k f (each k (omega arith)))))

    shl : get_or vs (4 * k + n) 0 * 2 ^ shift % 18446744073709551616 ≡ get_or vs (4 * k + n) 0 * 2 ^ shift
    shl = shl_exact w shift 64 (each 32 (omega arith) k h) (omega (arith, F.widths))

    pub sum_fits : lifted acc (get_or vs (4 * k + n) 0) shift < 18446744073709551616
    sum_fits =
        rw (shl, add_comm acc (get_or vs (4 * k + n) 0 * 2 ^ shift))
        (lt_of_lt_of_le
        (digits_lt (each 32 (omega arith) k h) acc_lt)
        (subst (λ (x : ℕ). x ≤ 18446744073709551616) (pow-add 2 w shift) (pow_mono {j = 64} (omega (arith, F.widths)))))

    -- a value more
    pub taken : Lane vs w n (k + 1) word (lifted acc (get_or vs (4 * k + n) 0) shift)
    unfolding stacked
    taken = rw (add-one k) (record {
      kept =
          ap (λ (x : ℕ). acc + x) (shl ∙ mul_comm (get_or vs (4 * k + n) 0) (2 ^ shift))
          ∙ ap (λ (x : ℕ). x + 2 ^ shift * get_or vs (4 * k + n) 0) L.kept
          ∙ ap (λ (x : ℕ). stacked w k (λ j. get_or vs (4 * j + n) 0) / 2 ^ (32 * word) + 2 ^ x * get_or vs (4 * k + n) 0) (rest (k * w) e)
          ∙ sym (down (stacked w k (λ j. get_or vs (4 * j + n) 0)) (get_or vs (4 * k + n) 0) {k = 32 * word} {m = k * w} (inside (k * w) e));
    })
      where
        rest : (b : ℕ) → 32 * word + shift ≡ b → shift ≡ b - 32 * word
        rest b e = omega arith

        inside : (b : ℕ) → 32 * word + shift ≡ b → 32 * word ≤ b
        inside b e = omega arith

-- a word more is written
module _ {vs : List ℕ} {w n k word acc : ℕ} (L : Lane vs w n k word acc) where
  pub passed : Lane vs w n k (word + 1) (acc / 2 ^ 32)
  passed = record {
    kept =
        ap (λ (x : ℕ). x / 4294967296) L.kept
        ∙ shr-shr (stacked w k (λ j. get_or vs (4 * j + n) 0)) (32 * word) 32
        ∙ ap (λ (x : ℕ). stacked w k (λ j. get_or vs (4 * j + n) 0) / 2 ^ x) (more word);
  }
    where
      more : (word : ℕ) → 32 * word + 32 ≡ 32 * (word + 1)
      more word = omega arith

  -- its bytes are the block's
  pub its-bytes : k ≤ 32 → n < 4 → 32 * word + 32 ≤ k * w → (j : ℕ) → j < 4 → little_byte acc j ≡ packed_byte vs w (16 * word + 4 * n + j)
  unfolding lane_number
  its-bytes h n4 e j j4 =
      ap (λ (x : ℕ). x / 2 ^ (8 * j) % 256) L.kept
      ∙ ap (λ (x : ℕ). x % 256) (shr-shr (stacked w k f) (32 * word) (8 * j))
      ∙ sym (stacked-low w f k (32 - k) (32 * word + 8 * j) (inside (k * w) e))
      ∙ ap (λ (x : ℕ). stacked w x f / 2 ^ (32 * word + 8 * j) % 256) (all k h)
      ∙ ap (λ (x : ℕ). x % 256) (sym (shr-shr (stacked w 32 f) (32 * word) (8 * j)))
      ∙ sym (byte_of vs w word n j n4 j4)
    where
      f : ℕ → ℕ
      f j = get_or vs (4 * j + n) 0

      inside : (b : ℕ) → 32 * word + 32 ≤ b → 32 * word + 8 * j + 8 ≤ b
      inside b e = omega arith

      all : (k : ℕ) → k ≤ 32 → k + (32 - k) ≡ 32
      all k h = omega arith

-- i values are taken: of each lane `word` words are written, and `shift` bits are kept
pub record Packing (vs : List ℕ) (w : ℕ) (before : List ℕ) (at : ℕ) (out : List ℕ) (a b c d word shift i : ℕ) : Type 0 where
  pub fours : i % 4 ≡ 0
  pub top : i ≤ 128
  pub low : shift < 32
  pub bits : 32 * word + shift ≡ i / 4 * w
  pub lane0 : Lane vs w 0 (i / 4) word a
  pub lane1 : Lane vs w 1 (i / 4) word b
  pub lane2 : Lane vs w 2 (i / 4) word c
  pub lane3 : Lane vs w 3 (i / 4) word d
  pub place : Written before at (16 * word) (packed_byte vs w) out

empty : (vs : List ℕ) (w n : ℕ) → Lane vs w n 0 0 0
unfolding stacked
empty vs w n = record { kept = refl }

pub begun : (vs : List ℕ) (w : ℕ) (before : List ℕ) (at : ℕ) → Packing vs w before at before 0 0 0 0 0 0 0
begun vs w before at = record {
  fours = refl;
  top = omega arith;
  low = omega arith;
  bits = sym (zero-mul w);
  lane0 = empty vs w 0;
  lane1 = empty vs w 1;
  lane2 = empty vs w 2;
  lane3 = empty vs w 3;
  place = none before at (packed_byte vs w);
}

module _ {vs : List ℕ} {w : ℕ} {before : List ℕ} {at : ℕ} {out : List ℕ} {a b c d word shift i : ℕ}
    (R : Packing vs w before at out a b c d word shift i)
  where
    pub all-packed : 128 ≤ i → Put before at (packed_block vs w) out
    unfolding packed_block
    all-packed h =
        let z : i ≡ 128 = omega (arith, R.top) in
        let e : 32 * word + shift ≡ 32 * w = R.bits ∙ ap (λ (x : ℕ). x / 4 * w) z in
        put-bytes (subst (λ (x : ℕ). Written before at (16 * x) (packed_byte vs w) out) (full e) R.place)
      where
        full : 32 * word + shift ≡ 32 * w → word ≡ w
        full e = omega (arith, R.low)

    module _ (F : Fitting vs w) (h : i < 128) where
      value : {n : ℕ} → n < 4 → {x : ℕ} → x ≡ get_or vs (i + n) 0 → x ≡ get_or vs (4 * (i / 4) + n) 0
      value {n} n4 e = e ∙ ap (λ (y : ℕ). get_or vs y 0) (go i R.fours)
        where
          go : (i : ℕ) → i % 4 ≡ 0 → i + n ≡ 4 * (i / 4) + n
          go i e = omega arith

      module _ {n acc x : ℕ} (n4 : n < 4) (L : Lane vs w n (i / 4) word acc) (e : x ≡ get_or vs (i + n) 0) where
        pub fits : lifted acc x shift < 18446744073709551616
        fits = rw (value n4 e) (sum_fits F n n4 L (omega arith) R.low R.bits)

        lane-more : Lane vs w n ((i + 4) / 4) word (lifted acc x shift)
        lane-more = rw (value n4 e, up i) (taken F n n4 L (omega arith) R.low R.bits)
          where
            up : (i : ℕ) → (i + 4) / 4 ≡ i / 4 + 1
            up i = omega arith

      go_on : i / 4 * w + w ≡ (i + 4) / 4 * w
      go_on = sym (ap (λ (x : ℕ). x * w) (up i) ∙ suc-mul (i / 4) w)
        where
          up : (i : ℕ) → (i + 4) / 4 ≡ suc (i / 4)
          up i = omega arith

      module _ {x y z u : ℕ} (ex : x ≡ get_or vs i 0) (ey : y ≡ get_or vs (i + 1) 0) (ez : z ≡ get_or vs (i + 2) 0) (eu : u ≡ get_or vs (i + 3) 0)
        where
          first : x ≡ get_or vs (i + 0) 0
          first = rw (add-zero i) ex

          -- the row fills no word
          pub stays : shift + w < 32
              → Packing vs w before at out (lifted a x shift) (lifted b y shift) (lifted c z shift) (lifted d u shift) word (shift + w)
              (i + 4)
          stays l = record {
            fours = omega (arith, R.fours);
            top = omega (arith, R.fours);
            low = l;
            bits = on (i / 4 * w) R.bits ∙ go_on;
            lane0 = lane-more (omega arith) R.lane0 first;
            lane1 = lane-more (omega arith) R.lane1 ey;
            lane2 = lane-more (omega arith) R.lane2 ez;
            lane3 = lane-more (omega arith) R.lane3 eu;
            place = R.place;
          }
            where
              on : (b : ℕ) → 32 * word + shift ≡ b → 32 * word + (shift + w) ≡ b + w
              on b e = omega arith

          -- or the next word of each lane
          pub moves : 32 ≤ shift + w → {p : ℕ} → p ≡ at + 16 * word → {o1 o2 o3 o4 : List ℕ}
              → Written out p 4 (little_byte (lifted a x shift)) o1
              → Written o1 (p + 4) 4 (little_byte (lifted b y shift)) o2
              → Written o2 (p + 8) 4 (little_byte (lifted c z shift)) o3
              → Written o3 (p + 12) 4 (little_byte (lifted d u shift)) o4
              → Packing vs w before at o4 (lifted a x shift / 2 ^ 32) (lifted b y shift / 2 ^ 32) (lifted c z shift / 2 ^ 32)
              (lifted d u shift / 2 ^ 32) (word + 1) (shift + w - 32) (i + 4)
          moves l {p} q {o1} {o2} {o3} {o4} W1 W2 W3 W4 =
              let l0 = lane-more {n = 0} (omega arith) R.lane0 first in
              let l1 = lane-more {n = 1} (omega arith) R.lane1 ey in
              let l2 = lane-more {n = 2} (omega arith) R.lane2 ez in
              let l3 = lane-more {n = 3} (omega arith) R.lane3 eu in
              let k : (i + 4) / 4 ≤ 32 = omega arith in
              let f : 32 * word + 32 ≤ (i + 4) / 4 * w = full (i / 4 * w) ((i + 4) / 4 * w) R.bits go_on l in
              let v1 = also R.place W1 q (λ j j4. its-bytes l0 k (omega arith) f j j4 ∙ ap (packed_byte vs w) (at0 word j)) in
              let v2 = also v1 W2 (omega arith) (λ j j4. its-bytes l1 k (omega arith) f j j4 ∙ ap (packed_byte vs w) (at1 word j)) in
              let v3 = also v2 W3 (omega arith) (λ j j4. its-bytes l2 k (omega arith) f j j4 ∙ ap (packed_byte vs w) (at2 word j)) in
              let v4 = also v3 W4 (omega arith) (λ j j4. its-bytes l3 k (omega arith) f j j4 ∙ ap (packed_byte vs w) (at3 word j)) in
              record {
                fours = omega (arith, R.fours);
                top = omega (arith, R.fours);
                low = omega (arith, R.low, F.widths);
                bits = on (i / 4 * w) R.bits l ∙ go_on;
                lane0 = passed l0;
                lane1 = passed l1;
                lane2 = passed l2;
                lane3 = passed l3;
                place = subst (λ (n : ℕ). Written before at n (packed_byte vs w) o4) (all word) v4;
              }
            where
              full : (b b' : ℕ) → 32 * word + shift ≡ b → b + w ≡ b' → 32 ≤ shift + w → 32 * word + 32 ≤ b'
              full b b' e g l = omega arith

              on : (b : ℕ) → 32 * word + shift ≡ b → 32 ≤ shift + w → 32 * (word + 1) + (shift + w - 32) ≡ b + w
              on b e l = omega arith

              at0 : (word j : ℕ) → 16 * word + 4 * 0 + j ≡ 16 * word + j
              at0 word j = omega arith

              at1 : (word j : ℕ) → 16 * word + 4 * 1 + j ≡ 16 * word + 4 + j
              at1 word j = omega arith

              at2 : (word j : ℕ) → 16 * word + 4 * 2 + j ≡ 16 * word + 4 + 4 + j
              at2 word j = omega arith

              at3 : (word j : ℕ) → 16 * word + 4 * 3 + j ≡ 16 * word + 4 + 4 + 4 + j
              at3 word j = omega arith

              all : (word : ℕ) → 16 * word + 4 + 4 + 4 + 4 ≡ 16 * (word + 1)
              all word = omega arith

-- the same, by other names
pub renamed : {vs : List ℕ} {w : ℕ} {before : List ℕ} {at : ℕ} {out out' : List ℕ} {a a' b b' c c' d d' word word' shift shift' i : ℕ}
    → Packing vs w before at out a b c d word shift i → out' ≡ out → a' ≡ a → b' ≡ b → c' ≡ c → d' ≡ d → word' ≡ word → shift' ≡ shift
    → Packing vs w before at out' a' b' c' d' word' shift' i
renamed R eo ea eb ec ed ew es = rw (eo, ea, eb, ec, ed, ew, es) R
