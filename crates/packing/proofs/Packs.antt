-- A packed block made of values reads back as them, and no other bytes do.
use mathlib.Core.Path.{◌≡◌, refl, sym, ap, ◌∙◌}
use mathlib.Core.List.{List}
use mathlib.Core.Logic.{⊎_elim}
use Prim.Native.Nat.{ℕ, zero, suc, ◌+◌, ◌-◌, ◌*◌, ◌/◌, ◌%◌, ◌^◌, ◌≤◌, ◌<◌}
use native.Mathlib.Nat.{mul_comm, add_comm, add-zero, zero-mul, suc-mul, div-one, mod-one, mod-eq_of_lt}
use native.Mathlib.Nat.{mul-le-mul_right, le_trans, le_of_eq, not-suc-le-zero}
use native.Mathlib.Omega.{arith}
use lib.ListN.{length, get_or}
use lib.Pow.{pow-add, pow_pos, shr-shr, mod-pow-add, high}
use lib.Arith.{digits_lt}
use Rattle.arrays.proofs.Order.{lt-or-ge}
use Rattle.codec.specs.Bits.{word_at}
use Rattle.bitpacker.specs.Packed.{lane_at, packed_at}
use Rattle.bitpacker.specs.Inner.Rows.{Unpacked}
use Rattle.bitpacker.proofs.Lanes.{cut, lane-from, lane-lt}
use Rattle.pieces.proofs.Words.{four_bytes}
use Rattle.pieces.specs.Inner.Written.{Stands}
use Rattle.pieces.proofs.Standing.{long-bytes, bytes-stand, standing}
use Rattle.packing.specs.Packing.{stacked, lane_number, packed_byte, packed_block}
use Rattle.packing.specs.Inner.Fitting.{Fitting}

-- one value more
up : (k w : ℕ) → suc k * w ≡ w + k * w
up k w = suc-mul k w ∙ add_comm (k * w) w

unit-up : (k w : ℕ) → 2 ^ (suc k * w) ≡ 2 ^ w * 2 ^ (k * w)
unit-up k w = ap (λ (x : ℕ). 2 ^ x) (up k w) ∙ pow-add 2 w (k * w)

-- a value ends where the next begins, or lower
pub below : (j k w : ℕ) → j < k → j * w + w ≤ k * w
below j k w h = le_trans (le_of_eq (add_comm (j * w) w ∙ sym (up j w))) (mul-le-mul_right w h)

module _ (w : ℕ) where
  pub stacked-lt : (k : ℕ) (f : ℕ → ℕ) → ((j : ℕ) → j < k → f j < 2 ^ w) → stacked w k f < 2 ^ (k * w)
  unfolding stacked
  stacked-lt zero f h = pow_pos (0 * w)
  stacked-lt (suc k) f h =
      rw (unit-up k w, mul_comm (2 ^ (k * w)) (f k), add_comm (stacked w k f) (f k * 2 ^ (k * w)))
      (digits_lt (h k (omega arith)) (stacked-lt k f (λ j l. h j (omega arith))))

  -- value j of them
  pub stacked-at : (k : ℕ) (f : ℕ → ℕ) → ((j : ℕ) → j < k → f j < 2 ^ w) → (j : ℕ) → j < k → stacked w k f / 2 ^ (j * w) % 2 ^ w ≡ f j
  unfolding stacked
  stacked-at zero f h j l = absurd (not-suc-le-zero l)
  stacked-at (suc k) f h j l = ⊎_elim
      (λ m. cut (stacked w k f) (f k) (j * w) w (k * w) (below j k w m) ∙ stacked-at k f (λ i g. h i (omega arith)) j m)
      (λ m. let e : j ≡ k = omega arith in
      rw e
      (ap (λ (x : ℕ). x / 2 ^ (k * w) % 2 ^ w)
      (ap (λ (x : ℕ). stacked w k f + x) (mul_comm (2 ^ (k * w)) (f k)) ∙ add_comm (stacked w k f) (f k * 2 ^ (k * w)))
      ∙ ap (λ (x : ℕ). x % 2 ^ w) (high (f k) (k * w) (stacked-lt k f (λ i g. h i (omega arith))))
      ∙ mod-eq_of_lt (h k (omega arith))))
      (lt-or-ge j k)

  pub stacked-same : (k : ℕ) (f g : ℕ → ℕ) → ((j : ℕ) → j < k → f j ≡ g j) → stacked w k f ≡ stacked w k g
  unfolding stacked
  stacked-same zero f g h = refl
  stacked-same (suc k) f g h = rw (stacked-same k f g (λ j l. h j (omega arith)), h k (omega arith))

  -- a number is its values of w bits, one above the other
  pub stacked-digits : (x k : ℕ) → stacked w k (λ j. x / 2 ^ (j * w) % 2 ^ w) ≡ x % 2 ^ (k * w)
  unfolding stacked
  stacked-digits x zero = rw (zero-mul w) (sym (mod-one x))
  stacked-digits x (suc k) =
      ap (λ (y : ℕ). y + 2 ^ (k * w) * (x / 2 ^ (k * w) % 2 ^ w)) (stacked-digits x k)
      ∙ add_comm (x % 2 ^ (k * w)) (2 ^ (k * w) * (x / 2 ^ (k * w) % 2 ^ w))
      ∙ ap (λ (y : ℕ). y + x % 2 ^ (k * w)) (mul_comm (2 ^ (k * w)) (x / 2 ^ (k * w) % 2 ^ w))
      ∙ sym (ap (λ (y : ℕ). x % 2 ^ y) (up k w) ∙ mod-pow-add x w (k * w))

-- the place of byte j of word m of lane n, and back
module _ (m n j : ℕ) (n4 : n < 4) (j4 : j < 4) where
  lane-no : (16 * m + 4 * n + j) / 4 % 4 ≡ n
  lane-no = omega arith

  word-no : (16 * m + 4 * n + j) / 16 ≡ m
  word-no = omega arith

  byte-no : (16 * m + 4 * n + j) % 4 ≡ j
  byte-no = omega arith

-- byte j of word m of lane n
pub byte_of : (vs : List ℕ) (w m n j : ℕ) → n < 4 → j < 4
    → packed_byte vs w (16 * m + 4 * n + j) ≡ lane_number vs w n / 2 ^ (32 * m) / 2 ^ (8 * j) % 256
unfolding packed_byte
byte_of vs w m n j n4 j4 =
    ap (λ (x : ℕ). lane_number vs w x / 2 ^ (32 * ((16 * m + 4 * n + j) / 16) + 8 * ((16 * m + 4 * n + j) % 4)) % 256) (lane-no m n j n4 j4)
    ∙ ap (λ (x : ℕ). lane_number vs w n / 2 ^ (32 * x + 8 * ((16 * m + 4 * n + j) % 4)) % 256) (word-no m n j n4 j4)
    ∙ ap (λ (x : ℕ). lane_number vs w n / 2 ^ (32 * m + 8 * x) % 256) (byte-no m n j n4 j4)
    ∙ ap (λ (x : ℕ). x % 256) (sym (shr-shr (lane_number vs w n) (32 * m) (8 * j)))

module _ {vs : List ℕ} {w : ℕ} (F : Fitting vs w) where
  each : (n : ℕ) → n < 4 → (j : ℕ) → j < 32 → get_or vs (4 * j + n) 0 < 2 ^ w
  each n h j l = F.each (4 * j + n) (omega arith)

  lane-fits : (n : ℕ) → n < 4 → lane_number vs w n < 2 ^ (32 * w)
  unfolding lane_number
  lane-fits n h = stacked-lt w 32 (λ j. get_or vs (4 * j + n) 0) (each n h)

  lane-at : (n : ℕ) → n < 4 → (j : ℕ) → j < 32 → lane_number vs w n / 2 ^ (j * w) % 2 ^ w ≡ get_or vs (4 * j + n) 0
  unfolding lane_number
  lane-at n h j l = stacked-at w 32 (λ j. get_or vs (4 * j + n) 0) (each n h) j l

  -- bytes that are the packed block of the values, from place p on
  module _ (s : List ℕ) (p : ℕ) (B : (b : ℕ) → b < 16 * w → get_or s (p + b) 0 ≡ packed_byte vs w b) where
    byte_at : (m n j q : ℕ) → m < w → n < 4 → j < 4 → q ≡ p + (16 * m + 4 * n + j)
        → get_or s q 0 ≡ lane_number vs w n / 2 ^ (32 * m) / 2 ^ (8 * j) % 256
    byte_at m n j q h n4 j4 e = ap (λ (x : ℕ). get_or s x 0) e ∙ B (16 * m + 4 * n + j) (omega arith) ∙ byte_of vs w m n j n4 j4

    word_of : (m n : ℕ) → m < w → n < 4 → word_at s (p + 4 * n + 16 * m) ≡ lane_number vs w n / 2 ^ (32 * m) % 4294967296
    unfolding word_at
    word_of m n h n4 =
        four_bytes (lane_number vs w n / 2 ^ (32 * m)) _ _ _ _
        (byte_at m n 0 (p + 4 * n + 16 * m) h n4 (omega arith) (omega arith))
        (byte_at m n 1 (p + 4 * n + 16 * m + 1) h n4 (omega arith) (omega arith))
        (byte_at m n 2 (p + 4 * n + 16 * m + 2) h n4 (omega arith) (omega arith))
        (byte_at m n 3 (p + 4 * n + 16 * m + 3) h n4 (omega arith) (omega arith))

    lane_of : (k m n : ℕ) → m + k ≤ w → n < 4 → lane_at k s (p + 4 * n + 16 * m) ≡ lane_number vs w n / 2 ^ (32 * m) % 2 ^ (32 * k)
    unfolding lane_at
    lane_of zero m n h n4 = sym (mod-one (lane_number vs w n / 2 ^ (32 * m)))
    lane_of (suc k) m n h n4 =
        let x = lane_number vs w n / 2 ^ (32 * m) in
        ap (λ (y : ℕ). y + 4294967296 * lane_at k s (p + 4 * n + 16 * m + 16)) (word_of m n (omega arith) n4)
        ∙ ap (λ (y : ℕ). x % 4294967296 + 4294967296 * lane_at k s y) (next p n m)
        ∙ ap (λ (y : ℕ). x % 4294967296 + 4294967296 * y)
        (lane_of k (suc m) n (omega arith) n4
        ∙ ap (λ (y : ℕ). lane_number vs w n / 2 ^ y % 2 ^ (32 * k)) (more m)
        ∙ ap (λ (y : ℕ). y % 2 ^ (32 * k)) (sym (shr-shr (lane_number vs w n) (32 * m) 32)))
        ∙ swap (x % 4294967296) (x / 4294967296 % 2 ^ (32 * k))
        ∙ sym (ap (λ (y : ℕ). x % 2 ^ y) (words k) ∙ mod-pow-add x (32 * k) 32)
      where
        next : (p n m : ℕ) → p + 4 * n + 16 * m + 16 ≡ p + 4 * n + 16 * suc m
        next p n m = omega arith

        more : (m : ℕ) → 32 * suc m ≡ 32 * m + 32
        more m = omega arith

        words : (k : ℕ) → 32 * suc k ≡ 32 * k + 32
        words k = omega arith

        swap : (a b : ℕ) → a + 4294967296 * b ≡ b * 4294967296 + a
        swap a b = omega arith

    -- a block packed and unpacked is what it was
    pub reads-back : Unpacked s p w vs
    unfolding packed_at
    reads-back = record { long = F.long; values = λ i h. sym (value i h) }
      where
        lane-is : (n : ℕ) → n < 4 → lane_at w s (p + 4 * n) ≡ lane_number vs w n
        lane-is n h =
            ap (lane_at w s) (sym (add-zero (p + 4 * n)))
            ∙ lane_of w 0 n (omega arith) h
            ∙ ap (λ (x : ℕ). x % 2 ^ (32 * w)) (div-one (lane_number vs w n))
            ∙ mod-eq_of_lt (lane-fits n h)

        place : (i : ℕ) → 4 * (i / 4) + i % 4 ≡ i
        place i = omega arith

        value : (i : ℕ) → i < 128 → packed_at s p w i ≡ get_or vs i 0
        value i h =
            ap (λ (x : ℕ). x / 2 ^ (i / 4 * w) % 2 ^ w) (lane-is (i % 4) (omega arith))
            ∙ lane-at (i % 4) (omega arith) (i / 4) (omega arith)
            ∙ ap (λ (x : ℕ). get_or vs x 0) (place i)

-- and no other bytes unpack to the values
module _ {s : List ℕ} {p w : ℕ} {vs : List ℕ} (U : Unpacked s p w vs) (bytes : (i : ℕ) → get_or s i 0 < 256) where
  lane-back : (n : ℕ) → n < 4 → lane_number vs w n ≡ lane_at w s (p + 4 * n)
  unfolding lane_number packed_at
  lane-back n h =
      stacked-same w 32 (λ j. get_or vs (4 * j + n) 0) (λ j. lane_at w s (p + 4 * n) / 2 ^ (j * w) % 2 ^ w)
      (λ j l. U.values (4 * j + n) (omega arith)
      ∙ ap (λ (x : ℕ). lane_at w s (p + 4 * x) / 2 ^ ((4 * j + n) / 4 * w) % 2 ^ w) (in_row j n h)
      ∙ ap (λ (x : ℕ). lane_at w s (p + 4 * n) / 2 ^ (x * w) % 2 ^ w) (row j n h))
      ∙ stacked-digits w (lane_at w s (p + 4 * n)) 32
      ∙ mod-eq_of_lt (lane-lt s bytes w (p + 4 * n))
    where
      in_row : (j n : ℕ) → n < 4 → (4 * j + n) % 4 ≡ n
      in_row j n h = omega arith

      row : (j n : ℕ) → n < 4 → (4 * j + n) / 4 ≡ j
      row j n h = omega arith

  byte-back : (m n j : ℕ) → m < w → n < 4 → j < 4
      → lane_at w s (p + 4 * n) / 2 ^ (32 * m) / 2 ^ (8 * j) % 256 ≡ get_or s (p + (16 * m + 4 * n + j)) 0
  unfolding lane_at word_at
  byte-back m n j h n4 j4 =
      ap (λ (x : ℕ). lane_at x s (p + 4 * n) / 2 ^ (32 * m) / 2 ^ (8 * j) % 256) (parts m w h)
      ∙ ap (λ (x : ℕ). x / 2 ^ (32 * m) / 2 ^ (8 * j) % 256) (lane-from s m (suc (w - suc m)) (p + 4 * n))
      ∙ ap (λ (x : ℕ). x / 2 ^ (8 * j) % 256)
      (high (lane_at (suc (w - suc m)) s (p + 4 * n + 16 * m)) (32 * m) (lane-lt s bytes m (p + 4 * n)))
      ∙ cases j (p + 4 * n + 16 * m) (lane_at (w - suc m) s (p + 4 * n + 16 * m + 16)) j4
      ∙ ap (λ (x : ℕ). get_or s x 0) (place p m n j)
    where
      parts : (m w : ℕ) → m < w → w ≡ m + suc (w - suc m)
      parts m w h = omega arith

      place : (p m n j : ℕ) → p + 4 * n + 16 * m + j ≡ p + (16 * m + 4 * n + j)
      place p m n j = omega arith

      cases : (j q r : ℕ) → j < 4 → (word_at s q + 4294967296 * r) / 2 ^ (8 * j) % 256 ≡ get_or s (q + j) 0
      cases zero q r h = rw (add-zero q) (omega (arith, bytes q, bytes (q + 1), bytes (q + 2), bytes (q + 3)))
      cases (suc zero) q r h = omega (arith, bytes q, bytes (q + 1), bytes (q + 2), bytes (q + 3))
      cases (suc (suc zero)) q r h = omega (arith, bytes q, bytes (q + 1), bytes (q + 2), bytes (q + 3))
      cases (suc (suc (suc zero))) q r h = omega (arith, bytes q, bytes (q + 1), bytes (q + 2), bytes (q + 3))
      cases (suc (suc (suc (suc j)))) q r h = absurd (no j h)
        where
          no : (j : ℕ) → suc (suc (suc (suc j))) < 4 → ⊥
          no j h = omega arith

  pub only-bytes : (b : ℕ) → b < 16 * w → get_or s (p + b) 0 ≡ packed_byte vs w b
  only-bytes b h =
      sym (ap (packed_byte vs w) (whole b)
      ∙ byte_of vs w (b / 16) (b / 4 % 4) (b % 4) (omega arith) (omega arith)
      ∙ ap (λ (x : ℕ). x / 2 ^ (32 * (b / 16)) / 2 ^ (8 * (b % 4)) % 256) (lane-back (b / 4 % 4) (omega arith))
      ∙ byte-back (b / 16) (b / 4 % 4) (b % 4) (omega arith) (omega arith) (omega arith)
      ∙ ap (λ (x : ℕ). get_or s (p + x) 0) (sym (whole b)))
    where
      whole : (b : ℕ) → b ≡ 16 * (b / 16) + 4 * (b / 4 % 4) + b % 4
      whole b = omega arith

-- a packed block knows no more of a list than its 128 values
pub packed-same : (vs us : List ℕ) (w b : ℕ) → ((i : ℕ) → i < 128 → get_or vs i 0 ≡ get_or us i 0) → packed_byte vs w b ≡ packed_byte us w b
unfolding packed_byte lane_number
packed-same vs us w b h =
    ap (λ (x : ℕ). x / 2 ^ (32 * (b / 16) + 8 * (b % 4)) % 256)
    (stacked-same w 32 (λ j. get_or vs (4 * j + b / 4 % 4) 0) (λ j. get_or us (4 * j + b / 4 % 4) 0)
    (λ j l. h (4 * j + b / 4 % 4) (omega arith)))

-- the same, of the block as a piece
pub block-long : (vs : List ℕ) (w : ℕ) → length (packed_block vs w) ≡ 16 * w
unfolding packed_block
block-long vs w = long-bytes (16 * w) (packed_byte vs w)

pub block_back : {vs : List ℕ} {w : ℕ} → Fitting vs w → (s : List ℕ) (p : ℕ) → Stands s p (packed_block vs w) → Unpacked s p w vs
unfolding packed_block
block_back {vs} {w} F s p S = reads-back F s p (standing s p (16 * w) (packed_byte vs w) S)

pub block-only : {s : List ℕ} {p w : ℕ} {vs : List ℕ} → Unpacked s p w vs → ((i : ℕ) → get_or s i 0 < 256) → Stands s p (packed_block vs w)
unfolding packed_block
block-only {s} {p} {w} {vs} U bytes = bytes-stand s p (16 * w) (packed_byte vs w) (only-bytes U bytes)
