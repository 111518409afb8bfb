-- The bits of a lane, cut at a word.
use mathlib.Core.Path.{◌≡◌, sym, ap, ◌∙◌, subst}
use mathlib.Core.List.{List}
use Prim.Native.Nat.{ℕ, zero, suc, ◌+◌, ◌-◌, ◌*◌, ◌/◌, ◌%◌, ◌^◌, ◌≤◌, ◌<◌}
use native.Mathlib.Nat.{mul_comm, mul_assoc, add-zero, zero-add, add_comm, add-mul-div_left, add-mul-mod_self_left, mod-lt, mod-eq_of_lt, lt_of_lt_of_le, suc-add}
use native.Mathlib.Omega.{arith}
use lib.ListN.{get_or}
use lib.Pow.{pow-add, pow_pos, pow_mono, shr_lt, mod-pow-add, mod-mod-pow, high, low}
use lib.Bits.{bit_and, bit_or, or_shifted_r, and_mask}
use Rattle.codec.specs.Bits.{word_at}
use Rattle.bitpacker.specs.Packed.{lane_at, packed_at}

-- m bits are the k low ones and the others
parts : (k m : ℕ) → k ≤ m → m ≡ m - k + k
parts k m h = omega arith

split : (k m : ℕ) → k ≤ m → 2 ^ m ≡ 2 ^ k * 2 ^ (m - k)
split k m h = ap (λ (x : ℕ). 2 ^ x) (parts k m h ∙ add_comm (m - k) k) ∙ pow-add 2 k (m - k)

-- what stands from bit m on, shifted down by no more
pub down : (v z : ℕ) {k m : ℕ} → k ≤ m → (v + 2 ^ m * z) / 2 ^ k ≡ v / 2 ^ k + 2 ^ (m - k) * z
down v z {k} {m} h =
    ap (λ (x : ℕ). (v + x * z) / 2 ^ k) (split k m h)
    ∙ ap (λ (x : ℕ). (v + x) / 2 ^ k) (mul_assoc (2 ^ k) (2 ^ (m - k)) z)
    ∙ add-mul-div_left v (2 ^ (m - k) * z) (pow_pos k)

-- what stands from bit m on is no part of the w bits below it
off : (v z : ℕ) {w m : ℕ} → w ≤ m → (v + 2 ^ m * z) % 2 ^ w ≡ v % 2 ^ w
off v z {w} {m} h =
    ap (λ (x : ℕ). (v + x * z) % 2 ^ w) (split w m h)
    ∙ ap (λ (x : ℕ). (v + x) % 2 ^ w) (mul_assoc (2 ^ w) (2 ^ (m - w)) z)
    ∙ add-mul-mod_self_left v (2 ^ w) (2 ^ (m - w) * z)

-- so it is no part of w bits from bit k on that end below it
pub cut : (v z k w m : ℕ) → k + w ≤ m → (v + 2 ^ m * z) / 2 ^ k % 2 ^ w ≡ v / 2 ^ k % 2 ^ w
cut v z k w m h = ap (λ (x : ℕ). x % 2 ^ w) (down v z (omega arith)) ∙ off (v / 2 ^ k) z (omega arith)

-- a product and what is below it, the other way round
turn : (x u l : ℕ) → x * u + l ≡ l + u * x
turn x u l = rw (mul_comm x u) (omega arith)

-- the unit above m words and one more
words : (m : ℕ) → 2 ^ (32 * suc m) ≡ 4294967296 * 2 ^ (32 * m)
words m = ap (λ (x : ℕ). 2 ^ x) (up m) ∙ pow-add 2 32 (32 * m)
  where
    up : (m : ℕ) → 32 * suc m ≡ 32 + 32 * m
    up m = omega arith

module _ (s : List ℕ) where
  -- the words from the m-th on
  pub lane-from : (m k p : ℕ) → lane_at (m + k) s p ≡ lane_at k s (p + 16 * m) * 2 ^ (32 * m) + lane_at m s p
  unfolding lane_at
  lane-from zero k p = rw (zero-add k, add-zero p) (omega arith)
  lane-from (suc m) k p =
      rw (suc-add m k, lane-from m k (p + 16), words m, next p m)
      (spread (word_at s p) (lane_at m s (p + 16)) (lane_at k s (p + 16 + 16 * m)) (2 ^ (32 * m)))
    where
      next : (p m : ℕ) → p + 16 * suc m ≡ p + 16 + 16 * m
      next p m = omega arith

      spread : (w a c u : ℕ) → w + 4294967296 * (c * u + a) ≡ c * (4294967296 * u) + (w + 4294967296 * a)
      spread w a c u = rw (← mul_assoc c, mul_comm c 4294967296, mul_assoc) (omega arith)

  -- a lane's next word stands above the words before it
  pub one_more : (m p : ℕ) → lane_at (m + 1) s p ≡ lane_at m s p + 2 ^ (32 * m) * word_at s (p + 16 * m)
  unfolding lane_at
  one_more m p = lane-from m 1 p ∙ ap (λ (x : ℕ). x * 2 ^ (32 * m) + lane_at m s p) (add-zero (word_at s (p + 16 * m))) ∙ turn (word_at s (p + 16 * m)) (2 ^ (32 * m)) (lane_at m s p)

  -- bits that end below m words are those of the first m words
  pub first-words : (p m k v : ℕ) {w : ℕ} → m ≤ w → k + v ≤ 32 * m → lane_at w s p / 2 ^ k % 2 ^ v ≡ lane_at m s p / 2 ^ k % 2 ^ v
  first-words p m k v {w} h e =
      ap (λ (x : ℕ). lane_at x s p / 2 ^ k % 2 ^ v) (rest m w h)
      ∙ ap (λ (x : ℕ). x / 2 ^ k % 2 ^ v) (lane-from m (w - m) p ∙ turn (lane_at (w - m) s (p + 16 * m)) (2 ^ (32 * m)) (lane_at m s p))
      ∙ cut (lane_at m s p) (lane_at (w - m) s (p + 16 * m)) k v (32 * m) e
    where
      rest : (m w : ℕ) → m ≤ w → w ≡ m + (w - m)
      rest m w h = omega arith

  module _ (bytes : (i : ℕ) → get_or s i 0 < 256) where
    word_lt : (p : ℕ) → word_at s p < 4294967296
    unfolding word_at
    word_lt p = omega (arith, bytes p, bytes (p + 1), bytes (p + 2), bytes (p + 3))

    pub lane-lt : (k p : ℕ) → lane_at k s p < 2 ^ (32 * k)
    unfolding lane_at
    lane-lt zero p = omega arith
    lane-lt (suc k) p = rw (words k) (omega (arith, lane-lt k (p + 16), word_lt p))

    -- what is left of m words above k bits
    pub left_lt : (p m k left : ℕ) → k + left ≡ 32 * m → lane_at m s p / 2 ^ k < 2 ^ left
    left_lt p m k left e = shr_lt left k (subst (λ (x : ℕ). lane_at m s p < 2 ^ x) (sym e ∙ add_comm k left) (lane-lt m p))

    -- the word above m words
    pub last_word : (m p : ℕ) → lane_at (m + 1) s p / 2 ^ (32 * m) ≡ word_at s (p + 16 * m)
    unfolding lane_at
    last_word m p =
        ap (λ (x : ℕ). x / 2 ^ (32 * m)) (lane-from m 1 p)
        ∙ high (lane_at 1 s (p + 16 * m)) (32 * m) (lane-lt m p)
        ∙ add-zero (word_at s (p + 16 * m))

    -- of width 32 a value is a word
    pub word_value : (at i : ℕ) → i < 128 → packed_at s at 32 i ≡ word_at s (at + 4 * i)
    unfolding packed_at lane_at
    word_value at i h =
        let m = i / 4 in
        let q = at + 4 * (i % 4) in
        ap (λ (x : ℕ). lane_at x s q / 2 ^ (m * 32) % 4294967296) (few m (omega arith))
        ∙ ap (λ (x : ℕ). lane_at (m + suc (31 - m)) s q / 2 ^ x % 4294967296) (mul_comm m 32)
        ∙ ap (λ (x : ℕ). x / 2 ^ (32 * m) % 4294967296) (lane-from m (suc (31 - m)) q)
        ∙ ap (λ (x : ℕ). x % 4294967296) (high (lane_at (suc (31 - m)) s (q + 16 * m)) (32 * m) (lane-lt m q))
        ∙ add-mul-mod_self_left (word_at s (q + 16 * m)) 4294967296 (lane_at (31 - m) s (q + 16 * m + 16))
        ∙ mod-eq_of_lt (word_lt (q + 16 * m))
        ∙ ap (word_at s) (omega arith)
      where
        few : (m : ℕ) → m < 32 → 32 ≡ m + suc (31 - m)
        few m h = omega arith

-- a word whose low bits are lo, and the next word r above them: the or is the sum, cut to 32 bits
pub above-is : {r : ℕ} (y lo up : ℕ) → up < 32 → lo < 2 ^ up → r ≡ y → bit_or lo (r * 2 ^ up % 4294967296) ≡ (lo + 2 ^ up * y) % 4294967296
above-is y lo up h l e =
    ap (λ (x : ℕ). bit_or lo (x * 2 ^ up % 4294967296)) e
    ∙ ap (bit_or lo) (ap (λ (x : ℕ). x % 4294967296) (sym (add-zero (y * 2 ^ up))) ∙ kept 0 (pow_pos up) ∙ add-zero (y % 2 ^ (32 - up) * 2 ^ up))
    ∙ or_shifted_r (y % 2 ^ (32 - up)) up lo l
    ∙ sym (kept lo l)
    ∙ ap (λ (x : ℕ). x % 4294967296) (add_comm (y * 2 ^ up) lo ∙ ap (λ (x : ℕ). lo + x) (mul_comm y (2 ^ up)))
  where
    kept : (x : ℕ) → x < 2 ^ up → (y * 2 ^ up + x) % 2 ^ 32 ≡ y % 2 ^ (32 - up) * 2 ^ up + x
    kept x l =
        ap (λ (k : ℕ). (y * 2 ^ up + x) % 2 ^ k) (parts up 32 (omega arith))
        ∙ mod-pow-add (y * 2 ^ up + x) (32 - up) up
        ∙ ap (λ (z : ℕ). z % 2 ^ (32 - up) * 2 ^ up + (y * 2 ^ up + x) % 2 ^ up) (high y up l)
        ∙ ap (λ (z : ℕ). y % 2 ^ (32 - up) * 2 ^ up + z) (low y up l)

-- a value fits 32 bits
pub packed-fits : (s : List ℕ) (p w i k : ℕ) → w ≤ k → packed_at s p w i < 2 ^ k
unfolding packed_at
packed-fits s p w i k h = lt_of_lt_of_le (mod-lt (lane_at w s (p + 4 * (i % 4)) / 2 ^ (i / 4 * w)) (pow_pos w)) (pow_mono {j = k} h)

-- the bits under a mask of w ones
pub masked : (a w mask : ℕ) → mask ≡ 2 ^ w - 1 → bit_and a mask ≡ a % 2 ^ w
masked a w mask ones = ap (bit_and a) ones ∙ and_mask a w

-- of a number cut to 32 bits, w bits or fewer are the number's
pub cut-32 : (a w : ℕ) → w ≤ 32 → a % 2 ^ 32 % 2 ^ w ≡ a % 2 ^ w
cut-32 a w l = ap (λ (k : ℕ). a % 2 ^ k % 2 ^ w) (parts w 32 l) ∙ mod-mod-pow a (32 - w) w
