-- Bit patterns of clear sign below an infinity's are in the order of their values.
use mathlib.Core.Path.{◌≡◌, refl, sym, ap, ◌∙◌, subst}
use mathlib.Core.Logic.{◌⊎◌, inl, inr}
use mathlib.Core.Bool.{false}
use Prim.Native.Nat.{ℕ, zero, suc, ◌+◌, ◌*◌, ◌/◌, ◌%◌, ◌^◌, ◌≤◌, ◌<◌}
use native.Mathlib.Nat.{le_refl, le_trans, le_of_lt, lt_of_lt_of_le, lt_of_not-le, not-le_of_lt, lt-suc_self, eq-or-lt_of_le, mul_assoc, mul-lt-mul_of_pos_right, mul-le-mul_right, pow-succ', le_of_eq, le_of_suc-le-suc}
use native.Mathlib.Decide.{le_ind}
use native.Mathlib.Omega.{arith}
use lib.Dec.{T, leb, le→leb, leb→le, lit<}
use lib.Pow.{pow_pos}
use lib.Ieee.{binary32, of_bits, le}
use lib.Ieee.Exact.{HasValue}
use lib.Ieee.Order.{le_of_values}
use Rattle.floats.specs.Step.{within}
use Rattle.floats.proofs.Tests.{same_test}
use Rattle.floats.proofs.Range.{within-value, value-within}
use Rattle.floats.proofs.Pattern.{bits-value, bits-zero-value, below_inf}

abbrev mag_at : ℕ → ℕ → ℕ
mag_at zero t = t
mag_at (suc Y) t = (8388608 + t) * 2 ^ Y

-- the size of a pattern's value, in units of 2 ^ -149
unfoldable pub mag : ℕ → ℕ
mag b = mag_at (b / 8388608) (b % 8388608)

pub pattern-value : (b : ℕ) → b < 0x7f80_0000 → HasValue (of_bits binary32 b) false (mag b) (2 ^ 149)
unfolding mag
pattern-value b h = go (b / 8388608) refl
  where
    go : (X : ℕ) → b / 8388608 ≡ X → HasValue (of_bits binary32 b) false (mag_at (b / 8388608) (b % 8388608)) (2 ^ 149)
    go zero e = rw e (subst (λ (z : ℕ). HasValue (of_bits binary32 z) false (b % 8388608) (2 ^ 149)) (omega arith) (bits-zero-value (b % 8388608) (omega arith)))
    go (suc Y) e =
        let s : suc Y * 8388608 + b % 8388608 ≡ b = omega arith in
        rw e (subst (λ (z : ℕ). HasValue (of_bits binary32 z) false ((8388608 + b % 8388608) * 2 ^ Y) (2 ^ 149)) s (bits-value Y (b % 8388608) (omega arith) (omega arith)))

up-digit : (X t : ℕ) → mag_at X t < mag_at X (suc t)
up-digit zero t = lt-suc_self t
up-digit (suc Y) t = mul-lt-mul_of_pos_right {k = 2 ^ Y} (omega arith) (pow_pos Y)

up-field : (X : ℕ) → mag_at X 8388607 < mag_at (suc X) 0
up-field zero = lit< tt
up-field (suc Y) =
    lt_of_lt_of_le (mul-lt-mul_of_pos_right {m = 16777215} {n = 16777216} {k = 2 ^ Y} (lit< tt) (pow_pos Y))
    (le_of_eq (mul_assoc 8388608 2 (2 ^ Y) ∙ ap (λ (z : ℕ). 8388608 * z) (sym (pow-succ' 2 Y))))

mag_suc : (b : ℕ) → mag b < mag (suc b)
unfolding mag
mag_suc b = go (eq-or-lt_of_le room)
  where
    room : suc (b % 8388608) ≤ 8388608
    room = omega arith

    go : (suc (b % 8388608) ≡ 8388608) ⊎ (suc (b % 8388608) < 8388608) → mag b < mag (suc b)
    go (inr l) =
        let x : suc b / 8388608 ≡ b / 8388608 = omega arith in
        let y : suc b % 8388608 ≡ suc (b % 8388608) = omega arith in
        rw (x, y) (up-digit (b / 8388608) (b % 8388608))
    go (inl e) =
        let x : suc b / 8388608 ≡ suc (b / 8388608) = omega arith in
        let y : suc b % 8388608 ≡ 0 = omega arith in
        let z : b % 8388608 ≡ 8388607 = omega arith in
        rw (x, y, z) (up-field (b / 8388608))

pub mag-mono : (a b : ℕ) → a ≤ b → mag a ≤ mag b
mag-mono a b h = le_ind (λ (m : ℕ). mag a ≤ mag m) (le_refl (mag a)) (λ m k e. le_trans e (le_of_lt (mag_suc m))) b h

pub mag-lt : (a b : ℕ) → a < b → mag a < mag b
mag-lt a b h = lt_of_lt_of_le (mag_suc a) (mag-mono (suc a) b h)

pub pattern-le : (a b : ℕ) → a < 0x7f80_0000 → b < 0x7f80_0000 → a ≤ b → T (le (of_bits binary32 a) (of_bits binary32 b))
pattern-le a b A B h =
    le_of_values (of_bits binary32 a) (of_bits binary32 b) (mag a) (2 ^ 149) (mag b) (2 ^ 149) (pow_pos 149) (pow_pos 149) (pattern-value a A) (pattern-value b B)
    (mul-le-mul_right (2 ^ 149) (mag-mono a b h))

-- a whole bound N whose own pattern is p: the test on patterns is the one on values
module _ (N p : ℕ) (is : mag p ≡ N * 2 ^ 149) (top : p < 0x7f80_0000) (b : ℕ) (b-in : b < 4294967296) where
  under : b ≤ p → T (within N (of_bits binary32 b))
  under h = value-within N (of_bits binary32 b) (mag b) (2 ^ 149) (pow_pos 149) (pattern-value b (omega arith)) (le_trans (mag-mono b p h) (le_of_eq is))

  pub within-pattern : T (within N (of_bits binary32 b)) → b ≤ p
  within-pattern w =
      let v : mag b ≤ N * 2 ^ 149 = within-value N (of_bits binary32 b) (mag b) (2 ^ 149) (pattern-value b (below_inf N b b-in w)) w in
      le_of_suc-le-suc (lt_of_not-le (λ (g : p < b). not-le_of_lt (mag-lt p b g) (le_trans v (le_of_eq (sym is)))))

  pub within-bits : leb b p ≡ within N (of_bits binary32 b)
  within-bits = same_test (leb b p) (within N (of_bits binary32 b)) (λ t. under (leb→le b p t)) (λ t. le→leb b p (within-pattern t))
