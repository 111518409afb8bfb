-- A fraction from 1/4 on, which is in the normal range, rounds to an f32 that differs from it by at most one part in 2 ^ 24.
use mathlib.Core.Path.{◌≡◌, sym, ap, ◌∙◌}
use mathlib.Core.Logic.{⊎_elim}
use mathlib.Core.Bool.{true, false, true≢false}
use Prim.Native.Nat.{ℕ, ◌+◌, ◌-◌, ◌*◌, ◌/◌, ◌%◌, ◌^◌, ◌≤◌, ◌<◌}
use native.Mathlib.Nat.{le_refl, le_trans, le_of_eq, mul_comm, mul_assoc, mul_left_comm, mul_right_comm, mul-pos, mul-le-mul}
use native.Mathlib.Nat.{mul-le-mul_right, le_of_mul-le-mul_right, add-mul, div-add-mod', div-mul-le_self, mod-lt}
use native.Mathlib.Omega.{arith}
use lib.Dec.{lit≤}
use lib.Pow.{pow-add, pow_pos}
use lib.Ieee.{Float, nan, inf, fin, binary32, up, down, size, round}
use lib.Ieee.Digits.{size_reaches}
use lib.Ieee.Fits.{down_pos}
use lib.Ieee.Nearest.{closest}
use lib.Ieee.Exact.{HasValue}
use lib.Ieee.Order.{drop}
use lib.Ieee.Scale.{grid, round_val, normal_of_fraction}
use Rattle.arrays.proofs.Order.{lt-or-ge}
use Rattle.floats.proofs.Digits.{closest-down, closest-up, closest-tie}
use Rattle.floats.proofs.Range.{High, Low, round-either, high-not-inf}

-- ---- the whole number c nearest to a / b is off by at most a half
record Near (a b c : ℕ) : Type 0 where
  over : c * b * 2 ≤ a * 2 + b
  under : a * 2 ≤ c * b * 2 + b

module _ (a b : ℕ) (B : 0 < b) where
  beside : (t : ℕ) → a / b + t ≡ closest a b → t * b * 2 ≤ a % b * 2 + b → a % b * 2 ≤ t * b * 2 + b
      → Near a b (closest a b)
  beside t e h k =
      let parts : a / b * b + a % b ≡ a = div-add-mod' a b in
      let whole : closest a b * b ≡ a / b * b + t * b = ap (λ (z : ℕ). z * b) (sym e) ∙ add-mul (a / b) t b in
      record { over = omega arith; under = omega arith }

  bit : (w : ℕ) → w % 2 * b ≤ b
  bit w = let l : w % 2 * b ≤ 1 * b = mul-le-mul_right b (let k : w % 2 ≤ 1 = omega arith in k) in omega arith

  nearest-to : Near a b (closest a b)
  nearest-to =
      let r = mod-lt a B in
      ⊎_elim (λ l. beside 0 (let e = closest-down a b l in omega arith) (omega arith) (omega arith))
      (λ l. ⊎_elim (λ k. beside 1 (closest-up a b k) (omega arith) (omega arith))
      (λ k. let e : a % b * 2 ≡ b = omega arith in let z = bit (a / b) in
      beside (a / b % 2) (closest-tie a b e) (omega arith) (omega arith))
      (lt-or-ge b (a % b * 2))) (lt-or-ge (a % b * 2) b)

-- ---- by a value
pub high-of-value : (x : Float) (g U p q : ℕ) → 0 < U → HasValue x false g U → g * q ≤ p * U → High x p q
high-of-value nan g U p q u v h = v
high-of-value (inf s) g U p q u v h = v
high-of-value (fin true m e) g U p q u v h = absurd (true≢false v.0)
high-of-value (fin false m e) g U p q u v h = le_of_mul-le-mul_right
    (le_trans (le_of_eq (mul_right_comm (m * up e) q U ∙ ap (λ (z : ℕ). z * q) v.1 ∙ mul_right_comm g (down e) q))
    (le_trans (mul-le-mul_right (down e) h) (le_of_eq (mul_right_comm p U (down e))))) u

pub low-of-value : (x : Float) (g U p q : ℕ) → 0 < U → HasValue x false g U → p * U ≤ g * q → Low x p q
low-of-value nan g U p q u v h = v
low-of-value (inf s) g U p q u v h = v
low-of-value (fin true m e) g U p q u v h = absurd (true≢false v.0)
low-of-value (fin false m e) g U p q u v h = le_of_mul-le-mul_right
    (le_trans (le_of_eq (mul_right_comm p (down e) U)) (le_trans (mul-le-mul_right (down e) h)
    (le_of_eq (mul_right_comm g q (down e) ∙ ap (λ (z : ℕ). z * q) (sym v.1) ∙ mul_right_comm (m * up e) U q)))) u

pub value-high : (x : Float) (g U p q : ℕ) → HasValue x false g U → High x p q → g * q ≤ p * U
value-high nan g U p q v h = absurd v
value-high (inf s) g U p q v h = absurd v
value-high (fin true m e) g U p q v h = absurd h
value-high (fin false m e) g U p q v h = le_of_mul-le-mul_right
    (le_trans (le_of_eq (mul_right_comm g q (down e) ∙ ap (λ (z : ℕ). z * q) (sym v.1) ∙ mul_right_comm (m * up e) U q))
    (le_trans (mul-le-mul_right U h) (le_of_eq (mul_right_comm p (down e) U)))) (down_pos e)

pub value_low : (x : Float) (g U p q : ℕ) → HasValue x false g U → Low x p q → p * U ≤ g * q
value_low nan g U p q v h = absurd v
value_low (inf s) g U p q v h = absurd v
value_low (fin true m e) g U p q v h = absurd h
value_low (fin false m e) g U p q v h = le_of_mul-le-mul_right
    (le_trans (le_of_eq (mul_right_comm p U (down e))) (le_trans (mul-le-mul_right U h)
    (le_of_eq (mul_right_comm (m * up e) q U ∙ ap (λ (z : ℕ). z * q) v.1 ∙ mul_right_comm g (down e) q)))) (down_pos e)

-- ---- the fraction num / den, at least 1/4
all_digits : (z : ℕ) → 24 ≤ z → 23 + (z - 24) < z
all_digits z h = omega arith

-- in units: g of the rounded value, a / c of the fraction, b / c of the last digit kept
upper : (g c a b cb : ℕ) → g * c ≡ cb → cb * 2 ≤ a * 2 + b → 8388608 * b ≤ a → g * (16777216 * c) ≤ 16777217 * a
upper g c a b cb e h k = let z : g * (16777216 * c) ≡ 16777216 * (g * c) = mul_left_comm g 16777216 c in omega arith

lower : (g c a b cb : ℕ) → g * c ≡ cb → a * 2 ≤ cb * 2 + b → 8388608 * b ≤ a → 16777215 * a ≤ g * (16777216 * c)
lower g c a b cb e h k = let z : g * (16777216 * c) ≡ 16777216 * (g * c) = mul_left_comm g 16777216 c in omega arith

module _ (num den : ℕ) (D : 0 < den) (large : den ≤ 4 * num) where
  abbrev a : ℕ
  a = num * 2 ^ 149

  abbrev k : ℕ
  k = drop 24 a den

  normal : 2 ^ 23 * den ≤ a
  normal =
      let more : 33554432 ≤ 2 ^ 149 = lit≤ tt in
      le_trans (mul-le-mul (le_refl 8388608) large) (le_trans (le_of_eq (sym (mul_assoc 8388608 4 num)))
      (le_trans (mul-le-mul_right num more) (le_of_eq (mul_comm (2 ^ 149) num))))

  last : 8388608 * (den * 2 ^ k) ≤ a
  last =
      let digits = all_digits (size (a / den)) (normal_of_fraction binary32 num den D normal) in
      let reach : 2 ^ (23 + k) ≤ a / den = size_reaches (a / den) (23 + k) digits in
      le_trans (le_of_eq (mul_left_comm 8388608 den (2 ^ k) ∙ ap (λ (z : ℕ). den * z) (sym (pow-add 2 23 k)) ∙ mul_comm den (2 ^ (23 + k))))
      (le_trans (mul-le-mul_right den reach) (div-mul-le_self a den))

  same : grid binary32 num den * den ≡ closest a (den * 2 ^ k) * (den * 2 ^ k)
  same = mul_assoc (closest a (den * 2 ^ k)) (2 ^ k) den ∙ ap (λ (z : ℕ). closest a (den * 2 ^ k) * z) (mul_comm (2 ^ k) den)

  near : Near a (den * 2 ^ k) (closest a (den * 2 ^ k))
  near = nearest-to a (den * 2 ^ k) (mul-pos D (pow_pos k))

  module _ (p q : ℕ) (fine : High (round binary32 false num den) p q) where
    rounded : HasValue (round binary32 false num den) false (grid binary32 num den) (2 ^ 149)
    rounded =
        ⊎_elim (λ e. absurd (high-not-inf (round binary32 false num den) p q fine e)) (round_val binary32 num den) (round-either num den)

    pub round-high : High (round binary32 false num den) (16777217 * num) (16777216 * den)
    round-high =
        high-of-value (round binary32 false num den) (grid binary32 num den) (2 ^ 149) (16777217 * num) (16777216 * den)
        (pow_pos 149) rounded
        (le_trans (upper (grid binary32 num den) den a (den * 2 ^ k) (closest a (den * 2 ^ k) * (den * 2 ^ k)) same near.over last)
        (le_of_eq (sym (mul_assoc 16777217 num (2 ^ 149)))))

    pub round-low : Low (round binary32 false num den) (16777215 * num) (16777216 * den)
    round-low =
        low-of-value (round binary32 false num den) (grid binary32 num den) (2 ^ 149) (16777215 * num) (16777216 * den)
        (pow_pos 149) rounded
        (le_trans (le_of_eq (mul_assoc 16777215 num (2 ^ 149)))
        (lower (grid binary32 num den) den a (den * 2 ^ k) (closest a (den * 2 ^ k) * (den * 2 ^ k)) same near.under last))
