-- Quotients and products of finite values of clear sign keep an order that holds before the rounding.
use mathlib.Core.Path.{◌≡◌, sym, ◌∙◌, subst}
use mathlib.Core.Bool.{true, false, cond, true≢false}
use Prim.Native.Nat.{ℕ, ◌*◌, ◌≤◌, ◌<◌}
use native.Mathlib.Nat.{le_refl, le_trans, le_of_eq, lt_of_lt_of_le, lt_irrefl, mul-one, mul_comm, mul_assoc, mul_left_comm}
use native.Mathlib.Nat.{mul-mul-mul_comm, mul-pos, mul-le-mul, mul-le-mul_right, le_of_mul-le-mul_right}
use lib.IntN.{ℤ}
use lib.Dec.{T, eqb}
use lib.Ieee.{Float, nan, inf, fin, binary32, up, down, round, mul, div, le}
use lib.Ieee.Fits.{up_pos, down_pos}
use lib.Ieee.Bits.{cond_no}
use lib.Ieee.Exact.{HasValue}
use lib.Ieee.Order.{round_mono}
use lib.Ieee.Positive.{first_pos}
use mir.Facts.{no_eqb}
use Rattle.floats.proofs.Range.{High, Low}
use Rattle.floats.proofs.Order.{le→cross}

-- ---- quotients
-- a divisor above 0
module _ (n : ℕ) (d : ℤ) (r s : ℕ) (R : 0 < r) (low : Low (fin false n d) r s) where
  divisor-pos : 0 < n
  divisor-pos = first_pos n (up d) (first_pos (n * up d) s (lt_of_lt_of_le (mul-pos R (down_pos d)) low))

  div_is : (m : ℕ) (e : ℤ) → div binary32 (fin false m e) (fin false n d) ≡ round binary32 false (m * up e * down d) (n * up d * down e)
  unfolding div
  div_is m e = cond_no (eqb n 0) (cond (eqb m 0) nan (inf false)) (round binary32 false (m * up e * down d) (n * up d * down e))
      (no_eqb (λ z. lt_irrefl 0 (subst (λ (k : ℕ). 0 < k) z divisor-pos)))

-- F / FE is a / c and at least r / s divides it; H / HE is b and at most p / q divides it
cross : (F FE X XE H HE Y YE a c b p q r s : ℕ) → 0 < c → 0 < q → 0 < s → F * c ≡ a * FE → H ≡ b * HE → r * XE ≤ X * s → Y * q ≤ p * YE
    → a * s * p ≤ b * q * (r * c) → F * XE * (Y * HE) ≤ H * YE * (X * FE)
cross F FE X XE H HE Y YE a c b p q r s C Q S f h x y k = le_of_mul-le-mul_right
    (le_trans (le_of_eq first) (le_trans (mul-le-mul (mul-le-mul (le_of_eq f) y) (le_refl (XE * HE * s)))
    (le_trans (le_of_eq second) (le_trans (mul-le-mul_right (FE * YE * (XE * HE)) k)
    (le_trans (le_of_eq third) (le_trans (mul-le-mul (mul-le-mul (le_of_eq (sym h)) x) (le_refl (FE * YE * (q * c))))
    (le_of_eq fourth)))))))
    (mul-pos C (mul-pos Q S))
  where
    first : F * XE * (Y * HE) * (c * (q * s)) ≡ F * c * (Y * q) * (XE * HE * s)
    first = simp (mul_assoc, mul_comm, mul_left_comm)

    second : a * FE * (p * YE) * (XE * HE * s) ≡ a * s * p * (FE * YE * (XE * HE))
    second = simp (mul_assoc, mul_comm, mul_left_comm)

    third : b * q * (r * c) * (FE * YE * (XE * HE)) ≡ b * HE * (r * XE) * (FE * YE * (q * c))
    third = simp (mul_assoc, mul_comm, mul_left_comm)

    fourth : H * (X * s) * (FE * YE * (q * c)) ≡ H * YE * (X * FE) * (c * (q * s))
    fourth = simp (mul_assoc, mul_comm, mul_left_comm)

-- a / c over at least r / s is at most b over at most p / q, where that holds of the fractions
module _ (k : ℕ) (j : ℤ) (a c b p q r s : ℕ) (C : 0 < c) (Q : 0 < q) (S : 0 < s) (R : 0 < r)
    (w : HasValue (fin false k j) false b 1) (order : a * s * p ≤ b * q * (r * c)) where
  fractions : (m : ℕ) (e : ℤ) (x y : Float) (r' s' : ℕ) → 0 < r' → HasValue (fin false m e) false a c → Low x r s → High y p q → Low y r' s'
      → T (le (div binary32 (fin false m e) x) (div binary32 (fin false k j) y))
  fractions m e nan y r' s' R' v l h g = absurd l
  fractions m e (inf t) y r' s' R' v l h g = absurd l
  fractions m e (fin true n d) y r' s' R' v l h g = absurd l
  fractions m e (fin false n d) nan r' s' R' v l h g = absurd h
  fractions m e (fin false n d) (inf t) r' s' R' v l h g = absurd h
  fractions m e (fin false n d) (fin true o i) r' s' R' v l h g = absurd h
  fractions m e (fin false n d) (fin false o i) r' s' R' v l h g =
      rw (div_is n d r s R l m e, div_is o i r' s' R' g k j)
      (round_mono binary32 (m * up e * down d) (n * up d * down e) (k * up j * down i) (o * up i * down j)
      (mul-pos (mul-pos (divisor-pos n d r s R l) (up_pos d)) (down_pos e))
      (mul-pos (mul-pos (divisor-pos o i r' s' R' g) (up_pos i)) (down_pos j))
      (cross (m * up e) (down e) (n * up d) (down d) (k * up j) (down j) (o * up i) (down i) a c b p q r s C Q S
      v.1 (sym (mul-one (k * up j)) ∙ w.1) l h order))

  pub div-rises : (u x y : Float) (r' s' : ℕ) → 0 < r' → HasValue u false a c → Low x r s → High y p q → Low y r' s'
      → T (le (div binary32 u x) (div binary32 (fin false k j) y))
  div-rises nan x y r' s' R' v l h g = absurd v
  div-rises (inf t) x y r' s' R' v l h g = absurd v
  div-rises (fin true m e) x y r' s' R' v l h g = absurd (true≢false v.0)
  div-rises (fin false m e) x y r' s' R' v l h g = fractions m e x y r' s' R' v l h g

-- ---- products
pub mul-rises : (w x y : Float) (a c b d p q : ℕ) → High w a c → High x b d → High y p q → T (le x y)
    → T (le (mul binary32 w x) (mul binary32 w y))
unfolding mul
mul-rises nan x y a c b d p q g h k l = absurd g
mul-rises (inf s) x y a c b d p q g h k l = absurd g
mul-rises (fin true m e) x y a c b d p q g h k l = absurd g
mul-rises (fin false m e) nan y a c b d p q g h k l = absurd h
mul-rises (fin false m e) (inf s) y a c b d p q g h k l = absurd h
mul-rises (fin false m e) (fin true n i) y a c b d p q g h k l = absurd h
mul-rises (fin false m e) (fin false n i) nan a c b d p q g h k l = absurd k
mul-rises (fin false m e) (fin false n i) (inf s) a c b d p q g h k l = absurd k
mul-rises (fin false m e) (fin false n i) (fin true o j) a c b d p q g h k l = absurd k
mul-rises (fin false m e) (fin false n i) (fin false o j) a c b d p q g h k l =
    round_mono binary32 (m * up e * (n * up i)) (down e * down i) (m * up e * (o * up j)) (down e * down j)
    (mul-pos (down_pos e) (down_pos i)) (mul-pos (down_pos e) (down_pos j))
    (le_trans (le_of_eq (mul-mul-mul_comm (m * up e) (n * up i) (down e) (down j)))
    (le_trans (mul-le-mul (le_refl (m * up e * down e)) (le→cross n i o j l))
    (le_of_eq (mul-mul-mul_comm (m * up e) (down e) (o * up j) (down i)))))
