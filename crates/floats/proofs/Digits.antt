-- Leading digits: a fraction of prec + k digits in units of the format's smallest value keeps prec of them, rounded, and drops k.
use mathlib.Core.Path.{◌≡◌, refl, sym, ap, ◌∙◌, subst}
use mathlib.Core.Bool.{false}
use Prim.Native.Nat.{ℕ, suc, ◌+◌, ◌-◌, ◌*◌, ◌/◌, ◌%◌, ◌^◌, ◌≤◌, ◌<◌, compare, Ordering}
use native.Mathlib.Nat.{le_trans, le_of_eq, lt_of_lt_of_le, lt_of_le_of_lt, lt_of_not-le, not-le_of_lt, mul-one, one-mul, mul_comm, mul_assoc, mul_left_comm, mul_right_comm, mul-pos, mul-le-mul_right, mul-lt-mul_of_pos_right, add_assoc, div-lt_iff_lt-mul, le-div_iff_mul-le, zero-lt-suc, le_of_lt, lt_irrefl, mod-eq_of_lt, add-sub_cancel_left}
use native.Mathlib.Numerals.{add-one}
use native.Mathlib.Omega.{arith}
use lib.Dec.{T, lit<, is_le, compare_is_eq, le→leb, leb→le, eqb→eq}
use lib.Pow.{pow-add, pow_pos, pow_mono, pow-lt}
use lib.Ieee.{Float, Format, binary32, prec, emax, low, size, nearest, units, round, mul}
use lib.Ieee.Digits.{size-lt, size-le}
use lib.Ieee.Fits.{round_is, round-fits, nearest-le, two, two-le_pos, eq→eqb}
use lib.Ieee.Nearest.{closest, closest_same, nearest-ge}
use lib.Ieee.Exact.{HasValue, units_val}
use lib.Ieee.Back.{round_whole}
use lib.Ieee.Positive.{mul_at, positive_of_value}
use Rattle.floats.specs.Step.{grid_f}
use Rattle.floats.proofs.Value.{value-unique, round-exact-le, rescale}
use Rattle.floats.proofs.Grid.{grid-has}

size-gt : (n j : ℕ) → 2 ^ j ≤ n → j < size n
size-gt n j h = lt_of_not-le (λ (g : size n ≤ j). not-le_of_lt (lt_of_lt_of_le (size-lt n) (pow_mono g)) h)

size-at : (n j : ℕ) → 2 ^ (j - 1) ≤ n → n < 2 ^ j → size n ≡ j
size-at n j a b = meet (size n) (size-le n j b) (size-gt n (j - 1) a)
  where
    meet : (z : ℕ) → z ≤ j → j - 1 < z → z ≡ j
    meet z p q = omega arith

pub closest-le : (n u b : ℕ) → 0 < u → n < b * u → closest n u ≤ b
closest-le n u b U h = le_trans (nearest-le (n / u) (compare (n % u * 2) u)) ((div-lt_iff_lt-mul U).1 h)

pub closest-ge : (n u b : ℕ) → 0 < u → b * u ≤ n → b ≤ closest n u
closest-ge n u b U h = le_trans ((le-div_iff_mul-le U).1 h) (nearest-ge (n / u) (compare (n % u * 2) u))

round-leading : (f : Format) (num den k : ℕ) → 0 < den → 2 ^ (prec f + k - 1) * den ≤ num * 2 ^ low f → num * 2 ^ low f < 2 ^ (prec f + k) * den
    → round f false num den ≡ units f false (closest (num * 2 ^ low f) (den * 2 ^ k)) k
round-leading f num den k D lo hi =
    let n = num * 2 ^ low f in
    round_is f false num den
    ∙ ap (λ (z : ℕ). units f false (closest n (den * 2 ^ z)) z)
    (ap (λ (z : ℕ). z - prec f) (size-at (n / den) (prec f + k) ((le-div_iff_mul-le D).1 lo) ((div-lt_iff_lt-mul D).1 hi)) ∙ add-sub_cancel_left (prec f) k)

-- ---- whole numbers
module _ (f : Format) (n k : ℕ) (lo : 2 ^ (prec f + k - 1) ≤ n) (hi : n < 2 ^ (prec f + k)) (room : prec f + (k + low f) < low f + suc (emax f)) where
  abbrev p : ℕ
  p = closest n (2 ^ k)

  kept-le : p ≤ 2 ^ prec f
  kept-le = closest-le n (2 ^ k) (2 ^ prec f) (pow_pos k) (lt_of_lt_of_le hi (le_of_eq (pow-add 2 (prec f) k)))

  shift-up : (p k l : ℕ) → 0 < p → p + (k + l) - 1 ≡ p + k - 1 + l
  shift-up p k l h = omega arith

  whole-units : round f false n 1 ≡ units f false p (k + low f)
  whole-units =
      let l = low f in
      round-leading f n 1 (k + l) (zero-lt-suc 0)
      (le_trans (le_of_eq (mul-one (2 ^ (prec f + (k + l) - 1)) ∙ ap (λ (z : ℕ). 2 ^ z) (shift-up (prec f) k l (two-le_pos (prec f) (two f))) ∙ pow-add 2 (prec f + k - 1) l)) (mul-le-mul_right (2 ^ l) lo))
      (lt_of_lt_of_le (mul-lt-mul_of_pos_right hi (pow_pos l)) (le_of_eq (sym (pow-add 2 (prec f + k) l) ∙ ap (λ (z : ℕ). 2 ^ z) (add_assoc (prec f) k l) ∙ sym (mul-one (2 ^ (prec f + (k + l)))))))
      ∙ ap (λ (z : ℕ). units f false z (k + l)) (closest_same (n * 2 ^ l) (1 * 2 ^ (k + l)) n (2 ^ k) (mul-pos (zero-lt-suc 0) (pow_pos (k + l))) (pow_pos k)
      (mul_assoc n (2 ^ l) (2 ^ k) ∙ ap (λ (z : ℕ). n * z) (mul_comm (2 ^ l) (2 ^ k) ∙ sym (pow-add 2 k l) ∙ sym (one-mul (2 ^ (k + l))))))

  fine : p * 2 ^ (k + low f) < 2 ^ (low f + suc (emax f))
  fine = lt_of_le_of_lt (le_trans (mul-le-mul_right (2 ^ (k + low f)) kept-le) (le_of_eq (sym (pow-add 2 (prec f) (k + low f))))) (pow-lt room)

  same_size : p * 2 ^ k * 2 ^ low f ≡ p * 2 ^ (k + low f) * 1
  same_size = mul_assoc p (2 ^ k) (2 ^ low f) ∙ ap (λ (z : ℕ). p * z) (sym (pow-add 2 k (low f))) ∙ sym (mul-one (p * 2 ^ (k + low f)))

  -- a whole number of prec + k digits, and its rounded digits times 2 ^ k, round to one value
  pub whole-rounds : round f false n 1 ≡ round f false (p * 2 ^ k) 1
  whole-rounds =
      let l = low f in
      value-unique f (round f false n 1) (round f false (p * 2 ^ k) 1) false (p * 2 ^ k) 1 (zero-lt-suc 0) (round-fits f false n 1) (round-fits f false (p * 2 ^ k) 1)
      (subst (λ (x : Float). HasValue x false (p * 2 ^ k) 1) (sym whole-units) (rescale (units f false p (k + l)) false (p * 2 ^ (k + l)) (2 ^ l) (p * 2 ^ k) 1 (pow_pos l) same_size (units_val f false p (k + l) fine)))
      (round-exact-le f false (p * 2 ^ k) 1 p (k + l) (zero-lt-suc 0) kept-le fine same_size)

-- two whole numbers up to 2 ^ prec, as floats, multiplied: their product, rounded once
pub mul-whole : (f : Format) (a b : ℕ) → 0 < a → 0 < b → a ≤ 2 ^ prec f → b ≤ 2 ^ prec f → mul f (round f false a 1) (round f false b 1) ≡ round f false (a * b) 1
mul-whole f a b A B h k =
    let v = round_whole f false a h in
    let w = round_whole f false b k in
    mul_at f (round f false a 1) (round f false b 1) a 1 b 1 (positive_of_value (round f false a 1) a 1 v A) (positive_of_value (round f false b 1) b 1 w B) (zero-lt-suc 0) (zero-lt-suc 0) v w

-- ---- from 8192 up to 16384 an f32 is a multiple of 1/1024
module _ (num den : ℕ) (D : 0 < den) (lo : 8192 * den ≤ num) (hi : num < 16384 * den) where
  abbrev q : ℕ
  q = closest (num * 1024) den

  q-le : q ≤ 2 ^ 24
  q-le = closest-le (num * 1024) den (2 ^ 24) D (lt_of_lt_of_le (mul-lt-mul_of_pos_right hi (zero-lt-suc 1023)) (le_of_eq (mul_right_comm 16384 den 1024)))

  base-units : round binary32 false num den ≡ units binary32 false q 139
  base-units =
      round-leading binary32 num den 139 D
      (le_trans (le_of_eq (mul_right_comm 8192 (2 ^ 149) den)) (mul-le-mul_right (2 ^ 149) lo))
      (lt_of_lt_of_le (mul-lt-mul_of_pos_right hi (pow_pos 149)) (le_of_eq (mul_right_comm 16384 den (2 ^ 149))))
      ∙ ap (λ (z : ℕ). units binary32 false z 139) (closest_same (num * 2 ^ 149) (den * 2 ^ 139) (num * 1024) den (mul-pos D (pow_pos 139)) D
      (mul_assoc num (2 ^ 149) den ∙ ap (λ (z : ℕ). num * z) (mul_comm (2 ^ 149) den ∙ sym (mul_left_comm 1024 den (2 ^ 139))) ∙ sym (mul_assoc num 1024 (den * 2 ^ 139))))

  -- so what is rounded there is rounded to the nearest step
  pub base-rounds : round binary32 false num den ≡ grid_f q
  unfolding grid_f
  base-rounds =
      value-unique binary32 (round binary32 false num den) (round binary32 false q 1024) false q 1024 (zero-lt-suc 1023) (round-fits binary32 false num den) (round-fits binary32 false q 1024)
      (subst (λ (x : Float). HasValue x false q 1024) (sym base-units) (rescale (units binary32 false q 139) false (q * 2 ^ 139) (2 ^ 149) q 1024 (pow_pos 149) (sym (mul_assoc q (2 ^ 139) 1024)) (units_val binary32 false q 139 (lt_of_le_of_lt (mul-le-mul_right (2 ^ 139) q-le) (lit< tt)))))
      (grid-has q q-le)

-- ---- the three ways that a remainder can go
ord-lt : (a b : ℕ) → a < b → compare a b ≡ Ordering.lt
ord-lt a b h = go (compare a b) (le→leb a b (le_of_lt h)) (λ t. lt_irrefl b (subst (λ (x : ℕ). x < b) (eqb→eq a b t) h))
  where
    go : (o : Ordering) → T (is_le o) → (T (compare_is_eq o) → ⊥) → o ≡ Ordering.lt
    go Ordering.lt p n = refl
    go Ordering.eq p n = absurd (n tt)
    go Ordering.gt p n = absurd p

ord-gt : (a b : ℕ) → b < a → compare a b ≡ Ordering.gt
ord-gt a b h = go (compare a b) (λ t. not-le_of_lt h (leb→le a b t))
  where
    go : (o : Ordering) → (T (is_le o) → ⊥) → o ≡ Ordering.gt
    go Ordering.lt n = absurd (n tt)
    go Ordering.eq n = absurd (n tt)
    go Ordering.gt n = refl

ord-eq : (a b : ℕ) → a ≡ b → compare a b ≡ Ordering.eq
ord-eq a b h = go (compare a b) (eq→eqb h)
  where
    go : (o : Ordering) → T (compare_is_eq o) → o ≡ Ordering.eq
    go Ordering.lt p = absurd p
    go Ordering.eq p = refl
    go Ordering.gt p = absurd p

pub closest-down : (n u : ℕ) → n % u * 2 < u → n / u ≡ closest n u
closest-down n u h = sym (ap (nearest (n / u)) (ord-lt (n % u * 2) u h))

pub closest-up : (n u : ℕ) → u < n % u * 2 → n / u + 1 ≡ closest n u
closest-up n u h = add-one (n / u) ∙ sym (ap (nearest (n / u)) (ord-gt (n % u * 2) u h))

pub closest-tie : (n u : ℕ) → n % u * 2 ≡ u → n / u + n / u % 2 ≡ closest n u
closest-tie n u h = sym (ap (nearest (n / u)) (ord-eq (n % u * 2) u h))

-- 1 << k, in 32 bits
pub one_shift : (k : ℕ) → k < 32 → 1 * 2 ^ k % 4294967296 ≡ 2 ^ k
one_shift k h = ap (λ (z : ℕ). z % 2 ^ 32) (one-mul (2 ^ k)) ∙ mod-eq_of_lt (pow-lt {j = 32} h)
