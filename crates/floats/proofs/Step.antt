-- The step: x + 8192 rounds to a multiple of 1/1024, less 8192 that is the cut of x or one step more, and a comparison with x tells which.
use mathlib.Core.Path.{◌≡◌, refl, sym, ap, ◌∙◌}
use mathlib.Core.Bool.{true, false, true≢false, false≢true}
use Prim.Native.Nat.{ℕ, zero, suc, ◌+◌, ◌-◌, ◌*◌, ◌/◌, ◌%◌, ◌^◌, ◌≤◌, ◌<◌, suc-le-suc}
use native.Mathlib.Nat.{le_trans, le_of_eq, lt_of_lt_of_le, lt_of_le_of_lt, lt_of_not-le, not-le_of_lt, mul-one, mul_assoc, mul_right_comm, mul-le-mul_right, mul-div_cancel, div-mul-le_self, div-lt_iff_lt-mul, le-div_iff_mul-le, div-add-mod', mod-lt, add-mul, zero-mul, div-one, div-eq_of_lt, lt_of_mul-lt-mul_right, mul-lt-mul_of_pos_right}
use native.Mathlib.Omega.{arith}
use lib.Dec.{T, ltb, lit<}
use lib.IntN.{ℤ, pos, negsuc}
use lib.Pow.{pow-add, pow_pos, pow_mono}
use lib.Ieee.{Float, nan, inf, fin, binary32, up, down, round, fits, add, sub, lt}
use lib.Ieee.Fits.{down_pos}
use lib.Ieee.Nearest.{closest}
use lib.Ieee.Exact.{HasValue}
use borrow.Author.Tests.{ltb-true, ltb-false}
use Rattle.floats.specs.Step.{grid_f, step_down}
use Rattle.floats.proofs.Tests.{same-ltb}
use Rattle.floats.proofs.Value.{round-of-value, held}
use Rattle.floats.proofs.Digits.{closest-le, closest-ge, base-rounds}
use Rattle.floats.proofs.Sum.{add_at}
use Rattle.floats.proofs.Grid.{grid-has, grid-sub}

-- ---- comparison with a value
pub lt-value : (m : ℕ) (e : ℤ) (y : Float) (a c : ℕ) → 0 < c → HasValue y false a c → lt (fin false m e) y ≡ ltb (m * up e * c) (a * down e)
unfolding lt
lt-value m e nan a c C v = absurd v
lt-value m e (inf s) a c C v = absurd v
lt-value m e (fin true n d) a c C v = absurd (true≢false v.0)
lt-value m e (fin false n d) a c C v =
    let M = m * up e in
    let N = n * up d in
    let left : M * c * down d ≡ M * down d * c = mul_right_comm M c (down d) in
    let right : a * down e * down d ≡ N * down e * c = mul_right_comm a (down e) (down d) ∙ ap (λ (z : ℕ). z * down e) (sym v.1) ∙ mul_right_comm N c (down e) in
    same-ltb (M * down d) (N * down e) (M * c) (a * down e)
    (λ h. lt_of_mul-lt-mul_right (down d) (lt_of_le_of_lt (le_of_eq left) (lt_of_lt_of_le (mul-lt-mul_of_pos_right h C) (le_of_eq (sym right)))))
    (λ h. lt_of_mul-lt-mul_right c (lt_of_le_of_lt (le_of_eq (sym left)) (lt_of_lt_of_le (mul-lt-mul_of_pos_right h (down_pos d)) (le_of_eq right))))

-- ---- below 8192
abbrev base : Float
base = fin false 1 (pos 13)

base-is : base ≡ grid_f 8388608
unfolding grid_f round
base-is = refl

abbrev one-step : Float
one-step = fin false 1 (negsuc 9)

one-step-is : one-step ≡ grid_f 1
unfolding grid_f round
one-step-is = refl

abbrev zero-f : Float
zero-f = fin false 0 (pos 0)

zero_is : zero-f ≡ grid_f 0
unfolding grid_f round
zero_is = refl

module _ (m : ℕ) (e : ℤ) (small : m * up e < 8192 * down e) where
  abbrev x : Float
  x = fin false m e

  abbrev M : ℕ
  M = m * up e * 1024

  -- the cut of x, in steps; the rounded sum; that less 8192
  abbrev s : ℕ
  s = M / down e

  abbrev q : ℕ
  q = closest ((m * up e + 8192 * down e) * 1024) (down e)

  abbrev d : ℕ
  d = q - 8388608

  parts : s * down e + M % down e ≡ M
  parts = div-add-mod' M (down e)

  s-small : s < 8388608
  s-small = (div-lt_iff_lt-mul (down_pos e)).1 (omega arith)

  q-low : s + 8388608 ≤ q
  q-low = closest-ge ((m * up e + 8192 * down e) * 1024) (down e) (s + 8388608) (down_pos e) (omega (arith, parts, add-mul s 8388608 (down e)))

  q-high : q ≤ s + 8388609
  q-high = closest-le ((m * up e + 8192 * down e) * 1024) (down e) (s + 8388609) (down_pos e) (omega (arith, parts, add-mul s 8388609 (down e), mod-lt M (down_pos e)))

  near-is : sub binary32 (add binary32 x base) base ≡ grid_f d
  near-is =
      ap (λ (z : Float). sub binary32 z base)
      (add_at binary32 x base (m * up e) (8192 * down e) (down e) (down_pos e) (refl, refl) (refl, sym (mul-one (8192 * down e)))
      ∙ base-rounds (m * up e + 8192 * down e) (down e) (down_pos e) (omega arith) (omega arith))
      ∙ ap (sub binary32 (grid_f q)) base-is
      ∙ grid-sub q 8388608 (omega (arith, q-high, s-small)) (omega (arith, q-low))

  test-is : lt x (grid_f d) ≡ ltb M (d * down e)
  test-is = lt-value m e (grid_f d) d 1024 (lit< tt) (grid-has d (omega (arith, q-high, s-small)))

  over : lt x (grid_f d) ≡ true → d ≡ s + 1
  over t =
      let l : M < d * down e = ltb-true M (d * down e) (sym test-is ∙ t) in
      let k : s < d = lt_of_not-le (λ (g : d ≤ s). not-le_of_lt l (le_trans (mul-le-mul_right (down e) g) (div-mul-le_self M (down e)))) in
      omega (arith, q-high)

  not-over : lt x (grid_f d) ≡ false → d ≡ s
  not-over t =
      let k : d ≤ s = (le-div_iff_mul-le (down_pos e)).1 (ltb-false M (d * down e) (sym test-is ∙ t)) in
      omega (arith, q-low)

  pub cut-over : lt x (sub binary32 (add binary32 x base) base) ≡ true → sub binary32 (sub binary32 (add binary32 x base) base) one-step ≡ step_down x
  unfolding step_down
  cut-over t =
      ap (λ (z : Float). sub binary32 z one-step) near-is
      ∙ ap (sub binary32 (grid_f d)) one-step-is
      ∙ grid-sub d 1 (omega (arith, q-high, s-small)) (let o = over (ap (lt x) (sym near-is) ∙ t) in omega arith)
      ∙ ap grid_f (let o = over (ap (lt x) (sym near-is) ∙ t) in omega arith)

  pub cut-near : lt x (sub binary32 (add binary32 x base) base) ≡ false → sub binary32 (sub binary32 (add binary32 x base) base) zero-f ≡ step_down x
  unfolding step_down
  cut-near t =
      ap (λ (z : Float). sub binary32 z zero-f) near-is
      ∙ ap (sub binary32 (grid_f d)) zero_is
      ∙ grid-sub d 0 (omega (arith, q-high, s-small)) (omega arith)
      ∙ ap grid_f (let n = not-over (ap (lt x) (sym near-is) ∙ t) in omega arith)

-- ---- from 8192 on every f32 is a multiple of 1/1024
-- a value of n steps is the grid's
pub grid-unique : (x : Float) (n : ℕ) → T (fits binary32 x) → HasValue x false n 1024 → x ≡ grid_f n
unfolding grid_f
grid-unique x n p v = sym (round-of-value binary32 x false n 1024 (lit< tt) p v)

pub cut_high : (m : ℕ) (e : ℤ) → T (fits binary32 (fin false m e)) → 8192 * down e ≤ m * up e → fin false m e ≡ step_down (fin false m e)
unfolding step_down
cut_high zero e p h = absurd (not-le_of_lt (down_pos e) (omega (arith, zero-mul (up e))))
cut_high (suc m) (pos k) p h =
    let n = suc m * 2 ^ k * 1024 in
    grid-unique (fin false (suc m) (pos k)) n p (refl, sym (mul-one n)) ∙ ap grid_f (sym (div-one n))
cut_high (suc m) (negsuc k) p h =
    let few : suc m < 2 ^ 24 = (held binary32 false m (negsuc k) p).0 in
    let k-le : k < 10 = lt_of_not-le (λ (g : 10 ≤ k). let w : 2 ^ 11 ≤ 2 ^ suc k = pow_mono {i = 11} (suc-le-suc g) in omega arith) in
    let r : 2 ^ (9 - k) * 2 ^ suc k ≡ 1024 = sym (pow-add 2 (9 - k) (suc k)) ∙ ap (λ (z : ℕ). 2 ^ z) (let z : 9 - k + suc k ≡ 10 = omega arith in z) in
    let n = suc m * 2 ^ (9 - k) in
    let same : suc m * 1 * 1024 ≡ n * 2 ^ suc k = ap (λ (z : ℕ). z * 1024) (mul-one (suc m)) ∙ ap (λ (z : ℕ). suc m * z) (sym r) ∙ sym (mul_assoc (suc m) (2 ^ (9 - k)) (2 ^ suc k)) in
    grid-unique (fin false (suc m) (negsuc k)) n p (refl, same) ∙ ap grid_f (sym (ap (λ (z : ℕ). z / 2 ^ suc k) same ∙ mul-div_cancel n (pow_pos (suc k))))

-- ---- the code's four ways, for every f32

abbrev near : Float → Float
near x = sub binary32 (add binary32 x base) base

below-base : (m : ℕ) (e : ℤ) → lt (fin false m e) base ≡ true → m * up e < 8192 * down e
unfolding lt
below-base m e t = let l = ltb-true (m * up e * 1) (8192 * down e) t in omega arith

from-base : (m : ℕ) (e : ℤ) → lt (fin false m e) base ≡ false → 8192 * down e ≤ m * up e
unfolding lt
from-base m e t = let l = ltb-false (m * up e * 1) (8192 * down e) t in omega arith

pub step-over : (x : Float) → lt zero-f x ≡ true → lt x base ≡ true → lt x (near x) ≡ true → sub binary32 (near x) one-step ≡ step_down x
unfolding lt
step-over nan p h t = absurd (false≢true p)
step-over (inf true) p h t = absurd (false≢true p)
step-over (inf false) p h t = absurd (false≢true h)
step-over (fin true m e) p h t = absurd (false≢true p)
step-over (fin false m e) p h t = cut-over m e (below-base m e h) t

pub step-near : (x : Float) → lt zero-f x ≡ true → lt x base ≡ true → lt x (near x) ≡ false → sub binary32 (near x) zero-f ≡ step_down x
unfolding lt
step-near nan p h t = absurd (false≢true p)
step-near (inf true) p h t = absurd (false≢true p)
step-near (inf false) p h t = absurd (false≢true h)
step-near (fin true m e) p h t = absurd (false≢true p)
step-near (fin false m e) p h t = cut-near m e (below-base m e h) t

pub step-high : (x : Float) → T (fits binary32 x) → lt zero-f x ≡ true → lt x base ≡ false → x ≡ step_down x
unfolding lt step_down
step-high nan f p h = absurd (false≢true p)
step-high (inf true) f p h = absurd (false≢true p)
step-high (inf false) f p h = refl
step-high (fin true m e) f p h = absurd (false≢true p)
step-high (fin false m e) f p h = cut_high m e f (from-base m e h)

pub step-zero : (x : Float) → lt zero-f x ≡ false → zero-f ≡ step_down x
unfolding lt step_down grid_f round
step-zero nan p = refl
step-zero (inf true) p = refl
step-zero (inf false) p = absurd (true≢false p)
step-zero (fin true m e) p = refl
step-zero (fin false m e) p =
    let l = ltb-false (0 * down e) (m * up e * 1) p in
    let z : m * up e ≡ 0 = omega arith in
    ap grid_f (sym (ap (λ (k : ℕ). k * 1024 / down e) z ∙ div-eq_of_lt (down_pos e)))
