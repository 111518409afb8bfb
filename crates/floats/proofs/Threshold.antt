-- Thresholds: the test of the code is the definition's, and a threshold's level says how it compares with the grid.
use mathlib.Core.Path.{◌≡◌, refl, sym, ap, ◌∙◌, subst}
use mathlib.Core.Logic.{inl, inr}
use mathlib.Core.Bool.{Bool, true, false, not, ◌&&◌, true≢false, false≢true}
use Prim.Native.Nat.{ℕ, ◌+◌, ◌-◌, ◌*◌, ◌/◌, ◌%◌, ◌≤◌, ◌<◌}
use native.Mathlib.Nat.{le_trans, le_of_eq, le_of_lt, eq-or-lt_of_le, mul-one, mul_right_comm, eq_of_mul-eq-mul_right, div-add-mod', add-mul}
use native.Mathlib.Omega.{arith}
use lib.IntN.{ℤ, pos}
use lib.Dec.{T, T_not, leb, ltb, eqb, leb→le, le→leb, ltb→lt, lt→ltb, nltb→le, eqb→eq, lit<}
use lib.Ieee.{Float, nan, inf, fin, up, down, lt, le, eq, neg}
use lib.Ieee.Fits.{down_pos, and_l, and_r, and_i, eq→eqb}
use lib.Ieee.Exact.{HasValue}
use mir.Facts.{or_yes}
use Rattle.floats.specs.Step.{within, grid_f, step_down}
use Rattle.floats.specs.Threshold.{threshold_ok}
use Rattle.floats.specs.Inner.Steps.{Steps, level}
use Rattle.floats.proofs.Stepped.{steps-within}
use Rattle.floats.proofs.Order.{le→cross, cross→le}
use Rattle.floats.proofs.Tests.{and-true, left-true, or_left, or_right, is_true, is_false, same_test, same-eqb}
use Rattle.floats.proofs.Grid.{grid-has}

-- ---- on the grid is what the cut does not change
eq-values : (x : Float) (a c m : ℕ) (e : ℤ) → 0 < c → HasValue x false a c → eq x (fin false m e) ≡ eqb (a * down e) (m * up e * c)
unfolding eq
eq-values nan a c m e C v = absurd v
eq-values (inf s) a c m e C v = absurd v
eq-values (fin true n d) a c m e C v = absurd (true≢false v.0)
eq-values (fin false n d) a c m e C v =
    let N = n * up d in
    let M = m * up e in
    let p : N * down e * c ≡ a * down e * down d = mul_right_comm N (down e) c ∙ ap (λ (z : ℕ). z * down e) v.1 ∙ mul_right_comm a (down d) (down e) in
    and-true (eqb (N * down e) (M * down d))
    ∙ same-eqb (N * down e) (M * down d) (a * down e) (M * c)
    (λ h. eq_of_mul-eq-mul_right (down d) (down_pos d) (a * down e) (M * c) (sym p ∙ ap (λ (z : ℕ). z * c) h ∙ mul_right_comm M (down d) c))
    (λ h. eq_of_mul-eq-mul_right c C (N * down e) (M * down d) (p ∙ ap (λ (z : ℕ). z * down d) h ∙ mul_right_comm M c (down d)))

pub eq-cut : (m : ℕ) (e : ℤ) → T (within 16384 (fin false m e)) → eq (step_down (fin false m e)) (fin false m e) ≡ eqb (m * up e * 1024 % down e) 0
unfolding step_down
eq-cut m e w =
    let M = m * up e * 1024 in
    let q = M / down e in
    let d : q * down e + M % down e ≡ M = div-add-mod' M (down e) in
    eq-values (grid_f q) q 1024 m e (lit< tt) (grid-has q (steps-within 16384 (fin false m e) w))
    ∙ same-eqb (q * down e) M (M % down e) 0 (λ h. omega arith) (λ h. omega arith)

-- ---- above 0
pub in-high : (x : Float) → lt (fin false 0 (pos 0)) x ≡ true → le x (fin false 125 (pos 7)) ≡ true → T (within 16000 x)
unfolding lt le
in-high nan h k = false≢true h
in-high (inf true) h k = false≢true h
in-high (inf false) h k = false≢true k
in-high (fin true m e) h k = false≢true h
in-high (fin false m e) h k =
    le→leb (m * up e) (16000 * down e) (le_trans (le_of_eq (sym (mul-one (m * up e)))) (le→cross m e 125 (pos 7) (is_true (le (fin false m e) (fin false 125 (pos 7))) k)))

pub ok-high : (x : Float) → T (within 16384 x) → T (within 16000 x) → eq (step_down x) x ≡ threshold_ok x
ok-high nan w u = absurd w
ok-high (inf s) w u = absurd w
ok-high (fin true m e) w u = absurd w
ok-high (fin false m e) w u = eq-cut m e w ∙ left-true (leb (m * up e) (16000 * down e)) (eqb (m * up e * 1024 % down e) 0) u

pub out-high : (x : Float) → lt (fin false 0 (pos 0)) x ≡ true → le x (fin false 125 (pos 7)) ≡ false → false ≡ threshold_ok x
unfolding lt
out-high nan h k = refl
out-high (inf s) h k = refl
out-high (fin true m e) h k = absurd (false≢true h)
out-high (fin false m e) h k =
    same_test false (threshold_ok (fin false m e)) (λ t. absurd t)
    (λ t. T_not (le (fin false m e) (fin false 125 (pos 7))) (is_false (le (fin false m e) (fin false 125 (pos 7))) k)
    (cross→le m e 125 (pos 7) (le_trans (le_of_eq (mul-one (m * up e))) (leb→le (m * up e) (16000 * down e) (and_l (leb (m * up e) (16000 * down e)) (eqb (m * up e * 1024 % down e) 0) t)))))

-- ---- below 0
neg→cross : (n : ℕ) (d : ℤ) (m : ℕ) (e : ℤ) → T (le (fin true n d) (fin true m e)) → m * up e * down d ≤ n * up d * down e
unfolding le
neg→cross n d m e t =
    let A = n * up d * down e in
    let B = m * up e * down d in
    elim (or_yes (ltb B A) (eqb A B && true) t) [ inl u ↦ le_of_lt (ltb→lt B A u) | inr u ↦ le_of_eq (sym (eqb→eq A B (and_l (eqb A B) true u))) ]

cross→neg : (n : ℕ) (d : ℤ) (m : ℕ) (e : ℤ) → m * up e * down d ≤ n * up d * down e → T (le (fin true n d) (fin true m e))
unfolding le
cross→neg n d m e h =
    let A = n * up d * down e in
    let B = m * up e * down d in
    elim (eq-or-lt_of_le h) [ inl p ↦ or_right (ltb B A) (eqb A B && true) (and_i (eqb A B) true (eq→eqb (sym p)) tt) | inr q ↦ or_left (ltb B A) (eqb A B && true) (lt→ltb B A q) ]

not-below : (m : ℕ) (e : ℤ) → lt (fin false m e) (fin false 0 (pos 0)) ≡ true → ⊥
unfolding lt
not-below m e h = let l = ltb→lt (m * up e * 1) (0 * down e) (is_true (ltb (m * up e * 1) (0 * down e)) h) in omega arith

pub in-low : (x : Float) → lt x (fin false 0 (pos 0)) ≡ true → le (fin true 1 (pos 0)) x ≡ true → T (within 1 (neg x))
unfolding lt le neg
in-low nan h k = false≢true h
in-low (inf true) h k = false≢true k
in-low (inf false) h k = false≢true h
in-low (fin true m e) h k =
    le→leb (m * up e) (1 * down e) (le_trans (le_of_eq (sym (mul-one (m * up e)))) (neg→cross 1 (pos 0) m e (is_true (le (fin true 1 (pos 0)) (fin true m e)) k)))
in-low (fin false m e) h k = absurd (not-below m e h)

pub ok-low : (x : Float) → lt x (fin false 0 (pos 0)) ≡ true → T (within 16384 (neg x)) → T (within 1 (neg x)) → eq (step_down (neg x)) (neg x) ≡ threshold_ok x
unfolding neg
ok-low nan h w u = absurd w
ok-low (inf s) h w u = absurd w
ok-low (fin true m e) h w u = eq-cut m e w ∙ left-true (leb (m * up e) (1 * down e)) (eqb (m * up e * 1024 % down e) 0) u
ok-low (fin false m e) h w u = absurd w

pub out-low : (x : Float) → lt x (fin false 0 (pos 0)) ≡ true → le (fin true 1 (pos 0)) x ≡ false → false ≡ threshold_ok x
out-low nan h k = refl
out-low (inf s) h k = refl
out-low (fin false m e) h k = absurd (not-below m e h)
out-low (fin true m e) h k =
    same_test false (threshold_ok (fin true m e)) (λ t. absurd t)
    (λ t. T_not (le (fin true 1 (pos 0)) (fin true m e)) (is_false (le (fin true 1 (pos 0)) (fin true m e)) k)
    (cross→neg 1 (pos 0) m e (le_trans (le_of_eq (mul-one (m * up e))) (leb→le (m * up e) (1 * down e) (and_l (leb (m * up e) (1 * down e)) (eqb (m * up e * 1024 % down e) 0) t)))))

-- ---- neither above 0 nor below: a zero of either sign, or a NaN
rest-zero : (M E : ℕ) → M ≡ 0 → M * 1024 % E ≡ 0
rest-zero M E h = omega (arith, div-add-mod' (M * 1024) E)

not-less : (a b : ℕ) → ltb a b ≡ false → b ≤ a
not-less a b h = nltb→le a b (subst (λ (t : Bool). T (not t)) (sym h) tt)

both_hold : (a b : Bool) → T a → T b → a ≡ b
both_hold a b p q = same_test a b (λ t. q) (λ t. p)

pub ok-zero : (x : Float) → lt (fin false 0 (pos 0)) x ≡ false → lt x (fin false 0 (pos 0)) ≡ false → eq x (fin false 0 (pos 0)) ≡ threshold_ok x
unfolding lt eq
ok-zero nan h k = refl
ok-zero (inf true) h k = absurd (true≢false k)
ok-zero (inf false) h k = absurd (true≢false h)
ok-zero (fin false m e) h k =
    let M = m * up e in
    let l = not-less (0 * down e) (M * 1) h in
    let z : M ≡ 0 = omega arith in
    both_hold (eqb (M * 1) (0 * down e) && true) (threshold_ok (fin false m e))
    (and_i (eqb (M * 1) (0 * down e)) true (eq→eqb {a = M * 1} {b = 0 * down e} (omega arith)) tt)
    (and_i (leb M (16000 * down e)) (eqb (M * 1024 % down e) 0) (le→leb M (16000 * down e) (omega arith)) (eq→eqb (rest-zero M (down e) z)))
ok-zero (fin true m e) h k =
    let M = m * up e in
    let l = not-less 0 (M * 1 + 0 * down e) k in
    let z : M ≡ 0 = omega arith in
    both_hold (eqb (M * 1) (0 * down e) && eqb (M * 1) 0) (threshold_ok (fin true m e))
    (and_i (eqb (M * 1) (0 * down e)) (eqb (M * 1) 0) (eq→eqb {a = M * 1} {b = 0 * down e} (omega arith)) (eq→eqb {a = M * 1} {b = 0} (omega arith)))
    (and_i (leb M (1 * down e)) (eqb (M * 1024 % down e) 0) (le→leb M (1 * down e) (omega arith)) (eq→eqb (rest-zero M (down e) z)))

-- ---- a threshold's level
pub level-steps : (x : Float) → T (threshold_ok x) → Steps x (level x) 1024
level-steps nan t = absurd t
level-steps (inf s) t = absurd t
level-steps (fin false m e) t =
    let M = m * up e * 1024 in
    let r = eqb→eq (M % down e) 0 (and_r (leb (m * up e) (16000 * down e)) (eqb (M % down e) 0) t) in
    omega (arith, div-add-mod' M (down e), add-mul 1024 (M / down e) (down e))
level-steps (fin true m e) t =
    let M = m * up e * 1024 in
    let q = M / down e in
    let l = steps-within 1 (fin false m e) (and_l (leb (m * up e) (1 * down e)) (eqb (M % down e) 0) t) in
    let r = eqb→eq (M % down e) 0 (and_r (leb (m * up e) (1 * down e)) (eqb (M % down e) 0) t) in
    let s : 1024 - q + q ≡ 1024 = omega arith in
    omega (arith, div-add-mod' M (down e), add-mul (1024 - q) q (down e), ap (λ (z : ℕ). z * down e) s)

pub level-le : (x : Float) → T (threshold_ok x) → level x ≤ 16001 * 1024
level-le nan t = absurd t
level-le (inf s) t = absurd t
level-le (fin false m e) t = omega (arith, steps-within 16000 (fin false m e) (and_l (leb (m * up e) (16000 * down e)) (eqb (m * up e * 1024 % down e) 0) t))
level-le (fin true m e) t = omega arith
