-- What the step gives of a score: a value on the grid, no larger than the score, the largest such, at most the score's own bound; and it keeps the order.
use mathlib.Core.Path.{◌≡◌, refl, ap, ◌∙◌, subst}
use mathlib.Core.Bool.{true, false, true≢false}
use Prim.Native.Nat.{ℕ, ◌*◌, ◌/◌, ◌≤◌, ◌<◌}
use native.Mathlib.Nat.{le_trans, le_of_eq, mul_right_comm, mul-le-mul_right, mul-div_cancel, div-mul-le_self}
use native.Mathlib.Omega.{arith}
use lib.Dec.{T, leb→le, le→leb, lit<}
use lib.Ieee.{Float, nan, inf, fin, binary32, up, down, fits, le}
use lib.Ieee.Fits.{down_pos, inf-fits, round-fits}
use lib.Ieee.Nearest.{div_same, div_mono}
use lib.Ieee.Exact.{HasValue}
use lib.Ieee.Order.{le_of_values}
use Rattle.floats.specs.Step.{within, grid_f, steps, step_down}
use Rattle.floats.proofs.Grid.{grid-has, grid-le}
use Rattle.floats.proofs.Order.{le→cross}
use Rattle.floats.proofs.Range.{value-within}

-- steps by any fraction that x equals
pub steps-at : (x : Float) (a c : ℕ) → 0 < c → HasValue x false a c → steps x ≡ a * 1024 / c
steps-at nan a c C v = absurd v
steps-at (inf s) a c C v = absurd v
steps-at (fin true m e) a c C v = absurd (true≢false v.0)
steps-at (fin false m e) a c C v =
    div_same (m * up e * 1024) (down e) (a * 1024) c (down_pos e) C (mul_right_comm (m * up e) 1024 c ∙ ap (λ (z : ℕ). z * 1024) v.1 ∙ mul_right_comm a (down e) 1024)

pub steps-within : (N : ℕ) (x : Float) → T (within N x) → steps x ≤ N * 1024
steps-within N nan w = absurd w
steps-within N (inf s) w = absurd w
steps-within N (fin true m e) w = absurd w
steps-within N (fin false m e) w =
    le_trans (div_mono (m * up e * 1024) (down e) (N * 1024 * down e) (down e) (down_pos e) (down_pos e)
    (mul-le-mul_right (down e) (le_trans (mul-le-mul_right 1024 (leb→le (m * up e) (N * down e) w)) (le_of_eq (mul_right_comm N (down e) 1024)))))
    (le_of_eq (mul-div_cancel (N * 1024) (down_pos e)))

-- a stepped score is on the grid
pub step-grid : (N : ℕ) (x : Float) → T (within N x) → step_down x ≡ grid_f (steps x)
unfolding step_down
step-grid N nan w = absurd w
step-grid N (inf s) w = absurd w
step-grid N (fin s m e) w = refl

pub step_fits : (x : Float) → T (fits binary32 (step_down x))
unfolding step_down grid_f
step_fits nan = round-fits binary32 false 0 1024
step_fits (inf true) = round-fits binary32 false 0 1024
step_fits (inf false) = inf-fits binary32 false
step_fits (fin s m e) = round-fits binary32 false (steps (fin s m e)) 1024

pub grid-within : (N n : ℕ) → N ≤ 16384 → n ≤ N * 1024 → T (within N (grid_f n))
grid-within N n h k = value-within N (grid_f n) n 1024 (lit< tt) (grid-has n (omega arith)) k

pub step-within : (N : ℕ) (x : Float) → N ≤ 16384 → T (within N x) → T (within N (step_down x))
step-within N x h w = rw (step-grid N x w) (grid-within N (steps x) h (steps-within N x w))

-- ---- order
pub steps-mono : (N : ℕ) (x y : Float) → T (within N x) → T (within N y) → T (le x y) → steps x ≤ steps y
steps-mono N nan y w u h = absurd w
steps-mono N (inf s) y w u h = absurd w
steps-mono N (fin true m e) y w u h = absurd w
steps-mono N (fin false m e) nan w u h = absurd u
steps-mono N (fin false m e) (inf s) w u h = absurd u
steps-mono N (fin false m e) (fin true n d) w u h = absurd u
steps-mono N (fin false m e) (fin false n d) w u h =
    div_mono (m * up e * 1024) (down e) (n * up d * 1024) (down d) (down_pos e) (down_pos d)
    (le_trans (le_of_eq (mul_right_comm (m * up e) 1024 (down d))) (le_trans (mul-le-mul_right 1024 (le→cross m e n d h)) (le_of_eq (mul_right_comm (n * up d) (down e) 1024))))

pub step-keeps-order : (N : ℕ) (x y : Float) → N ≤ 16384 → T (within N x) → T (within N y) → T (le x y) → T (le (step_down x) (step_down y))
step-keeps-order N x y h w u l =
    let a = steps-within N x w in
    let b = steps-within N y u in
    rw (step-grid N x w, step-grid N y u, grid-le (steps x) (steps y) (omega arith) (omega arith)) (le→leb (steps x) (steps y) (steps-mono N x y w u l))

-- ---- the step is the largest multiple of 1/1024 that is not above
pub step-below : (N : ℕ) (x : Float) → N ≤ 16384 → T (within N x) → T (le (step_down x) x)
step-below N nan h w = absurd w
step-below N (inf s) h w = absurd w
step-below N (fin true m e) h w = absurd w
step-below N (fin false m e) h w =
    let q = m * up e * 1024 / down e in
    let s : q ≤ N * 1024 = steps-within N (fin false m e) w in
    rw (step-grid N (fin false m e) w)
    (le_of_values (grid_f q) (fin false m e) q 1024 (m * up e) (down e) (lit< tt) (down_pos e) (grid-has q (omega arith)) (refl, refl) (div-mul-le_self (m * up e * 1024) (down e)))

pub step-greatest : (N : ℕ) (x : Float) (k : ℕ) → N ≤ 16384 → T (within N x) → k ≤ N * 1024 → T (le (grid_f k) x) → k ≤ steps x
step-greatest N x k h w g l =
    subst (λ (z : ℕ). z ≤ steps x) (steps-at (grid_f k) k 1024 (lit< tt) (grid-has k (omega arith)) ∙ mul-div_cancel k (lit< tt))
    (steps-mono N (grid_f k) x (grid-within N k h g) w l)
