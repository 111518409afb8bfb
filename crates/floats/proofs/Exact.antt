-- Stepped sums and differences are exact (01, Scores): up to 16 scores of the grid, each at most 1,000, add up without rounding, in whatever order, and so
-- does a threshold less such a sum.
use mathlib.Core.Path.{◌≡◌, refl, ap, ◌∙◌, subst}
use mathlib.Core.List.{List, [], ◌∷◌}
use Prim.Native.Nat.{ℕ, ◌+◌, ◌*◌, ◌^◌, ◌≤◌}
use native.Mathlib.Nat.{add-zero}
use native.Mathlib.Omega.{arith}
use lib.Dec.{T}
use lib.ListN.{length}
use lib.Ieee.{Float, binary32, add, sub}
use Rattle.floats.specs.Step.{grid_f}
use Rattle.floats.specs.Threshold.{threshold_ok}
use Rattle.floats.specs.Inner.Steps.{Steps, level}
use Rattle.floats.proofs.Steps.{steps-sub}
use Rattle.floats.proofs.Grid.{grid-add, grid-steps}
use Rattle.floats.proofs.Threshold.{level-steps, level-le}

-- a list's sum of floats, from the left, as a run adds them; the same list as step counts, and their sum
abbrev pub add_all : Float → List Float → Float
add_all s [] = s
add_all s (x ∷ xs) = add_all (add binary32 s x) xs

abbrev pub grids : List ℕ → List Float
grids [] = []
grids (n ∷ ns) = grid_f n ∷ grids ns

abbrev pub total : ℕ → List ℕ → ℕ
total s [] = s
total s (n ∷ ns) = total (s + n) ns

abbrev pub Each : ℕ → List ℕ → Type 0
Each b [] = Unit
Each b (n ∷ ns) = (n ≤ b) × Each b ns

pub sum-exact : (s : ℕ) (ns : List ℕ) → Each 1024000 ns → s + length ns * 1024000 ≤ 2 ^ 24 → add_all (grid_f s) (grids ns) ≡ grid_f (total s ns)
sum-exact s [] e h = refl
sum-exact s (n ∷ ns) e h =
    ap (λ (x : Float). add_all x (grids ns)) (grid-add s n (omega arith) (omega (arith, e.0)))
    ∙ sum-exact (s + n) ns e.1 (omega (arith, e.0))

pub difference-exact : (t : Float) (n : ℕ) → T (threshold_ok t) → n ≤ 16384000 → Steps (sub binary32 t (grid_f n)) (level t) (1024 + n)
difference-exact t n ok h =
    let l = level-le t ok in
    subst (λ (z : ℕ). Steps (sub binary32 t (grid_f n)) z (1024 + n)) (add-zero (level t))
    (steps-sub t (grid_f n) (level t) 1024 n 0 (level-steps t ok) (grid-steps n (omega arith)) (omega arith) (omega arith))
