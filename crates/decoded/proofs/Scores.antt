-- Stepped scores and bounds of an accepted list: multiples of 1/1024 up to 1,000, and a bound that covers a score covers it after the step.
use mathlib.Core.Path.{◌≡◌}
use mathlib.Core.Bool.{false}
use Prim.Native.Nat.{◌+◌, ◌≤◌}
use native.Mathlib.Omega.{arith}
use lib.Dec.{T, lit≤}
use lib.Ieee.{Float, lt}
use Rattle.floats.specs.Step.{within, steps, step_down}
use Rattle.floats.specs.Inner.Steps.{level}
use Rattle.floats.proofs.Order.{not-above}
use Rattle.floats.proofs.Stepped.{step-grid, steps-within, steps-mono}
use Rattle.route.proofs.Stepped.{PartOf, part-level}

-- one score's worth
pub step_part : (x : Float) → T (within 1000 x) → PartOf 1 (step_down x)
step_part x w = (steps x, step-grid 1000 x w, steps-within 1000 x w)

step-level : (x : Float) → T (within 1000 x) → level (step_down x) ≡ 1024 + steps x
unfolding step_part
step-level x w = (part-level 1 (step_down x) (lit≤ tt) (step_part x w)).1

pub covers-stepped : (score bound : Float) → T (within 1000 score) → T (within 1000 bound) → lt bound score ≡ false → level (step_down score) ≤ level (step_down bound)
covers-stepped score bound p q h =
    let s = steps-mono 1000 score bound p q (not-above 1000 score bound p q h) in
    omega (arith, step-level score p, step-level bound q)
