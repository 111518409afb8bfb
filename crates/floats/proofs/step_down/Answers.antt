-- `floats::step_down` meets its contract: below 8192 the comparison with x tells a step too high from the cut, and from there on every f32 is on the grid.
use mathlib.Core.Path.{sym, subst}
use lib.Dec.{T}
use lib.Ieee.{of_bits}
use Rattle.floats.proofs.Step.{step-over, step-near, step-high, step-zero}
use Rattle.floats.proofs.step_down.Goals as goal

pub returns-then-x-2 : goal.returns-then-x-2
unfolding of_bits
returns-then-x-2 c =
    elim c.if-near-x.branch [
      | goal.then-near-x w ↦ let e = w.over-is in rw e (step-over c.args.x c.if-x.true c.if-x-2.true w.if-near-x.true)
      | goal.else-near-x w ↦ let e = w.over-is in rw e (step-near c.args.x c.if-x.true c.if-x-2.true w.if-near-x.false)
    ]

pub returns-then-x : goal.returns-then-x
unfolding of_bits
returns-then-x c = step-high c.args.x (subst T (sym c.well_formed.0.1) tt) c.if-x.true c.if-x-2.false

pub returns : goal.returns
unfolding of_bits
returns c = step-zero c.args.x c.if-x.false
