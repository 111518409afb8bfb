-- `floats::threshold_ok` meets its contract: on the grid is what the step does not change, and the comparisons are the range's.
use lib.Dec.{T, lit≤}
use lib.Ieee.{of_bits, neg}
use Rattle.floats.specs.Step.{within}
use Rattle.floats.proofs.Range.{within_more}
use Rattle.floats.proofs.Threshold.{in-high, ok-high, out-high, in-low, ok-low, out-low, ok-zero}
use Rattle.floats.proofs.threshold_ok.Goals as goal
use Rattle.floats.proofs.threshold_ok.Goals.{Then-x-2, Then-x-4}

high : (c : Then-x-2) → T (within 16000 c.args.x)
unfolding of_bits
high c = in-high c.args.x c.if-x.true c.if-x-2.true

pub returns-then-x-2 : goal.returns-then-x-2
returns-then-x-2 c =
    let x = c.args.x in
    rw c.step_down.ensures (ok-high x (within_more 16000 16384 x (lit≤ tt) (high (goal.at.returns-then-x-2 c).Then-x-2)) (high (goal.at.returns-then-x-2 c).Then-x-2))

pub returns-then-x : goal.returns-then-x
unfolding of_bits
returns-then-x c = out-high c.args.x c.if-x.true c.if-x-2.false

low : (c : Then-x-4) → T (within 1 (neg c.args.x))
unfolding of_bits neg
low c = in-low c.args.x c.if-x-3.true c.if-x-4.true

pub returns-then-x-4 : goal.returns-then-x-4
unfolding of_bits
returns-then-x-4 c =
    let x = c.args.x in
    rw c.step_down-then-x-4.ensures (ok-low x c.if-x-3.true (within_more 1 16384 (neg x) (lit≤ tt) (low (goal.at.returns-then-x-4 c).Then-x-4)) (low (goal.at.returns-then-x-4 c).Then-x-4))

pub returns-then-x-3 : goal.returns-then-x-3
unfolding of_bits neg
returns-then-x-3 c = out-low c.args.x c.if-x-3.true c.if-x-4.false

pub returns : goal.returns
unfolding of_bits
returns c = ok-zero c.args.x c.if-x.false c.if-x-3.false
