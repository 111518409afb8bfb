-- `sum_rests` meets its contract: each turn writes the sum so far and adds one bound to it.
use Prim.Native.Nat.{◌-◌, ◌<◌}
use native.Mathlib.Omega.{arith}
use lib.ListN.{get_or}
use lib.Ieee.{of_bits}
use Rattle.intersection_window.proofs.Summing.{begun, ended, goes_on}
use Rattle.intersection_window.proofs.window.sum_rests.Goals as goal
use Rattle.intersection_window.proofs.window.sum_rests.Goals.{In-loop-i}

slot-in : (l : In-loop-i) → get_or l.args.order.now (l.loop-i.i - 1) 0 < 16
slot-in l = l.requires.2 (l.loop-i.i - 1) (omega (arith, l.loop-i.invariant.high))

pub loop-i-init : goal.loop-i-init
unfolding of_bits
loop-i-init c = begun _ _ _ c.requires.0 c.requires.3

pub offset_bounds-floats-q : goal.offset_bounds-floats-q
offset_bounds-floats-q c = omega (arith, slot-in (goal.at.offset_bounds-floats-q c).In-loop-i)

pub bounds-floats-q : goal.bounds-floats-q
bounds-floats-q c = omega (arith, slot-in (goal.at.bounds-floats-q c).In-loop-i)

pub loop-i-preserved : goal.loop-i-preserved
loop-i-preserved c = goes_on _ _ _ c.requires.1 c.told-order c.loop-i.invariant (omega arith)

pub returns : goal.returns
returns c = ended _ _ _ c.requires.1 c.told-order c.loop-i.invariant (omega arith)
