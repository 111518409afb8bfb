-- `structs::keep_order` meets its contract: each turn writes the next scorer's slot.
use mathlib.Core.Path.{refl, ◌≡◌}
use native.Mathlib.Omega.{arith}
use Rattle.ordering.specs.Inner.Scorers.{no_scorer, slot_of}
use Rattle.term_scorer.specs.Inner.Slots.{Sixteen}
use Rattle.ordering.proofs.Rows.{fills, put-behind, untouched, row-long}
use Rattle.slot_pivot.proofs.structs.keep_order.Goals as goal
use Rattle.slot_pivot.proofs.structs.keep_order.Goals.{Start}

-- an array of 16, by the struct's type
sixteen : (a : Start) → Sixteen a.args.scorers.scorers
sixteen a = a.well_formed.0.1.1.0.1.0.1

pub loop-i-init : goal.loop-i-init
loop-i-init c = (omega arith, c.told-order, refl, untouched)

pub loop-i-preserved : goal.loop-i-preserved
loop-i-preserved c =
    let long = sixteen (goal.at.loop-i-preserved c).Start in
    (omega arith, row-long c.loop-i.order c.loop-i.i _ c.loop-i.invariant.1, fills slot_of c.args.scorers.scorers c.loop-i.order c.loop-i.i no_scorer (omega arith) (omega (arith, c.loop-i.invariant.1)) c.loop-i.invariant.2 refl, put-behind c.loop-i.invariant.3 c.loop-i.i _ (omega arith))

pub returns : goal.returns
returns c =
    let e : c.loop-i.i ≡ c.args.scorers.len = omega arith in
    record { are = rw e at c.loop-i.invariant.2; few = omega arith; long = c.loop-i.invariant.1; behind = c.loop-i.invariant.3 }
