-- `go` meets its contract: each turn is one of the route, until one has a report, the route is over or all are taken.
use Prim.Native.Nat.{◌-◌}
use Rattle.term_scorer.specs.Inner.Slots.{held}
use Rattle.intersection_order.specs.Inner.Scorers.{query}
use Rattle.block_wand_intersection.proofs.Going.{Going}
use Rattle.block_wand_intersection.proofs.go.Given as goal

abbrev pub invariant-loop-leg : goal.invariant-loop-leg
invariant-loop-leg l =
    Going (query l.leg.similarity l.file l.lists l.norms l.initial.v.len l.order) l.leg.threshold l.leg.turns l.initial.v (held l.initial.places l.initial.blocks) l.initial.floats l.taken l.v (held l.places l.blocks) l.floats

abbrev pub decreases-loop-leg : goal.decreases-loop-leg
decreases-loop-leg l =
    l.leg.turns - l.taken
