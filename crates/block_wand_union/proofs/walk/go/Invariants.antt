-- `walk::go` meets its contract: each turn is the route's next, and the loop stops where a report is due, at the end, or after so many turns.
use Prim.Native.Nat.{◌-◌}
use Rattle.term_scorer.specs.Inner.Slots.{held}
use Rattle.union_turn.specs.Inner.Runs.{place_of}
use Rattle.block_wand_union.proofs.Runs.{OnWay}
use Rattle.block_wand_union.proofs.walk.go.Given as goal

abbrev pub invariant-loop-leg : goal.invariant-loop-leg
invariant-loop-leg l =
    OnWay l.file l.lists l.leg.similarity.scoring l.norms l.leg.threshold (place_of l.file l.lists l.leg.similarity.scoring l.initial.now l.initial.order l.initial.places) l.leg.turns (held l.places l.blocks) l.floats l.now l.order l.taken

abbrev pub decreases-loop-leg : goal.decreases-loop-leg
decreases-loop-leg l = l.leg.turns - l.taken
