-- `scan::go` meets its contract: each stretch of turns is the route's, and so is why the last one ended.
use Prim.Native.Nat.{◌-◌}
use Rattle.term_scorer.specs.Inner.Slots.{held}
use Rattle.block_wand_single.proofs.Going.{Going}
use Rattle.block_wand_single.proofs.scan.go.Given as goal

abbrev pub invariant-loop-leg : goal.invariant-loop-leg
invariant-loop-leg l =
    Going l.file l.leg.similarity l.lists l.norms l.leg.threshold l.leg.turns l.initial.single (held l.initial.places l.initial.blocks) l.taken l.single (held l.places l.blocks) l.floats

abbrev pub decreases-loop-leg : goal.decreases-loop-leg
decreases-loop-leg l = l.leg.turns - l.taken
