-- `go` meets its contract: each turn of its loop comes to the least document, and takes it.
use Prim.Native.Nat.{◌-◌}
use Rattle.term_scorer.specs.Inner.Slots.{held}
use Rattle.plain_scan.proofs.Scanning.{Upward}
use Rattle.plain_scan.proofs.go.Given as goal

abbrev pub invariant-loop-taken : goal.invariant-loop-taken
invariant-loop-taken l =
    Upward l.leg.similarity.scoring l.file l.lists l.n l.all l.leg.threshold l.turns l.initial.at l.taken l.at (held l.places l.blocks) l.heads

abbrev pub decreases-loop-taken : goal.decreases-loop-taken
decreases-loop-taken l =
    2147483647 - l.at
