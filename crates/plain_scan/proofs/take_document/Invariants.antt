-- `take_document` meets its contract: after q turns the first q slots have been asked.
use Prim.Native.Nat.{◌-◌}
use Rattle.term_scorer.specs.Inner.Slots.{held}
use Rattle.plain_scan.proofs.Taking.{Taking}
use Rattle.plain_scan.proofs.take_document.Given as goal

abbrev pub invariant-loop-q : goal.invariant-loop-q
invariant-loop-q l = Taking l.similarity.scoring l.file l.lists l.n l.doc l.found (held l.places l.blocks) l.heads l.q
