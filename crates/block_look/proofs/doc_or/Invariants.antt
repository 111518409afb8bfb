-- `doc_or` meets its contract. The loop's invariant (`Joining`): the bits of the first i steps are joined.
use Rattle.std.proofs.Common.{◌+◌, ◌≤◌, get_or}
use Rattle.block_look.specs.Inner.Joint.{steps}
use Rattle.block_look.proofs.Joins.{Joining}
use Rattle.block_look.proofs.doc_or.Given as goal

abbrev pub invariant-loop-i : goal.invariant-loop-i
invariant-loop-i l = (1 ≤ l.i) × Joining (steps (λ k. get_or l.docs (l.at + k) 0) l.base) l.all l.i
