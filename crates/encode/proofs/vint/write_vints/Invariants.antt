-- `encode::vint::write_vints` meets its contract. The loop's invariant (`RowWriting`): i VInts are written, and the next comes to p.
use lib.ListN.{get_or}
use Rattle.encode.proofs.VIntRows.{RowWriting}
use Rattle.encode.proofs.vint.write_vints.Given as goal

abbrev pub invariant-loop-i : goal.invariant-loop-i
invariant-loop-i l = RowWriting (λ k. get_or l.values k 0) l.initial.out l.at l.n l.out l.p l.i
