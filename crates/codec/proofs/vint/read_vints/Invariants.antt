-- `codec::vint::read_vints` meets its contract. The loop's invariant (`Reading`): i whole VInts are read, and the next stands at p.
use Rattle.codec.proofs.VIntRow.{Reading}
use Rattle.codec.proofs.vint.read_vints.Given as goal

abbrev pub invariant-loop-i : goal.invariant-loop-i
invariant-loop-i l = Reading l.s l.end l.at l.n l.initial.out l.out l.p l.i
