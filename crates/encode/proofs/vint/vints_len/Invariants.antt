-- `encode::vint::vints_len` meets its contract. The loop's invariant (`Summing`): the lengths of i VInts are summed.
use lib.ListN.{get_or}
use Rattle.encode.proofs.VIntRows.{Summing}
use Rattle.encode.proofs.vint.vints_len.Given as goal

abbrev pub invariant-loop-i : goal.invariant-loop-i
invariant-loop-i l = Summing (λ k. get_or l.values k 0) l.n l.sum l.i
