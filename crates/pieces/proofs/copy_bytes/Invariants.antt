-- `pieces::copy_bytes` meets its contract. The invariant: i bytes are written.
use lib.ListN.{get_or}
use Rattle.pieces.specs.Inner.Written.{Written}
use Rattle.pieces.proofs.copy_bytes.Given as goal

abbrev pub invariant-loop-i : goal.invariant-loop-i
invariant-loop-i l = Written l.initial.out l.at l.i (λ k. get_or l.from k 0) l.out
