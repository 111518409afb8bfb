-- `pieces::write_be` meets its contract. The invariant: k bytes are written.
use Rattle.pieces.specs.Bytes.{big_byte}
use Rattle.pieces.specs.Inner.Written.{Written}
use Rattle.pieces.proofs.write_be.Given as goal

abbrev pub invariant-loop-k : goal.invariant-loop-k
invariant-loop-k l = Written l.initial.out l.at l.k (big_byte l.n l.v) l.out
