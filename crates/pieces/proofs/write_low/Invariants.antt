-- `pieces::write_low` meets its contract. The invariant: k bytes are written.
use Rattle.pieces.specs.Bytes.{little_byte}
use Rattle.pieces.specs.Inner.Written.{Written}
use Rattle.pieces.proofs.write_low.Given as goal

abbrev pub invariant-loop-k : goal.invariant-loop-k
invariant-loop-k l = Written l.initial.out l.at l.k (little_byte l.v) l.out
