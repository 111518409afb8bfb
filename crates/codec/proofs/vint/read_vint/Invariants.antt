-- `codec::vint::read_vint` meets its contract. The loop's invariant (`Reading`): v is the number of the n bytes read, and the VInt is that
-- with what follows above it.
use Prim.Native.Nat.{◌*◌}
use Rattle.codec.proofs.OneVInt.{Reading}
use Rattle.codec.proofs.vint.read_vint.Given as goal

abbrev pub invariant-loop-n : goal.invariant-loop-n
invariant-loop-n l = Reading l.s l.end l.at l.v (7 * l.n) l.p
