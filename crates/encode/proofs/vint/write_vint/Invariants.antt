-- `encode::vint::write_vint` meets its contract. The loop's invariant (`Writing`): n bytes are written, and those of the rest follow them.
-- The measure is how many of five bytes are left.
use Prim.Native.Nat.{◌-◌}
use Rattle.encode.proofs.ShortVInts.{Writing}
use Rattle.encode.proofs.vint.write_vint.Given as goal

abbrev pub invariant-loop-rest : goal.invariant-loop-rest
invariant-loop-rest l = Writing l.initial.out l.at l.v l.out l.rest l.n

abbrev pub decreases-loop-rest : goal.decreases-loop-rest
decreases-loop-rest l = 5 - l.n
