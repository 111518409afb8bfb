-- `codec::bits::read_be` meets its contract. The loop's invariant: v is the field of the i bytes read, and one more byte makes it eight bits longer (`bits-more`).
use mathlib.Core.Path.{◌≡◌}
use Prim.Native.Nat.{◌*◌, ◌≤◌}
use Rattle.codec.specs.Bits.{bits_at}
use Rattle.codec.proofs.bits.read_be.Given as goal

abbrev pub invariant-loop-i : goal.invariant-loop-i
invariant-loop-i l = (l.i ≤ l.n) × (l.v ≡ bits_at l.s (8 * l.at) (8 * l.i))
