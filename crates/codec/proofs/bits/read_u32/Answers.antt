-- `codec::bits::read_u32` meets its contract. Four bytes, each below 256, make a number below 2 ^ 32, whatever they are.
use native.Mathlib.Omega.{arith}
use Rattle.codec.specs.Bits.{word_at}
use Rattle.codec.proofs.bits.read_u32.Goals as goal

pub returns : goal.returns
unfolding word_at
returns c = omega arith
