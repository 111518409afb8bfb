-- `bits` meets its contract: there are at most 32 leading zeros.
use Rattle.std.proofs.Common.{refl}
use lib.Count.{leading_le}
use Rattle.block_look.proofs.bits.Goals as goal

pub overflow_sub-result : goal.overflow_sub-result
overflow_sub-result c = leading_le 32 c.args.x

pub returns : goal.returns
returns c = refl
