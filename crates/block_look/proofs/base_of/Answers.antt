-- `base_of` meets its contract. Each way is one case of `start_of`.
use Rattle.std.proofs.Common.{refl}
use Rattle.block_look.proofs.base_of.Goals as goal

pub returns-else-first : goal.returns-else-first
returns-else-first c = rw c.if-first.false refl
