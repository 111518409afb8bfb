-- `block_search::holds` meets its contract: within the block the value is looked at, behind it there is none.
use borrow.Author.Tests.{lt-ltb, le-ltb}
use Rattle.block_search.proofs.holds.Goals as goal

pub returns-then-count-lt128 : goal.returns-then-count-lt128
returns-then-count-lt128 c = rw (lt-ltb c.args.count 128 c.if-count-lt128.true)

pub returns : goal.returns
returns c = rw (le-ltb c.args.count 128 c.if-count-lt128.false)
