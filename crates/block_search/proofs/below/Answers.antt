-- `block_search::below` meets its contract: each way is one case of the test.
use mathlib.Core.Path.{sym, ap}
use native.Mathlib.Omega.{arith}
use borrow.Author.Tests.{lt-ltb, le-ltb}
use Rattle.block_search.specs.Search.{one_if}
use Rattle.block_search.proofs.below.Goals as goal

pub returns-then-x-target : goal.returns-then-x-target
returns-then-x-target c = (sym (ap one_if (lt-ltb c.args.x c.args.target c.if-x-target.true)), omega arith)

pub returns-else-x-target : goal.returns-else-x-target
returns-else-x-target c = (sym (ap one_if (le-ltb c.args.x c.args.target c.if-x-target.false)), omega arith)
