-- `list::code_byte` meets its contract: the code is a byte by its type.
use borrow.Author.Rules.{rules}
use Rattle.list_price.proofs.list.code_byte.Goals as goal

pub returns-in-FromData : goal.returns-in-FromData
returns-in-FromData c = rw c.in-FromData.is tt

pub returns-in-Const : goal.returns-in-Const
returns-in-Const c = rw c.in-Const.is (search rules)
