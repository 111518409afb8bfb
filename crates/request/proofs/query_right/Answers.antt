-- `query_right` meets its contract: the numbers first, then how many they are.
use mathlib.Core.Path.{sym, ◌∙◌}
use Rattle.request.proofs.query_right.Goals as goal

pub returns-then-numbers_right : goal.returns-then-numbers_right
returns-then-numbers_right c = rw (sym c.numbers_right.ensures ∙ c.if-numbers_right.true) c.count_right.ensures

pub returns : goal.returns
returns c = rw (sym c.numbers_right.ensures ∙ c.if-numbers_right.false)
