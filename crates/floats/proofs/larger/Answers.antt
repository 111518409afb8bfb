-- `floats::larger` meets its contract: its test is the definition's.
use Rattle.floats.specs.Inner.Maximum.{larger}
use Rattle.floats.proofs.larger.Goals as goal

pub returns-then-x-y : goal.returns-then-x-y
unfolding larger
returns-then-x-y c = rw c.if-x-y.true

pub returns : goal.returns
unfolding larger
returns c = rw c.if-x-y.false
