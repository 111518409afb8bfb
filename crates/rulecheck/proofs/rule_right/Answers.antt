-- `rule_right` meets its contract, test by test.
use mathlib.Core.Path.{sym, ◌∙◌}
use borrow.Author.Tests.{le-leb, lt-leb}
use borrow.Author.Rules.{rules}
use Rattle.rulecheck.proofs.rule_right.Goals as goal

pub returns-then-threshold_right : goal.returns-then-threshold_right
returns-then-threshold_right c =
    rw (c.in-Script.is, sym c.threshold_right.ensures ∙ c.if-threshold_right.true) c.script_right.ensures

pub returns-then-k-ge1 : goal.returns-then-k-ge1
returns-then-k-ge1 c =
    rw (c.in-BestK.is, sym c.threshold_right-in-BestK.ensures ∙ c.if-threshold_right-2.true, le-leb 1 _ c.if-k-ge1.true)

pub returns-else-threshold_right : goal.returns-else-threshold_right
returns-else-threshold_right c = rw (c.in-Script.is, sym c.threshold_right.ensures ∙ c.if-threshold_right.false)

pub returns-else-k-ge1 : goal.returns-else-k-ge1
returns-else-k-ge1 c =
    rw (c.in-BestK.is, sym c.threshold_right-in-BestK.ensures ∙ c.if-threshold_right-2.true, lt-leb 1 _ c.if-k-ge1.false)

pub returns-else-threshold_right-2 : goal.returns-else-threshold_right-2
returns-else-threshold_right-2 c = rw (c.in-BestK.is, sym c.threshold_right-in-BestK.ensures ∙ c.if-threshold_right-2.false)
