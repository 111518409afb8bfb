-- `check_head` meets its contract: rows 1 to 4 in number order.
use mathlib.Core.Path.{◌≡◌, refl, sym, ◌∙◌}
use mathlib.Core.Bool.{true}
use Rattle.arrays.specs.Every.{every}
use Rattle.contents.specs.Contents.{lists}
use Rattle.contents.specs.Refusal.{head_right, list_right}
use Rattle.contents.specs.Inner.Handed.{contents_in}
use Rattle.contents.proofs.Heads.{few-lists, weights-long}
use Rattle.contentcheck.proofs.Order.{one, two, three, four, none}
use Rattle.contentcheck.proofs.check_head.Goals as goal
use Rattle.contentcheck.proofs.check_head.Goals.{After-head_right, After-lists_right, Else-not-head_right}

-- what each call answers
row1 : (c : After-head_right) → let a = c.args in
    c.head_right.result ≡ head_right (contents_in a.c)
row1 c = let a = c.args in c.head_right.ensures a.c.norms.now a.c.weights.now a.c.counts.now a.c.docs.now a.c.freqs.now refl

row4 : (c : After-lists_right) → let a = c.args in let d = contents_in a.c in
    c.lists_right.result ≡ every (lists d) (list_right d)
unfolding list_right
row4 c = c.lists_right.ensures

-- what the first test has shown
head_ok : (c : Else-not-head_right) → let a = c.args in
    head_right (contents_in a.c) ≡ true
head_ok c =
    let a = c.args in
    sym (c.head_right.ensures a.c.norms.now a.c.weights.now a.c.counts.now a.c.docs.now a.c.freqs.now refl) ∙ c.if-not-head_right.false

pub returns-then-not-head_right : goal.returns-then-not-head_right
returns-then-not-head_right c = one _ (sym (row1 (goal.at.returns-then-not-head_right c).After-head_right) ∙ c.if-not-head_right.true)

pub returns-then-not-average_right : goal.returns-then-not-average_right
returns-then-not-average_right c =
    two _ (head_ok (goal.at.returns-then-not-average_right c).Else-not-head_right) (sym c.average_right.ensures ∙ c.if-not-average_right.true)

pub buffers_right-requires : goal.buffers_right-requires
buffers_right-requires c = few-lists _ (head_ok (goal.at.buffers_right-requires c).Else-not-head_right)

pub returns-then-not-buffers_right : goal.returns-then-not-buffers_right
returns-then-not-buffers_right c =
    three _ (head_ok (goal.at.returns-then-not-buffers_right c).Else-not-head_right) (sym c.average_right.ensures ∙ c.if-not-average_right.false) (sym c.buffers_right.ensures ∙ c.if-not-buffers_right.true)

pub lists_right-requires : goal.lists_right-requires
lists_right-requires c = weights-long _ (sym c.buffers_right.ensures ∙ c.if-not-buffers_right.false)

pub returns-then-not-lists_right : goal.returns-then-not-lists_right
returns-then-not-lists_right c =
    four _ (head_ok ((goal.at.returns-then-not-lists_right c).Else-not-head_right)) (sym c.average_right.ensures ∙ c.if-not-average_right.false) (sym c.buffers_right.ensures ∙ c.if-not-buffers_right.false) (sym (row4 (goal.at.returns-then-not-lists_right c).After-lists_right) ∙ c.if-not-lists_right.true)

pub returns : goal.returns
returns c =
    none _ (head_ok ((goal.at.returns c).Else-not-head_right)) (sym c.average_right.ensures ∙ c.if-not-average_right.false) (sym c.buffers_right.ensures ∙ c.if-not-buffers_right.false) (sym (row4 (goal.at.returns c).After-lists_right) ∙ c.if-not-lists_right.false)
