-- `head_right` meets its contract: the tests are those of row 1, in its order.
use mathlib.Core.Path.{◌≡◌, ◌∙◌}
use mathlib.Core.Bool.{cond}
use lib.Dec.{eqb, leb}
use borrow.Author.Tests.{le-leb, lt-leb, eq-eqb, ne_eqb}
use Rattle.contentcheck.proofs.Rows.{head_tests, by-head}
use Rattle.contentcheck.proofs.head_right.Goals as goal
use Rattle.contentcheck.proofs.head_right.Goals.{Else-h-gt1}

pub returns-then-lists-gt16 : goal.returns-then-lists-gt16
returns-then-lists-gt16 c = let a = c.args in by-head a.h a.lists (simp (lt-leb a.lists 16 c.if-lists-gt16.true))

pub returns-then-h-gt1048576 : goal.returns-then-h-gt1048576
returns-then-h-gt1048576 c =
    let a = c.args in
    by-head a.h a.lists (simp (le-leb a.lists 16 c.if-lists-gt16.false, lt-leb a.h.documents 1048576 c.if-h-gt1048576.true))

pub returns-then-h-gt1 : goal.returns-then-h-gt1
returns-then-h-gt1 c =
    let a = c.args in
    by-head a.h a.lists
    (simp (le-leb a.lists 16 c.if-lists-gt16.false, le-leb a.h.documents 1048576 c.if-h-gt1048576.false, lt-leb a.h.kind 1 c.if-h-gt1.true))

-- what the first three tests have shown
passed : (c : Else-h-gt1) → let h = c.args.h in
    head_tests h c.args.lists ≡ cond (eqb h.kind 0) (eqb h.code 0) (leb h.code 255)
passed c =
    let a = c.args in
    simp (le-leb a.lists 16 c.if-lists-gt16.false, le-leb a.h.documents 1048576 c.if-h-gt1048576.false, le-leb a.h.kind 1 c.if-h-gt1.false)

pub returns-then-h-eq0 : goal.returns-then-h-eq0
returns-then-h-eq0 c =
    let h = c.args.h in
    by-head h _ (passed (goal.at.returns-then-h-eq0 c).Else-h-gt1 ∙ simp (eq-eqb h.kind 0 c.if-h-eq0.true))

pub returns : goal.returns
returns c =
    let h = c.args.h in
    by-head h _ (passed (goal.at.returns c).Else-h-gt1 ∙ simp (ne_eqb h.kind 0 c.if-h-eq0.false))
