-- `tests::docs_right` meets its contract: the first document, the last and the steps between them say all that row 7 asks.
use mathlib.Core.Path.{◌≡◌, sym, ◌∙◌}
use mathlib.Core.Bool.{false, true≢false}
use Prim.Native.Nat.{◌<◌}
use lib.ListN.{get_or}
use Rattle.std.proofs.Common.{◌+◌}
use Rattle.std.proofs.lemmas.List.Edits.{length-between, get_or-between}
use native.Mathlib.Omega.{arith}
use Rattle.compression.proofs.Differences.{part-rises}
use Rattle.posting_tests.proofs.Rows.{first-low, rest-right}
use Rattle.posting_tests.proofs.tests.docs_right.Goals as goal
use Rattle.posting_tests.proofs.tests.docs_right.Goals.{Joined-not-first}

-- a block that is not its list's first lies above the document before it
front : (c : Joined-not-first) → let a = c.args in a.first ≡ false → a.previous < get_or a.docs.now a.at 0
front c e = elim c.if-not-first.branch [ goal.then-not-first+else-docs-at w ↦ w.if-docs-at.false | goal.else-not-first w ↦ absurd (true≢false (sym w.if-not-first.false ∙ e)) ]

pub returns-then-docs-at : goal.returns-then-docs-at
returns-then-docs-at c =
    let a = c.args in
    first-low a.docs.now a.at a.n a.first a.previous a.limit c.if-n-eq0.false c.if-not-first.true c.if-docs-at.true

pub returns : goal.returns
returns c =
    let a = c.args in
    rest-right a.docs.now a.at a.n a.first a.previous a.limit c.if-n-eq0.false (front (goal.at.returns c).Joined-not-first) c.if-limit-docs.false
    (c.rising.ensures
    ∙ part-rises (λ k. get_or a.docs.now (a.at + k) 0) _ a.n (length-between a.docs.now a.at (a.at + a.n) c.requires ∙ omega arith)
    (λ k l. get_or-between a.docs.now a.at (a.at + a.n) k 0 (omega arith)))
