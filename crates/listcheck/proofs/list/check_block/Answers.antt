-- `list::check_block` meets its contract: where nothing was found before, the bounds decide.
use mathlib.Core.Path.{◌≡◌, refl, sym, ap, ◌∙◌}
use mathlib.Core.Bool.{true, false}
use Prim.Native.Nat.{ℕ}
use native.Mathlib.Omega.{arith}
use borrow.Author.Tests.{leb-true}
use Rattle.notefile.specs.Conditions.{block_docs_right, block_freqs_right, bounds_right}
use Rattle.notefile.specs.Inner.Reads.{block_refusal}
use Rattle.std.proofs.lemmas.Result.{err_from_is_err_and}
use Rattle.outcome.specs.Refusals.{number_of, refusal_number}
use Rattle.outcome.proofs.ByNumber.{no-refusal}
use Rattle.listcheck.proofs.Covers.{narrow_exact, docs-below}
use Rattle.listcheck.proofs.Judged.{refused-before, full-bounds, bounds-wrong, all_right}
use Rattle.listcheck.proofs.list.check_block.Goals as goal
use Rattle.listcheck.proofs.list.check_block.Goals.{After-block_covered}

pub returns-in_err-found : goal.returns-in_err-found
returns-in_err-found c =
    let s = c.args.file.now in
    let x = c.args.x in
    let b = c.args.b in
    let p = err_from_is_err_and c.from_residual.result c.from_residual.ensures.1 in
    let r = c.in_err-found.field-0.0 in
    let e : refusal_number c.args.found ≡ number_of r = ap refusal_number c.in_err-found.was in
    rw (p.1, p.2)
    (sym e ∙ refused-before (block_docs_right s x b) (block_freqs_right s x b) (bounds_right s x b) c.requires.3.same (λ z. (no-refusal r).0 (sym e ∙ z)))

pub block_covered-requires : goal.block_covered-requires
block_covered-requires c =
    let none = ap refusal_number c.in_ok-found.was in
    let R = c.requires.3 in
    (docs-below c.requires.1 (R.docs-read none) c.requires.0.limit_is, λ s. narrow_exact c.requires.1 c.args.e c.requires.2 (R.freqs-read none) refl (omega (arith, leb-true)))

-- what the bounds' test says of the block
abbrev refusal-of : After-block_covered → ℕ
refusal-of c = block_refusal c.args.file.now c.args.x c.args.b

judged : (c : After-block_covered) → (c.block_covered.result ≡ false → 9 ≡ refusal-of c) × (c.block_covered.result ≡ true → 0 ≡ refusal-of c)
judged c =
    let s = c.args.file.now in
    let x = c.args.x in
    let b = c.args.b in
    let none = ap refusal_number c.in_ok-found.was in
    let g = c.requires.0 in
    let D = c.requires.3.docs-read none in
    let F = c.requires.3.freqs-read none in
    let B = full-bounds s x b D refl F refl c.requires.1.full (λ i. (c.type_inv.file i).fits) g.limits c.args.w g.weighed g.reader-is c.args.e c.requires.2 g.max-score-is c.block_covered.ensures in
    (bounds-wrong s x b D refl F refl B, all_right s x b D refl F refl B)

pub returns-then-not-block_covered : goal.returns-then-not-block_covered
returns-then-not-block_covered c = (judged (goal.at.returns-then-not-block_covered c).After-block_covered).0 c.if-not-block_covered.true

pub returns : goal.returns
returns c = (judged (goal.at.returns c).After-block_covered).1 c.if-not-block_covered.false
