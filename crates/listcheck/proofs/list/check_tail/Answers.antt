-- `list::check_tail` meets its contract: the tail is a block of its own, which only the list's bound covers.
use mathlib.Core.Path.{◌≡◌, sym, ◌∙◌}
use mathlib.Core.Bool.{true, false, true≢false}
use Prim.Native.Nat.{ℕ}
use lib.ListN.{set}
use native.Mathlib.Omega.{arith}
use borrow.Author.Rules.{rules}
use Rattle.notefile.specs.Lists.{full_blocks}
use Rattle.notefile.specs.Inner.Reads.{docs_of, freqs_of, DocsRead, TailValues, block_refusal}
use Rattle.note_blocks.proofs.TailBlocks.{size-tail, docs-small, freqs-small, docs-tail, freqs-tail}
use Rattle.listcheck.proofs.Judged.{docs-wrong, freqs-wrong, freqs-still, docs-both, freqs-both, tail-bounds, bounds-wrong, all_right}
use Rattle.listcheck.proofs.list.check_tail.Goals as goal
use Rattle.listcheck.proofs.list.check_tail.Goals.{After-documents, After-scores_covered}

pub documents-requires : goal.documents-requires
documents-requires c = (omega arith, c.requires.2.long-docs, λ k l. docs-small c.requires.2 k (omega arith), λ n. absurd (true≢false (sym n)))

-- what the test of the documents says, and what it leaves
docs-here : (c : After-documents) → let a = c.args in DocsRead a.file.now a.x (full_blocks a.x) c.documents.result c.documents.new.values
docs-here c = docs-tail c.requires.2 (c.last_before-previous.ensures ∙ c.requires.3) c.requires.0.limit_is c.requires.0.few c.documents.ensures

pub returns-then-not-documents : goal.returns-then-not-documents
returns-then-not-documents c = let a = c.args in docs-wrong a.file.now a.x _ (docs-here (goal.at.returns-then-not-documents c).After-documents) c.if-not-documents.true

-- the tail's values, with the documents that the test leaves
values-here : (c : After-documents) → let a = c.args in TailValues a.file.now a.x (docs_of a.block.now) (freqs_of (set a.block.now 0 c.documents.new.values))
values-here c = freqs-still c.sized.ensures.1 (docs-here c) c.requires.2

pub frequencies-requires : goal.frequencies-requires
frequencies-requires c = let R = values-here (goal.at.frequencies-requires c).After-documents in (omega arith, R.long-freqs, λ k l. freqs-small R k (omega arith))

pub returns-then-not-frequencies : goal.returns-then-not-frequencies
returns-then-not-frequencies c =
    let a = c.args in
    freqs-wrong a.file.now a.x _ (docs-here (goal.at.returns-then-not-frequencies c).After-documents) c.if-not-documents.false (freqs-tail (values-here (goal.at.returns-then-not-frequencies c).After-documents) c.frequencies.ensures) c.if-not-frequencies.true

pub scores_covered-requires : goal.scores_covered-requires
scores_covered-requires c = (c.requires.0.reader-is, c.requires.0.weighed, search rules)

-- what the tail is refused for, if the tests so far let it through
abbrev refusal-of : After-scores_covered → ℕ
refusal-of c = block_refusal c.args.file.now c.args.x (full_blocks c.args.x)

judged : (c : After-scores_covered) → (c.scores_covered.result ≡ false → 9 ≡ refusal-of c) × (c.scores_covered.result ≡ true → 0 ≡ refusal-of c)
judged c =
    let s = c.args.file.now in
    let Z = c.sized.ensures.1 in
    let R = c.requires.2 in
    let read = docs-tail R (c.last_before-previous.ensures ∙ c.requires.3) c.requires.0.limit_is c.requires.0.few c.documents.ensures in
    let left = freqs-tail (freqs-still Z read R) c.frequencies.ensures in
    let D = docs-both Z read left in
    let F = freqs-both Z read left in
    let d-right = c.if-not-documents.false in
    let f-right = c.if-not-frequencies.false in
    let B = tail-bounds s c.args.x _ D d-right F f-right c.requires.0.max-score-is (size-tail R) (omega arith) c.scores_covered.ensures in
    (bounds-wrong s c.args.x _ D d-right F f-right B, all_right s c.args.x _ D d-right F f-right B)

pub returns-then-not-scores_covered : goal.returns-then-not-scores_covered
returns-then-not-scores_covered c = (judged (goal.at.returns-then-not-scores_covered c).After-scores_covered).0 c.if-not-scores_covered.true

pub returns : goal.returns
returns c = (judged (goal.at.returns c).After-scores_covered).1 c.if-not-scores_covered.false
