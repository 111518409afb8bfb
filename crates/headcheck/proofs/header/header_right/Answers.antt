-- `header::header_right` meets its contract: the tests are those of condition 1, in its order.
use mathlib.Core.Path.{◌≡◌, sym, ◌∙◌}
use mathlib.Core.Bool.{true, cond}
use lib.Dec.{eqb}
use lib.ListN.{length}
use borrow.Author.Rules.{rules}
use borrow.Author.Tests.{le-leb, lt-leb, eq-eqb, ne_eqb}
use Rattle.notefile.specs.Conditions.{header_right}
use Rattle.notefile.proofs.Headers.{header-tests}
use Rattle.headcheck.proofs.header.header_right.Goals as goal
use Rattle.headcheck.proofs.header.header_right.Goals.{Else-h-gt-MAX_DOCUMENTS}

pub returns-then-file-lt-HEADER_LENGTH : goal.returns-then-file-lt-HEADER_LENGTH
unfolding header_right
returns-then-file-lt-HEADER_LENGTH c = let s = c.args.file.now in sym (simp (lt-leb 9 (length s) c.if-file-lt-HEADER_LENGTH.true))

pub returns-then-h-ne-VERSION : goal.returns-then-h-ne-VERSION
returns-then-h-ne-VERSION c =
    let s = c.args.file.now in
    let h = c.read_header-h.result in
    sym (header-tests s h c.read_header-h.ensures ∙ simp (le-leb 9 (length s) c.if-file-lt-HEADER_LENGTH.false, ne_eqb h.version 1 c.if-h-ne-VERSION.true))

pub returns-then-h-ne0 : goal.returns-then-h-ne0
returns-then-h-ne0 c =
    let s = c.args.file.now in
    let h = c.read_header-h.result in
    sym (header-tests s h c.read_header-h.ensures ∙ simp (le-leb 9 (length s) c.if-file-lt-HEADER_LENGTH.false, eq-eqb h.version 1 c.if-h-ne-VERSION.false, ne_eqb h.spare 0 c.if-h-ne0.true))

pub returns-then-h-gt-MAX_LISTS : goal.returns-then-h-gt-MAX_LISTS
returns-then-h-gt-MAX_LISTS c =
    let s = c.args.file.now in
    let h = c.read_header-h.result in
    sym (header-tests s h c.read_header-h.ensures ∙ simp (le-leb 9 (length s) c.if-file-lt-HEADER_LENGTH.false, eq-eqb h.version 1 c.if-h-ne-VERSION.false, eq-eqb h.spare 0 c.if-h-ne0.false, lt-leb h.lists 16 c.if-h-gt-MAX_LISTS.true))

pub returns-then-h-gt-MAX_DOCUMENTS : goal.returns-then-h-gt-MAX_DOCUMENTS
returns-then-h-gt-MAX_DOCUMENTS c =
    let s = c.args.file.now in
    let h = c.read_header-h.result in
    sym (header-tests s h c.read_header-h.ensures ∙ simp (le-leb 9 (length s) c.if-file-lt-HEADER_LENGTH.false, eq-eqb h.version 1 c.if-h-ne-VERSION.false, eq-eqb h.spare 0 c.if-h-ne0.false, le-leb h.lists 16 c.if-h-gt-MAX_LISTS.false, lt-leb h.documents 1048576 c.if-h-gt-MAX_DOCUMENTS.true))

passed : (c : Else-h-gt-MAX_DOCUMENTS) → header_right c.args.file.now ≡ cond (eqb c.read_header-h.result.kind 0) (eqb c.read_header-h.result.code 0) true
passed c =
    let s = c.args.file.now in
    let h = c.read_header-h.result in
    header-tests s h c.read_header-h.ensures ∙ simp (le-leb 9 (length s) c.if-file-lt-HEADER_LENGTH.false, eq-eqb h.version 1 c.if-h-ne-VERSION.false, eq-eqb h.spare 0 c.if-h-ne0.false, le-leb h.lists 16 c.if-h-gt-MAX_LISTS.false, le-leb h.documents 1048576 c.if-h-gt-MAX_DOCUMENTS.false)

pub returns-then-h-eq0 : goal.returns-then-h-eq0
returns-then-h-eq0 c = sym (passed (goal.at.returns-then-h-eq0 c).Else-h-gt-MAX_DOCUMENTS ∙ simp (eq-eqb c.read_header-h.result.kind 0 c.if-h-eq0.true))

pub returns : goal.returns
returns c = sym (passed (goal.at.returns c).Else-h-gt-MAX_DOCUMENTS ∙ simp (ne_eqb c.read_header-h.result.kind 0 c.if-h-eq0.false))
