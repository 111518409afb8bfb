-- `buffers_right` meets its contract: the tests are those of row 3, in its order.
use mathlib.Core.Path.{◌≡◌, refl, ◌∙◌}
use mathlib.Core.Bool.{cond, ◌&&◌}
use Prim.Native.Nat.{ℕ}
use lib.Dec.{eqb}
use lib.ListN.{length}
use borrow.Author.Tests.{eq-eqb, ne_eqb}
use Rattle.contents.specs.Inner.Handed.{contents_in}
use Rattle.contentcheck.proofs.Rows.{buffer_tests, by-buffers, with-bytes, with_code}
use Rattle.contentcheck.proofs.buffers_right.Goals as goal
use Rattle.contentcheck.proofs.buffers_right.Goals.{Else-c, Joined-c-eq0}

bytes-are : (c : Joined-c-eq0) → let h = c.args.c.head in c.if-c-eq0.bytes ≡ cond (eqb h.kind 0) h.documents 0
bytes-are c =
    let h = c.args.c.head in
    elim c.if-c-eq0.branch [
      | goal.then-c-eq0 w ↦ with-bytes h.kind h.documents w.if-c-eq0.true w.bytes-is
      | goal.else-c-eq0 w ↦ with_code h.kind h.documents w.if-c-eq0.false w.bytes-is
    ]

pub returns-then-c-bytes : goal.returns-then-c-bytes
returns-then-c-bytes c =
    let d = contents_in c.args.c in
    by-buffers d (bytes-are (goal.at.returns-then-c-bytes c).Joined-c-eq0) refl (simp (ne_eqb (length d.norms) _ c.if-c-bytes.true))

pub returns-then-c : goal.returns-then-c
returns-then-c c =
    let d = contents_in c.args.c in
    by-buffers d (bytes-are (goal.at.returns-then-c c).Joined-c-eq0) refl
    (simp (eq-eqb (length d.norms) _ c.if-c-bytes.false, ne_eqb (length d.weights) (length d.counts) c.if-c.true))

-- what the first two tests have shown
passed : (c : Else-c) (n : ℕ) →
    let a = c.args in
    buffer_tests (contents_in a.c) c.if-c-eq0.bytes n ≡ eqb (length a.c.docs.now) n && eqb (length a.c.freqs.now) n
passed c n =
    let a = c.args in
    simp (eq-eqb (length a.c.norms.now) _ c.if-c-bytes.false, eq-eqb (length a.c.weights.now) (length a.c.counts.now) c.if-c.false)

pub returns-then-c-postings : goal.returns-then-c-postings
returns-then-c-postings c =
    let d = contents_in c.args.c in
    by-buffers d (bytes-are (goal.at.returns-then-c-postings c).Joined-c-eq0) (c.total-postings.ensures d refl) (passed (goal.at.returns-then-c-postings c).Else-c _ ∙ simp (ne_eqb (length d.docs) _ c.if-c-postings.true))

pub returns : goal.returns
returns c =
    let d = contents_in c.args.c in
    by-buffers d (bytes-are (goal.at.returns c).Joined-c-eq0) (c.total-postings.ensures d refl) (passed (goal.at.returns c).Else-c _ ∙ simp (eq-eqb (length d.docs) _ c.if-c-postings.false))
