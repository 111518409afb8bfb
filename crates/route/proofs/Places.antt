-- Where a list's documents and blocks stand: places rise with documents, and blocks are apart.
use mathlib.Core.Path.{◌≡◌}
use Prim.Native.Nat.{pred, suc, zero, ℕ, ◌+◌, ◌<◌, ◌≤◌}
use native.Mathlib.Nat.{suc-mul}
use native.Mathlib.Omega.{arith}
use lib.Dec.{leb, ltb}
use borrow.Author.Tests.{le-ltb, leb-false, leb-true, lt-ltb, ltb-false, ltb-true}
use Rattle.route.specs.Postings.{Postings, TERMINATED, doc_at, last_doc, start}
use Rattle.route.specs.Inner.Lists.{ListOk}
use Rattle.route.proofs.Cases.{by-test, on_test}

module _ (B : ℕ) where
  pub start-suc : (b : ℕ) → start B (suc b) ≡ start B b + B
  unfolding start
  start-suc b = suc-mul b B

  pub start-le : (a b : ℕ) → a ≤ b → start B a ≤ start B b
  start-le a zero h = let e : a ≡ 0 = omega arith in rw e (omega arith)
  start-le a (suc b) h =
      on_test (leb a b)
      (λ e. omega (arith, start-le a b (leb-true a b e), start-suc b))
      (λ e. let f = leb-false a b e in let g : a ≡ suc b = omega arith in rw g (omega arith))

  pub start-lt : (a b : ℕ) → a < b → start B a + B ≤ start B b
  start-lt a b h = omega (arith, start-le (suc a) b h, start-suc a)

  -- blocks are apart: a place in block a and at or after the start of b
  pub start-inv : (a b i : ℕ) → start B b ≤ i → i < start B a + B → b ≤ a
  start-inv a b i h k =
      on_test (leb b a) (λ e. leb-true b a e)
      (λ e. let f = start-lt a b (leb-false b a e) in absurd (omega arith))

  module _ (N : ℕ) {S : Type 0} (l : Postings S) (k : ListOk B N l) where
    pub doc-le : (i j : ℕ) → i ≤ j → j < l.len → l.doc i ≤ l.doc j
    doc-le i j h p =
        on_test (ltb i j) (λ e. omega (arith, k.rises i j (ltb-true i j e) p))
        (λ e. let f = ltb-false i j e in let g : i ≡ j = omega arith in rw g (omega arith))

    pub doc-inj : (i j : ℕ) → i < l.len → j < l.len → l.doc i ≤ l.doc j → i ≤ j
    doc-inj i j p q h =
        on_test (leb i j) (λ e. leb-true i j e)
        (λ e. let f = k.rises j i (leb-false i j e) p in absurd (omega arith))

    pub doc_at-in : (i : ℕ) → i < l.len → doc_at l i ≡ l.doc i
    doc_at-in i h = rw (lt-ltb i l.len h)

    pub doc_at-out : (i : ℕ) → l.len ≤ i → doc_at l i ≡ TERMINATED
    doc_at-out i h = rw (le-ltb i l.len h)

    pub doc_at-cap : (i : ℕ) → doc_at l i ≤ TERMINATED
    doc_at-cap i =
        by-test (λ z. z ≤ TERMINATED) (ltb i l.len) (l.doc i) TERMINATED
        (λ e. omega (arith, k.below i (ltb-true i l.len e), k.few)) (λ e. omega arith)

    pub doc_at-lt : (i : ℕ) → doc_at l i < TERMINATED → i < l.len
    doc_at-lt i h =
        on_test (ltb i l.len) (λ e. ltb-true i l.len e)
        (λ e. let f = doc_at-out i (ltb-false i l.len e) in absurd (omega arith))

    pub last-in : (b : ℕ) → b < l.full → last_doc l B b ≡ l.doc (pred (start B (suc b)))
    last-in b h = rw (lt-ltb b l.full h)

    pub last_out : (b : ℕ) → l.full ≤ b → last_doc l B b ≡ TERMINATED
    last_out b h = rw (le-ltb b l.full h)

    -- a full block's last place is a place of the list
    pub last-place : (b : ℕ) → b < l.full
        → (pred (start B (suc b)) < l.len) × (start B b ≤ pred (start B (suc b))) × (suc (pred (start B (suc b))) ≡ start B b + B)
    last-place b h =
        let s = start-suc b in
        let m = start-le (suc b) l.full h in
        let w = k.wide in
        let f = k.blocks in
        (omega arith, omega arith, omega arith)

    pub last-cap : (b : ℕ) → last_doc l B b ≤ TERMINATED
    last-cap b =
        on_test (ltb b l.full)
        (λ e.
        let h = ltb-true b l.full e in
        rw (last-in b h) (omega (arith, k.below (pred (start B (suc b))) (last-place b h).0, k.few)))
        (λ e. rw (last_out b (ltb-false b l.full e)) (omega arith))

    -- documents up to the end of block b do not pass its last
    pub le-last : (b i : ℕ) → i < l.len → i < start B (suc b) → l.doc i ≤ last_doc l B b
    le-last b i p h =
        on_test (ltb b l.full)
        (λ e.
        let f = ltb-true b l.full e in
        rw (last-in b f) (doc-le i (pred (start B (suc b))) (omega arith) (last-place b f).0))
        (λ e. rw (last_out b (ltb-false b l.full e)) (omega (arith, k.below i p, k.few)))

    -- a document up to block b's last stands before the block's end
    pub last-le : (b i : ℕ) → i < l.len → b ≤ l.full → l.doc i ≤ last_doc l B b → i < start B b + B
    last-le b i p c h =
        on_test (ltb b l.full)
        (λ e.
        let f = ltb-true b l.full e in
        let q = last-place b f in
        let g = doc-inj i (pred (start B (suc b))) p q.0 (rw (last-in b f) at h) in
        let r = q.2 in
        omega arith)
        (λ e.
        let f = ltb-false b l.full e in
        let g : b ≡ l.full = omega arith in
        rw g (omega (arith, k.tail)))

    pub doc_at-le : (i j : ℕ) → i ≤ j → doc_at l i ≤ doc_at l j
    doc_at-le i j h =
        on_test (ltb j l.len)
        (λ e.
        let f = ltb-true j l.len e in
        rw (doc_at-in i (omega arith), doc_at-in j f) (doc-le i j h f))
        (λ e. rw (doc_at-out j (ltb-false j l.len e)) (doc_at-cap i))

    -- behind a document stands a later one, or the end
    pub doc_at-rises : (i j : ℕ) → i < j → doc_at l i < TERMINATED → doc_at l i < doc_at l j
    doc_at-rises i j h lv =
        let m = doc_at-lt i lv in
        on_test (ltb j l.len)
        (λ e. let f = ltb-true j l.len e in omega (arith, k.rises i j h f, doc_at-in i m, doc_at-in j f))
        (λ e. omega (arith, doc_at-out j (ltb-false j l.len e)))
