-- A scorer in its slot while documents are taken upward: what its list has of a document, and its move to the next one.
use mathlib.Core.Path.{◌≡◌, sym, ap, ◌∙◌, subst}
use mathlib.Core.List.{List, []}
use mathlib.Core.Logic.{inl, inr}
use mathlib.Core.Option.{none, some}
use Prim.Native.Nat.{ℕ, suc, ◌≤◌, ◌<◌}
use native.Mathlib.Omega.{arith}
use lib.ListN.{length, get_or, set, length-set}
use lib.Seq.{get_or-set_same, get_or-set_other}
use lib.Ieee.{Float}
use Rattle.arrays.proofs.Order.{lt-or-ge}
use Rattle.route.specs.Postings.{Postings, doc_at, score_of}
use Rattle.route.specs.Cursor.{Cursor, advance_in, doc_here}
use Rattle.route.specs.Inner.Lists.{ListOk}
use Rattle.route.specs.Inner.Cursors.{Wf, Past}
use Rattle.route.proofs.Places.{doc_at-in, doc_at-out, doc_at-lt, doc_at-le}
use Rattle.route.proofs.Cursor.{Advanced, past_up, on-block, advance-is}
use Rattle.route.proofs.Looking.{score-none, score-at}
use Rattle.bm25.specs.declared.Scoring.{Scoring}
use Rattle.notefile.specs.Header.{documents}
use Rattle.notefile.specs.Lists.{full_blocks}
use Rattle.decoded.specs.Lists.{list_of}
use Rattle.decoded.proofs.AcceptedLists.{list-ok}
use Rattle.skip_reader.specs.Inner.Decoded.{doc_in, doc-is}
use Rattle.term_scorer.specs.Inner.Slots.{Held, Sixteen, SlotIn, MovedSlot, part_at, list_at, cursor_at}
use Rattle.plain_scan.specs.Inner.Heads.{StandsFrom}

module _ (scoring : Scoring) (file : List ℕ) (lists : List (List ℕ)) where
  -- the laws of a slot's list
  pub ok : {h : Held} (q : ℕ) → SlotIn file lists h q → ListOk 128 (documents file) (list_at scoring file lists q)
  ok q S = list-ok scoring file (part_at lists q) S.list.right S.list.few

  module _ {d : ℕ} {h : Held} {heads : List ℕ} {q : ℕ} (A : StandsFrom scoring file lists d h heads q) where
    abbrev l : Postings Float
    l = list_at scoring file lists q

    abbrev c : Cursor
    c = cursor_at h.places q

    k : ListOk 128 (documents file) (list_at scoring file lists q)
    k = ok q A.slot

    -- the head is the document of the route's cursor
    head-doc : get_or heads q 0 ≡ doc_at l c.at
    head-doc = A.head-is ∙ sym (doc-is file (part_at lists q) scoring c.at)

    -- it stands in a block of its list
    pub in_list : c.blk ≤ full_blocks (part_at lists q)
    unfolding list_of
    in_list = A.wf.in_list

    -- TERMINATED is behind every document of the file
    pub few-documents : documents file ≤ 2147483647
    few-documents = k.few

    -- documents up to its head may count as taken
    pub raised : (x : ℕ) → d ≤ x → x ≤ get_or heads q 0 → StandsFrom scoring file lists x h heads q
    raised x a b = record { slot = A.slot; wf = A.wf; past = past_up 128 (documents file) l k c d x a A.past; head-is = A.head-is; low = b }

    -- the list has no document from d on and before its head
    pub absent : (x : ℕ) → d ≤ x → x < get_or heads q 0 → score_of l x ≡ none
    absent x a b = score-none l x (λ i m e.
        let p = (A.past i m (omega (arith, e, a))).0 in
        omega (arith, doc_at-le 128 (documents file) l k c.at i p, doc_at-in 128 (documents file) l k i m, head-doc, e, b))

    module _ (e : get_or heads q 0 ≡ d) (t : d < 2147483647) where
      here : doc_here l c ≡ d
      here = sym head-doc ∙ e

      inside : c.at < l.len
      inside = doc_at-lt 128 (documents file) l k c.at (omega (arith, here, t))

      doc-here : l.doc c.at ≡ d
      doc-here = sym (doc_at-in 128 (documents file) l k c.at inside) ∙ here

      -- a document on which it stands is one of the file
      pub below : d < documents file
      below = omega (arith, k.below c.at inside, doc-here)

      -- its list has the document, with the score of its place
      pub has : score_of l d ≡ some (l.score c.at)
      has = score-at l 128 (documents file) k d c.at inside doc-here

      advances : Advanced 128 l c (advance_in l 128 c)
      advances = advance-is 128 (documents file) l k c A.wf
          (on-block 128 (documents file) l k c d A.wf A.past (omega (arith, here, t)) (omega (arith, here))) (omega (arith, here, t))

      -- the next place's document is a later one
      later : d < doc_at l (suc c.at)
      later = elim (lt-or-ge (suc c.at) l.len) [
        | inl m ↦ omega (arith, doc_at-in 128 (documents file) l k (suc c.at) m, k.rises c.at (suc c.at) (omega arith) m, doc-here)
        | inr g ↦ omega (arith, doc_at-out 128 (documents file) l k (suc c.at) g, t)
      ]

      -- and it goes on to it
      pub goes_on : q < 16 → Sixteen heads → {h' : Held} {doc : ℕ} → MovedSlot file lists q (λ s. advance_in (list_at s file lists q) 128 c) h h' doc
          → StandsFrom scoring file lists (suc d) h' (set heads q doc) q
      goes_on small long {h'} {doc} M =
          let same : cursor_at h'.places q ≡ advance_in l 128 c = M.moved.cursor-is scoring in
          let new : get_or (set heads q doc) q 0 ≡ doc = get_or-set_same heads q doc 0 (omega (arith, small, long)) in
          let s = A.slot.sixteen in
          record {
            slot = record {
              sixteen = (ap length M.places-only ∙ length-set h.places q _ ∙ s.0, ap length M.blocks-only ∙ length-set h.blocks q _ ∙ s.1);
              part-row = A.slot.part-row;
              list = A.slot.list;
              place = M.moved.place;
            };
            wf = subst (Wf 128 l) (sym same) advances.wf;
            past = subst (λ (z : Cursor). Past 128 l z (suc d)) (sym same)
                (advances.past (suc d) (omega (arith, here)) (past_up 128 (documents file) l k c d (suc d) (omega arith) A.past));
            head-is = new ∙ M.moved.doc-is;
            low =
                let at-is : (cursor_at h'.places q).at ≡ suc c.at = ap (λ (z : Cursor). z.at) same ∙ advances.next in
                let e' = doc-is file (part_at lists q) scoring (suc c.at) in
                omega (arith, later, new, M.moved.doc-is ∙ ap (doc_in file (part_at lists q)) at-is, e');
          }

    -- another slot's move leaves it as it is
    pub unmoved : {p : ℕ} → (q ≡ p → ⊥) → {to : Scoring → Cursor} {h' : Held} {doc : ℕ} → MovedSlot file lists p to h h' doc → StandsFrom scoring file lists d h' (set heads p doc) q
    unmoved {p} ne {h' = h'} {doc = doc} M =
        let ep = ap (λ (z : List (List ℕ)). get_or z q []) M.places-only ∙ get_or-set_other h.places p q _ [] ne in
        let eb = ap (λ (z : List (List (List ℕ))). get_or z q []) M.blocks-only ∙ get_or-set_other h.blocks p q _ [] ne in
        let eh = get_or-set_other heads p q doc 0 ne in
        let s = A.slot.sixteen in
        record {
          slot = record {
            sixteen = (ap length M.places-only ∙ length-set h.places p _ ∙ s.0, ap length M.blocks-only ∙ length-set h.blocks p _ ∙ s.1);
            part-row = A.slot.part-row;
            list = A.slot.list;
            place = rw (ep, eb) A.slot.place;
          };
          wf = rw ep A.wf;
          past = rw ep A.past;
          head-is = rw (ep, eh) A.head-is;
          low = rw eh A.low;
        }
