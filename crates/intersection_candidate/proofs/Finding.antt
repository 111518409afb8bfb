-- `next_candidate`'s loop: no place of the leader's block before place i has a candidate.
use mathlib.Core.Bool.{false, true}
use mathlib.Core.List.{List, [], ◌∷◌}
use mathlib.Core.Logic.{inl, inr}
use mathlib.Core.Path.{ap, refl, sym, ◌∙◌, ◌≡◌}
use Prim.Native.Nat.{min, suc, ℕ, ◌+◌, ◌-◌, ◌<◌, ◌≤◌}
use native.Mathlib.Omega.{arith}
use lib.Dec.{ltb}
use lib.ListN.{get_or}
use lib.Ieee.{Float, nan}
use borrow.Author.Tests.{le-ltb, lt-ltb, ltb-false, ltb-true}
use Rattle.arrays.proofs.Order.{lt-or-ge}
use Rattle.block_search.specs.Search.{count_below}
use Rattle.block_search.specs.Inner.Segments.{Sorted}
use Rattle.block_search.proofs.Segments.{at_most, place-test}
use Rattle.route.specs.F32.{f32}
use Rattle.route.specs.Report.{Report}
use Rattle.route.specs.Postings.{Postings, doc_at, start}
use Rattle.route.specs.Cursor.{find_in}
use Rattle.route.specs.Intersection.{candidates_from, candidates_in}
use Rattle.route.proofs.Places.{doc_at-in, doc_at-out}
use Rattle.bm25.specs.declared.Scoring.{Scoring}
use Rattle.notefile.specs.Header.{documents}
use Rattle.notefile.specs.Inner.Reads.{docs_of}
use Rattle.notefile.specs.declared.part.Part.{Part}
use Rattle.decoded.proofs.AcceptedLists.{list-ok}
use Rattle.skip_reader.specs.Inner.Decoded.{Decoded, doc-is}
use Rattle.skip_reader.proofs.Blocks.{decoded-sorted}
use Rattle.postings.proofs.Moves.{find-is}
use Rattle.slot_rows.specs.Inner.Rows.{cursor_in, postings_in}
use Rattle.term_scorer.specs.Inner.Slots.{Held, SlotIn, cursor_at, list_at, part_at}
use Rattle.term_scorer.specs.Inner.Weights.{BlockScores}
use Rattle.intersection_candidate.specs.Inner.Candidates.{BlockRows, Finds, candidates_left, left_in}
use Rattle.intersection_candidate.specs.declared.leader.Candidates.{Candidates}
use Rattle.std.specs.Prelude.{Some, None}

-- the leader's block, with its place in the list
module _ (scoring : Scoring) {file : List ℕ} {lists : List (List ℕ)} {h : Held} {q : ℕ} (S : SlotIn file lists h q) where
  abbrev l : Postings Float
  l = list_at scoring file lists q

  abbrev part : Part
  part = part_at lists q

  abbrev b : ℕ
  b = (cursor_at h.places q).dec

  abbrev docs : List ℕ
  docs = docs_of (get_or h.blocks q [])

  decoded : Decoded file part b (get_or h.blocks q [])
  unfolding postings_in cursor_in
  decoded = S.place.placed.holds

  -- how many documents of the block are below d
  found : (d : ℕ) → find_in l d 128 (start 128 b) ≡ start 128 b + count_below 128 docs d
  found d = find-is S.list decoded d scoring

  pub block-sorted : Sorted docs
  block-sorted = decoded-sorted S.list decoded

  pub few-below : (d : ℕ) → count_below 128 docs d ≤ 128
  few-below d = at_most docs block-sorted d

  -- the candidates of a window from document d on
  pub first-candidates : (ts : Float) (d e : ℕ) {from : ℕ} → from ≡ count_below 128 docs d → candidates_in 128 f32 l ts b d e ≡ candidates_left l b ts e from
  first-candidates ts d e ef =
      ap (λ (p : ℕ). candidates_from f32 l ts (min (find_in l (suc e) 128 (start 128 b)) l.len - p) p) (found d ∙ rw ef)

  -- its two rows
  pub block-rows : {scores : List Float} → BlockScores l b scores → BlockRows l b docs scores
  block-rows B = record {
    limit = documents file;
    ok = list-ok scoring file part S.list.right S.list.few;
    sorted = block-sorted;
    docs-are = λ i h. decoded.docs-are.at i h ∙ sym (doc-is file part scoring (start 128 b + i));
    below-is = found;
    scores-are = B;
  }

-- a block of a list, by its rows
module _ {l : Postings Float} {b : ℕ} {docs : List ℕ} {scores : List Float} (R : BlockRows l b docs scores) where
  module _ (e : ℕ) where
    -- behind the last candidate of a window up to e
    abbrev end : ℕ
    end = min (find_in l (suc e) 128 (start 128 b)) l.len

    abbrev below : ℕ
    below = count_below 128 docs (suc e)

    module _ (ts : Float) (i : ℕ) where
      nothing_left : end ≤ start 128 b + i → candidates_left l b ts e i ≡ []
      nothing_left k = let z : end - (start 128 b + i) ≡ 0 = omega arith in ap (λ (m : ℕ). candidates_from f32 l ts m (start 128 b + i)) z

      pub block-ends : 128 ≤ i → candidates_left l b ts e i ≡ []
      block-ends k = nothing_left (omega (arith, R.below-is (suc e), at_most docs R.sorted (suc e)))

      module _ (hi : i < 128) {doc : ℕ} (ed : doc ≡ get_or docs i 0) where
        abbrev p : ℕ
        p = start 128 b + i

        doc-at : doc ≡ doc_at l p
        doc-at = ed ∙ R.docs-are i hi

        test-is : ltb doc (suc e) ≡ ltb i below
        test-is = ap (λ (z : ℕ). ltb z (suc e)) ed ∙ place-test docs R.sorted (suc e) i hi

        pub window-ends : e < doc → candidates_left l b ts e i ≡ []
        window-ends k =
            let z = ltb-false i below (sym test-is ∙ le-ltb doc (suc e) k) in
            nothing_left (omega (arith, R.below-is (suc e)))

        in_list : p < l.len → l.doc p < 2147483647
        in_list k = omega (arith, R.ok.below p k, R.ok.few)

        pub list-ends : doc ≡ 2147483647 → candidates_left l b ts e i ≡ []
        list-ends k = elim (lt-or-ge p l.len) [
          | inl u ↦ absurd (omega (arith, in_list u, doc-at, doc_at-in 128 R.limit l R.ok p u))
          | inr u ↦ nothing_left (omega arith)
        ]

        module _ (k : doc ≤ e) (n : doc ≡ 2147483647 → ⊥) where
          inside : p < l.len
          inside = elim (lt-or-ge p l.len) [
            | inl u ↦ u
            | inr u ↦ absurd (n (doc-at ∙ doc_at-out 128 R.limit l R.ok p u))
          ]

          doc-of : l.doc p ≡ doc
          doc-of = sym (doc-at ∙ doc_at-in 128 R.limit l R.ok p inside)

          doc-small : doc < 2147483647
          doc-small = omega (arith, in_list inside, doc-of)

          before-end : p < end
          before-end = let z = ltb-true i below (sym test-is ∙ lt-ltb doc (suc e) (omega arith)) in omega (arith, R.below-is (suc e), inside)

          opens : candidates_left l b ts e i ≡ candidates_from f32 l ts (suc (end - (start 128 b + (i + 1)))) p
          opens = let z : end - p ≡ suc (end - (start 128 b + (i + 1))) = omega (arith, before-end) in ap (λ (m : ℕ). candidates_from f32 l ts m p) z

          rest-is : candidates_from f32 l ts (end - (start 128 b + (i + 1))) (suc p) ≡ candidates_left l b ts e (i + 1)
          rest-is = let z : suc p ≡ start 128 b + (i + 1) = omega arith in ap (candidates_from f32 l ts (end - (start 128 b + (i + 1)))) z

          module _ {score : Float} (there : score ≡ get_or scores i nan) where
            es : score ≡ l.score p
            es = there ∙ R.scores-are.at i hi inside

            leaves-out : f32.above score ts ≡ false → candidates_left l b ts e i ≡ candidates_left l b ts e (i + 1)
            leaves-out a = let a' : f32.above (l.score p) ts ≡ false = ap (λ (z : Float). f32.above z ts) (sym es) ∙ a in opens ∙ (rw a' rest-is)

            takes : f32.above score ts ≡ true → candidates_left l b ts e i ≡ record { doc = doc; score = score } ∷ candidates_left l b ts e (i + 1)
            takes a =
                let a' : f32.above (l.score p) ts ≡ true = ap (λ (z : Float). f32.above z ts) (sym es) ∙ a in
                opens ∙ (rw a' (ap (λ (z : List (Report Float)). record { doc = l.doc p; score = l.score p } ∷ z) rest-is))
                ∙ ap (λ (z : ℕ). record { doc = z; score = l.score p } ∷ candidates_left l b ts e (i + 1)) doc-of
                ∙ ap (λ (z : Float). record { doc = doc; score = z } ∷ candidates_left l b ts e (i + 1)) (sym es)

-- ---- the loop

module _ (l : Postings Float) (b : ℕ) (c : Candidates) where
  pub record Finding (i : ℕ) : Type 0 where
    pub high : i ≤ 128
    pub same : left_in l b c ≡ candidates_left l b c.score_threshold c.window_end i

  pub begun : c.next ≤ 128 → Finding c.next
  begun k = record { high = k; same = refl }

  pub ends : {i : ℕ} → Finding i → candidates_left l b c.score_threshold c.window_end i ≡ [] → Finds l b c None
  ends F z = record { finds = F.same ∙ z }

module _ {l : Postings Float} {b : ℕ} {docs : List ℕ} {scores : List Float} (R : BlockRows l b docs scores) (c : Candidates) {i : ℕ} (F : Finding l b c i) (hi : i < 128)
    {doc : ℕ} (ed : doc ≡ get_or docs i 0) (k : doc ≤ c.window_end) (n : doc ≡ 2147483647 → ⊥) {score : Float} (es : score ≡ get_or scores i nan) where
  pub skips : f32.above score c.score_threshold ≡ false → Finding l b c (i + 1)
  skips a = record { high = omega arith; same = F.same ∙ leaves-out R c.window_end c.score_threshold i hi ed k n es a }

  pub hits : f32.above score c.score_threshold ≡ true → Finds l b c (Some (i + 1, record { doc = doc; score = score }))
  hits a = record {
    finds = (F.same ∙ takes R c.window_end c.score_threshold i hi ed k n es a, omega arith, doc-small R c.window_end c.score_threshold i hi ed k n);
  }
