-- The moves of a row: within its block no struct is made, else the place that it stands for moves.
use Rattle.std.specs.Prelude.{Result, is_ok}
use mathlib.Core.Path.{◌≡◌, refl, sym, ap, ◌∙◌, subst}
use mathlib.Core.Bool.{Bool, true}
use mathlib.Core.List.{List}
use mathlib.Core.Logic.{inl, inr}
use Prim.Native.Nat.{ℕ, suc, min, ◌+◌, ◌≤◌, ◌<◌}
use native.Mathlib.Nat.{add-zero}
use native.Mathlib.Omega.{arith}
use lib.ListN.{get_or, set}
use lib.Ieee.{Float}
use borrow.Author.Tests.{eq-eqb, lt-ltb, le-ltb}
use Rattle.arrays.proofs.Order.{lt-or-ge}
use Rattle.block_search.specs.Search.{answer_if, count_below, holds_at, search_answer}
use Rattle.block_search.specs.Inner.Answers.{index_of}
use Rattle.block_search.proofs.Answers.{answer_back, index_is}
use Rattle.route.specs.Postings.{Postings, last_doc, start}
use Rattle.route.specs.Cursor.{Cursor, advance_in, seek_block_in, seek_in}
use Rattle.bm25.specs.declared.Scoring.{Scoring}
use Rattle.bm25.specs.declared.Scoring.TheVariants.{Unstepped}
use Rattle.notefile.specs.Inner.Reads.{docs_of}
use Rattle.notefile.specs.declared.part.Part.{Part}
use Rattle.decoded.specs.Lists.{list_of}
use Rattle.skip_reader.specs.Inner.Decoded.{doc_in, Decoded, ListIn}
use Rattle.postings.specs.Seek.{seek_answer}
use Rattle.postings.specs.Inner.Places.{cursor_of, live_answer, Behind, Placed, Moved}
use Rattle.postings.specs.declared.cursor.SegmentPostings.{SegmentPostings}
use Rattle.postings.proofs.Answers.{search-tells}
use Rattle.postings.proofs.Moves.{advanced-in, doc-here, sought-here, sought-loaded, sought-next, stays}
use Rattle.slot_rows.specs.Inner.Rows.{part_in, first_of, place_row, Narrow, cursor_in, postings_in, Standing, PlaceIn, MovedRow, Reached, ShallowRow, SoughtRow}
use Rattle.slot_rows.proofs.Rows.{cur-inside, cur-set, cursor-is, doc-in-array, moved_on, moves, moves-in, settled, sought-row, stays-in, placed-for}

-- the fast moves of a row: no struct is made
module _ (file list row : List ℕ) (L : ListIn file (part_in list)) {block : List (List ℕ)} (P : PlaceIn file (part_in list) row block) where
  module _ (t : ℕ) {doc : ℕ} (doc-is : doc ≡ doc_in file (part_in list) (cursor_in row).at) where
    abbrev Sought : (row' : List ℕ) → ℕ → Type 0
    Sought row' d = MovedRow file (part_in list) (λ s. seek_in (list_of s file (part_in list)) 128 t (cursor_in row)) row row' block d

    seeks-here : t ≤ doc → Sought row doc
    unfolding postings_in
    seeks-here h =
        stays-in file list row (λ l c. seek_in l 128 t c) P
        (sought-here L (postings_in file (part_in list) row) P.placed t (omega (arith, h, doc-is, doc-in-array file list row L P))) doc-is

    -- the answer is that of a look at the document
    pub told_here : t ≤ doc → {r : Result ℕ ℕ} → r ≡ seek_answer t doc (get_or row 6 0) → SoughtRow file (part_in list) t (λ s. seek_in (list_of s file (part_in list)) 128 t (cursor_in row)) row row block r
    told_here h e = sought-row file (part_in list) t (seeks-here h) e

    -- in its block, another posting follows
    module _ (h : doc < t) (e : get_or row 6 0 ≡ 127 → ⊥) where
      abbrev next : ℕ
      next = get_or row 6 0 + 1

      pub next-inside : next < 128
      next-inside = elim (lt-or-ge (get_or row 6 0) 127) [
        | inl g ↦ omega arith
        | inr g ↦ absurd (e (omega (arith, cur-inside file list row L P)))
      ]

      next-is : next ≡ min (suc (get_or row 6 0)) 127
      next-is = omega (arith, next-inside)

      seeks-next : t ≤ get_or (docs_of block) next 0 → Sought (set row 6 next) (get_or (docs_of block) next 0)
      unfolding postings_in
      seeks-next k =
          moves-in file list row (λ l c. seek_in l 128 t c) P next
          (sought-next L (postings_in file (part_in list) row) P.placed t (omega (arith, h, doc-is, doc-in-array file list row L P)) next-is next-inside k) refl

      pub told-next : t ≤ get_or (docs_of block) next 0 → {r : Result ℕ ℕ} → r ≡ seek_answer t (get_or (docs_of block) next 0) next
          → SoughtRow file (part_in list) t (λ s. seek_in (list_of s file (part_in list)) 128 t (cursor_in row)) row (set row 6 next) block r
      told-next k {r} q = sought-row file (part_in list) t (seeks-next k) (subst (λ (z : ℕ). r ≡ seek_answer t (get_or (docs_of block) next 0) z) (sym (cur-set file list row (λ l c. c) P next)) q)

      -- and is before the target, too
      pub behind-next : get_or (docs_of block) next 0 < t → Behind (postings_in file (part_in list) row) block t
      unfolding postings_in
      behind-next k = record { here = omega (arith, h, doc-is, doc-in-array file list row L P); next = subst (λ (z : ℕ). get_or (docs_of block) z 0 < t) next-is k }

    -- the block's last posting has none behind it
    pub behind-last : doc < t → get_or row 6 0 ≡ 127 → Behind (postings_in file (part_in list) row) block t
    unfolding postings_in
    behind-last h e =
        let here : get_or (docs_of block) (get_or row 6 0) 0 < t = omega (arith, h, doc-is, doc-in-array file list row L P) in
        let last : get_or row 6 0 ≡ min (suc (get_or row 6 0)) 127 = omega arith in
        record { here = here; next = subst (λ (z : ℕ). get_or (docs_of block) z 0 < t) last here }

  -- by a search in the block that may hold the target, which is loaded
  module _ (t : ℕ) (h : Behind (postings_in file (part_in list) row) block t) (k : t ≤ 2147483647) {row₂ : List ℕ} {block₂ : List (List ℕ)} (R : Reached file (part_in list) t row row₂ block₂)
      {found : Result ℕ ℕ} (e : found ≡ search_answer (docs_of block₂) t) {cur : ℕ} (c : cur ≡ index_of found) {hit : Bool} (q : hit ≡ is_ok found) where
    abbrev x : Part
    x = part_in list

    on : (postings_in file x row₂).block_loaded ≡ true
    unfolding postings_in cursor_in
    on = R.loaded

    stood : (s : Scoring) → (postings_in file x row₂).skip_reader.block ≡ (seek_block_in (list_of s file x) 128 t (cursor_of (postings_in file x row))).blk
    unfolding cursor_of
    stood s =
        ap (λ (z : Cursor). z.blk) (cursor-is file x row₂) ∙ R.block-is s
        ∙ ap (λ (z : Cursor). (seek_block_in (list_of s file x) 128 t z).blk) (sym (cursor-is file x row))

    count-is : cur ≡ count_below 128 (docs_of block₂) t
    count-is = c ∙ ap index_of e ∙ index_is (holds_at (docs_of block₂) t (count_below 128 (docs_of block₂) t)) (count_below 128 (docs_of block₂) t)

    lands : Moved file x (λ s. seek_in (list_of s file x) 128 t (cursor_in row))
        (record {
          skip_reader = (postings_in file x row₂).skip_reader;
          block_loaded = (postings_in file x row₂).block_loaded;
          decoded = (postings_in file x row₂).decoded;
          cur = cur;
        }) block₂
    lands =
        let M = sought-loaded L (postings_in file x row) P.placed t h (postings_in file x row₂) R.moved.place.placed stood k on count-is in
        record { cursor-is = λ s. M.cursor-is s ∙ ap (seek_in (list_of s file x) 128 t) (cursor-is file x row); placed = M.placed }

    pub told-on : SoughtRow file x t (λ s. seek_in (list_of s file x) 128 t (cursor_in row)) row (set row₂ 6 cur) block₂ (live_answer t (answer_if hit (get_or (set row₂ 6 cur) 6 0)))
    told-on =
        let last = moves-in file list row₂ (λ l z. seek_in l 128 t (cursor_in row)) R.moved.place cur lands refl in
        let there = cur-set file list row₂ (λ l z. z) R.moved.place cur in
        let parts : answer_if hit (get_or (set row₂ 6 cur) 6 0) ≡ found =
        ap (λ (z : ℕ). answer_if hit z) (there ∙ c) ∙ ap (λ (b : Bool). answer_if b (index_of found)) q ∙ answer_back found in
        let tells : live_answer t found ≡ seek_answer t (get_or (docs_of block₂) cur 0) cur = ap (live_answer t) e ∙ search-tells (docs_of block₂) t count-is lands.placed.inside in
        sought-row file x t (moved_on file x R.moved last)
        (ap (live_answer t) parts ∙ tells ∙ ap (seek_answer t (get_or (docs_of block₂) cur 0)) (sym there))

  pub advances-in : (get_or row 6 0 ≡ 127 → ⊥) → MovedRow file (part_in list) (λ s. advance_in (list_of s file (part_in list)) 128 (cursor_in row)) row (set row 6 (get_or row 6 0 + 1)) block (get_or (docs_of block) (get_or row 6 0 + 1) 0)
  unfolding postings_in
  advances-in h = moves-in file list row (λ l c. advance_in l 128 c) P (get_or row 6 0 + 1) (advanced-in L (postings_in file (part_in list) row) P.placed h) refl

-- what a seek by blocks asks of the place that a row stands for
module _ (file list row : List ℕ) {y : Part} (part-is : y ≡ part_in list) {q : SegmentPostings} (place_is : q ≡ postings_in file y row) where
  same_place : q ≡ postings_in file (part_in list) row
  same_place = subst (λ (z : Part). q ≡ postings_in file z row) part-is place_is

  pub last-for : Standing file (part_in list) row → q.skip_reader.last_doc_in_block ≡ get_or row 3 0
  last-for S = ap (λ (p : SegmentPostings). p.skip_reader.last_doc_in_block) same_place ∙ sym (ap (λ (z : List ℕ). get_or z 3 0) S.row_is)

  pub behind-for : {block : List (List ℕ)} {t : ℕ} → Behind (postings_in file (part_in list) row) block t → Behind q block t
  behind-for {block} {t} B = subst (λ (p : SegmentPostings). Behind p block t) (sym same_place) B

-- within the reader's block nothing moves
module _ (file list row : List ℕ) (L : ListIn file (part_in list)) (S : Standing file (part_in list) row) (t : ℕ) where
  abbrev shallow : Postings Float → Cursor → Cursor
  shallow l c = seek_block_in l 128 t c

  pub keeps-at : (l : Postings Float) (c : Cursor) → (seek_block_in l 128 t c).at ≡ c.at
  keeps-at l c = elim (lt-or-ge (last_doc l 128 c.blk) t) [
    | inl h ↦ rw (lt-ltb (last_doc l 128 c.blk) t h)
    | inr h ↦ rw (le-ltb (last_doc l 128 c.blk) t h)
  ]

  pub stays-shallow : t ≤ get_or row 3 0 → ShallowRow file (part_in list) (λ s. seek_block_in (list_of s file (part_in list)) 128 t (cursor_in row)) row row
  stays-shallow h block P =
      let r = ap (λ (z : List ℕ). get_or z 3 0) S.row_is in
      stays-in file list row shallow P (stays file (part_in list) L (postings_in file (part_in list) row) P.placed.stands t (omega (arith, h, r)) block P.placed) refl

-- the block that may hold the target, loaded: by the reader and a load, or as it stands
module _ (file list row : List ℕ) (L : ListIn file (part_in list)) {block : List (List ℕ)} (P : PlaceIn file (part_in list) row block) (t : ℕ) where
  pub reached-by : {row₁ : List ℕ} → ShallowRow file (part_in list) (λ s. seek_block_in (list_of s file (part_in list)) 128 t (cursor_in row)) row row₁
      → {row₂ : List ℕ} {block₂ : List (List ℕ)} {d : ℕ} → MovedRow file (part_in list) (λ _. first_of (cursor_in row₁)) row₁ row₂ block₂ d → Reached file (part_in list) t row row₂ block₂
  reached-by S F = record {
    moved = settled file (part_in list) (moved_on file (part_in list) (S block P) F);
    block-is = λ s. ap (λ (c : Cursor). c.blk) (F.cursor-is Unstepped) ∙ ap (λ (c : Cursor). c.blk) ((S block P).cursor-is s);
    loaded = ap (λ (c : Cursor). c.loaded) (F.cursor-is Unstepped);
  }

  flag-on : get_or row 4 0 ≡ 1 → (cursor_in row).loaded ≡ true
  unfolding cursor_in
  flag-on e = eq-eqb (get_or row 4 0) 1 e

  pub reached-here : t ≤ get_or row 3 0 → get_or row 4 0 ≡ 1 → Reached file (part_in list) t row row block
  reached-here h e =
      let M = stays-shallow file list row L P.standing t h block P in
      record { moved = settled file (part_in list) M; block-is = λ s. ap (λ (c : Cursor). c.blk) (M.cursor-is s); loaded = flag-on e }

-- the first posting of the reader's block
module _ (file : List ℕ) (x : Part) (p : SegmentPostings) where
  abbrev on-first : SegmentPostings
  on-first = record { skip_reader = p.skip_reader; block_loaded = true; decoded = p.skip_reader.block; cur = 0 }

  -- which has just been decoded
  first-of : {before block : List (List ℕ)} → Placed file x p before → Decoded file x p.skip_reader.block block → Moved file x (λ _. first_of (cursor_of p)) on-first block
  unfolding cursor_of
  first-of P D = record {
    cursor-is = λ _. rw (add-zero (start 128 p.skip_reader.block));
    placed = record { stands = P.stands; low = P.low; holds = D; inside = omega arith; loaded-is = λ _. refl };
  }

module _ (file list row : List ℕ) where
  abbrev first : Postings Float → Cursor → Cursor
  first l c = first_of c

  -- the block was loaded: one number changes
  pub first-in : {block : List (List ℕ)} → PlaceIn file (part_in list) row block → get_or row 4 0 ≡ 1
      → MovedRow file (part_in list) (λ _. first_of (cursor_in row)) row (set row 6 0) block (get_or (docs_of block) 0 0)
  unfolding postings_in
  first-in {block} P h =
      let p = postings_in file (part_in list) row in
      let b : p.block_loaded ≡ true = eq-eqb (get_or row 4 0) 1 h in
      let d : p.decoded ≡ p.skip_reader.block = P.placed.loaded-is b in
      let M = first-of file (part_in list) p P.placed (subst (λ (k : ℕ). Decoded file (part_in list) k block) d P.placed.holds) in
      let same : on-first file (part_in list) p ≡ record { skip_reader = p.skip_reader; block_loaded = p.block_loaded; decoded = p.decoded; cur = 0 } = rw (b, d) in
      moves-in file list row first P 0 (subst (λ (z : SegmentPostings). Moved file (part_in list) (λ _. first_of (cursor_of p)) z block) same M) refl

  -- it has just been decoded
  module _ {y : Part} (part-is : y ≡ part_in list) {q : SegmentPostings} (place_is : q ≡ postings_in file y row) where
    pub first-loaded : {before block : List (List ℕ)} → PlaceIn file (part_in list) row before → Decoded file y q.skip_reader.block block
        → {row' : List ℕ} → (row' ≡ place_row (on-first file y q) 0 0 (get_or row 9 0)) × Narrow (on-first file y q)
        → MovedRow file (part_in list) (λ _. first_of (cursor_in row)) row row' block (get_or (docs_of block) 0 0)
    first-loaded {block = block} P D k =
        moves file list row first part-is place_is (on-first file y q) (first-of file y q (placed-for file list row first part-is place_is P) D) k
        (doc-here (on-first file y q) block)
