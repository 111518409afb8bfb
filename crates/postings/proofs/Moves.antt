-- A scorer's moves: each is the route's over the decoded list.
use mathlib.Core.Path.{◌≡◌, refl, sym, ap, ◌∙◌, subst}
use mathlib.Core.Bool.{Bool, true, false, true≢false}
use mathlib.Core.List.{List}
use mathlib.Core.Logic.{inl, inr}
use Prim.Native.Nat.{ℕ, zero, suc, min, ◌+◌, ◌-◌, ◌*◌, ◌/◌, ◌%◌, ◌≤◌, ◌<◌}
use native.Mathlib.Nat.{add-zero}
use native.Mathlib.Omega.{arith}
use lib.Dec.{ltb}
use lib.ListN.{get_or}
use lib.Ieee.{Float}
use borrow.Author.Tests.{lt-ltb, le-ltb, le-leb, lt-leb, eq-eqb, ne_eqb}
use Rattle.arrays.proofs.Order.{lt-or-ge}
use Rattle.block_search.specs.Search.{count_below}
use Rattle.block_search.proofs.Segments.{place-test, at_most}
use Rattle.route.specs.Postings.{Postings, start, doc_at, last_doc as end_of}
use Rattle.route.specs.Cursor.{Cursor, fresh, find_in, skip_to, seek_block_in, load_at, seek_in, advance_in}
use Rattle.bm25.specs.declared.Scoring.{Scoring}
use Rattle.bm25.specs.declared.Scoring.TheVariants.{Unstepped}
use Rattle.notefile.specs.Inner.Reads.{docs_of}
use Rattle.notefile.specs.Lists.{full_blocks}
use Rattle.notefile.specs.declared.part.Part.{Part}
use Rattle.notefile.proofs.ListLaws.{last-is}
use Rattle.decoded.specs.Lists.{list_of}
use Rattle.skip_reader.specs.Inner.Decoded.{doc_in, doc-is, Decoded, ListIn}
use Rattle.skip_reader.specs.Inner.Reader.{last_in, reader_at, Stands, Sought}
use Rattle.postings.specs.Inner.Places.{cursor_of, Behind, Placed, Moved, Shallow, Here}
use Rattle.skip_reader.specs.declared.skip.SkipReader.{SkipReader}
use Rattle.postings.specs.declared.cursor.SegmentPostings.{SegmentPostings}
use Rattle.skip_reader.proofs.Readers.{block-is, stands_on, last-here, end_is}
use Rattle.skip_reader.proofs.Blocks.{decoded-sorted}

-- the route's search over blocks
module _ (l : Postings Float) (t : ℕ) where
  skip-low : (n b : ℕ) → skip_to l 128 t n b ≤ b + n
  skip-low zero b = omega arith
  skip-low (suc n) b = elim (lt-or-ge (end_of l 128 b) t) [
    | inl h ↦ rw (lt-ltb (end_of l 128 b) t h) (omega (arith, skip-low n (suc b)))
    | inr h ↦ rw (le-ltb (end_of l 128 b) t h) (omega arith)
  ]

  -- it ends on a block that ends at the target or after it
  skip-covers : t ≤ 2147483647 → (n b : ℕ) → l.full ≤ b + n → t ≤ end_of l 128 (skip_to l 128 t n b)
  skip-covers k zero b h = rw (le-ltb b l.full (omega arith)) k
  skip-covers k (suc n) b h = elim (lt-or-ge (end_of l 128 b) t) [
    | inl g ↦ rw (lt-ltb (end_of l 128 b) t g) (skip-covers k n (suc b) (omega arith))
    | inr g ↦ rw (le-ltb (end_of l 128 b) t g) g
  ]

-- a decoded block's documents are the route's
module _ {file : List ℕ} {x : Part} {b : ℕ} {block : List (List ℕ)} (D : Decoded file x b block) (scoring : Scoring) where
  doc-at : (i : ℕ) → i < 128 → doc_at (list_of scoring file x) (start 128 b + i) ≡ get_or (docs_of block) i 0
  doc-at i h = doc-is file x scoring (start 128 b + i) ∙ sym (D.docs-are.at i h)

pub doc-here : (p : SegmentPostings) (block : List (List ℕ)) → Here p block (get_or (docs_of block) p.cur 0)
unfolding cursor_of
doc-here p block file x P s = sym (doc-at P.holds s p.cur P.inside)

-- the search in a block finds the route's place
module _ {file : List ℕ} {x : Part} (L : ListIn file x) {b : ℕ} {block : List (List ℕ)} (D : Decoded file x b block) (t : ℕ) (scoring : Scoring) where
  abbrev below : ℕ
  below = count_below 128 (docs_of block) t

  test-is : (i : ℕ) → i < 128 → ltb (doc_at (list_of scoring file x) (start 128 b + i)) t ≡ ltb i below
  test-is i h = ap (λ (z : ℕ). ltb z t) (doc-at D scoring i h) ∙ place-test (docs_of block) (decoded-sorted L D) t i h

  finds : (n i : ℕ) → i + n ≡ 128 → i ≤ below → find_in (list_of scoring file x) t n (start 128 b + i) ≡ start 128 b + below
  finds zero i e h = ap (λ (z : ℕ). start 128 b + z) (omega (arith, at_most (docs_of block) (decoded-sorted L D) t))
  finds (suc n) i e h = elim (lt-or-ge i below) [
    | inl g ↦ rw (test-is i (omega arith), lt-ltb i below g) (rw (shift (start 128 b) i) (finds n (suc i) (omega arith) g))
    | inr g ↦ rw (test-is i (omega arith), le-ltb i below g) (ap (λ (z : ℕ). start 128 b + z) (omega arith))
  ]
    where
      shift : (a i : ℕ) → suc (a + i) ≡ a + suc i
      shift a i = omega arith

  pub find-is : find_in (list_of scoring file x) t 128 (start 128 b) ≡ start 128 b + below
  find-is = subst (λ (z : ℕ). find_in (list_of scoring file x) t 128 z ≡ start 128 b + below) (add-zero (start 128 b)) (finds 128 0 refl (omega arith))

-- the first posting
pub opened : (file : List ℕ) (x : Part) {r : SkipReader} → r ≡ reader_at file x 0 → {block : List (List ℕ)} → Decoded file x r.block block → Moved file x (λ _. fresh) (record { skip_reader = r; block_loaded = true; decoded = 0; cur = 0 }) block
unfolding cursor_of start
opened file x {r} e D =
    let n = block-is file x 0 e in
    record {
      cursor-is = λ s. rw n;
      placed = record { stands = stands_on file x 0 e; low = omega (arith, n); holds = rw n at D; inside = omega arith; loaded-is = λ _. sym n };
    }

module _ (file : List ℕ) (x : Part) (L : ListIn file x) (p : SegmentPostings) (S : Stands file x p.skip_reader) where
  abbrev reader : SkipReader
  reader = p.skip_reader

  pub end-here : (s : Scoring) → end_of (list_of s file x) 128 reader.block ≡ reader.last_doc_in_block
  end-here s = end_is file x L s reader.block ∙ sym (last-here file x reader S)

  -- the skip reader's block may hold the target
  module _ (t : ℕ) where
    pub stays : t ≤ reader.last_doc_in_block → Shallow file x (λ s. seek_block_in (list_of s file x) 128 t (cursor_of p)) p p
    unfolding cursor_of
    stays h block P = record { cursor-is = λ s. sym (rw (end-here s, le-ltb reader.last_doc_in_block t h)); placed = P }

    pub skips : reader.last_doc_in_block < t → {r : SkipReader} → Sought file x t reader.block r → Shallow file x (λ s. seek_block_in (list_of s file x) 128 t (cursor_of p)) p (record { skip_reader = r; block_loaded = false; decoded = p.decoded; cur = p.cur })
    unfolding cursor_of list_of
    skips h {r} K block P =
        let n = block-is file x _ (K Unstepped) in
        record {
          cursor-is = λ s. rw (end-here s, lt-ltb reader.last_doc_in_block t h, block-is file x _ (K s));
          placed = record {
            stands = stands_on file x _ (K Unstepped);
            low = omega (arith, n, skip-low (list_of Unstepped file x) t (full_blocks x - reader.block) reader.block, P.low);
            holds = P.holds;
            inside = P.inside;
            loaded-is = λ q. absurd (true≢false (sym q));
          };
        }

-- a block's last place has its last document
module _ {file : List ℕ} {x : Part} (L : ListIn file x) where
  last-doc : (b : ℕ) → doc_in file x (start 128 b + 127) ≡ last_in file x b
  unfolding start
  last-doc b = elim (lt-or-ge b (full_blocks x)) [
    | inl h ↦
        let p : (b * 128 + 127) / 128 ≡ b = omega arith in
        let q : (b * 128 + 127) % 128 ≡ 127 = omega arith in
        rw (lt-ltb b (full_blocks x) h, lt-ltb (b * 128 + 127) x.count (omega arith), p, q) (last-is file x L.right b h)
    | inr h ↦ rw (le-ltb b (full_blocks x) h, le-ltb (b * 128 + 127) x.count (omega arith))
  ]

  -- so the search stops in the block
  stops : {b t : ℕ} {block : List (List ℕ)} → Decoded file x b block → t ≤ last_in file x b → count_below 128 (docs_of block) t < 128
  stops {b} {t} {block} D h = elim (lt-or-ge 127 (count_below 128 (docs_of block) t)) [
    | inl g ↦ absurd (true≢false (sym (place-test (docs_of block) (decoded-sorted L D) t 127 (omega arith) ∙ lt-ltb 127 _ g) ∙ le-ltb (get_or (docs_of block) 127 0) t (rw (D.docs-are.at 127 (omega arith), last-doc b) h)))
    | inr g ↦ omega arith
  ]

  pub lands : (p : SegmentPostings) {before : List (List ℕ)} → Placed file x p before → {block : List (List ℕ)} → Decoded file x p.skip_reader.block block → (t : ℕ) → t ≤ p.skip_reader.last_doc_in_block → {cur : ℕ} → cur ≡ count_below 128 (docs_of block) t
      → Moved file x (λ s. load_at (list_of s file x) 128 t p.skip_reader.block) (record { skip_reader = p.skip_reader; block_loaded = true; decoded = p.skip_reader.block; cur = cur }) block
  unfolding cursor_of
  lands p P D t h e =
      let k : t ≤ last_in file x p.skip_reader.block = rw (last-here file x p.skip_reader P.stands) at h in
      record {
        cursor-is = λ s. rw (find-is L D t s, e);
        placed = record { stands = P.stands; low = P.low; holds = D; inside = omega (arith, e, stops D k); loaded-is = λ _. refl };
      }

-- a seek of a block ends on one that ends at the target or after it
seek-covers : (l : Postings Float) (t : ℕ) → t ≤ 2147483647 → (c : Cursor) → t ≤ end_of l 128 (seek_block_in l 128 t c).blk
seek-covers l t k c = elim (lt-or-ge (end_of l 128 c.blk) t) [
  | inl g ↦ rw (lt-ltb (end_of l 128 c.blk) t g) (skip-covers l t k (l.full - c.blk) c.blk (omega arith))
  | inr g ↦ rw (le-ltb (end_of l 128 c.blk) t g) g
]

module _ {file : List ℕ} {x : Part} (L : ListIn file x) (p : SegmentPostings) {block : List (List ℕ)} (P : Placed file x p block) where
  module _ (t : ℕ) where
    abbrev sought : Scoring → Cursor
    sought s = seek_in (list_of s file x) 128 t (cursor_of p)

    abbrev shallow : Scoring → Cursor
    shallow s = seek_block_in (list_of s file x) 128 t (cursor_of p)

    pub sought-here : t ≤ get_or (docs_of block) p.cur 0 → Moved file x sought p block
    unfolding cursor_of
    sought-here h = record { cursor-is = λ s. sym (rw (doc-at P.holds s p.cur P.inside, le-leb t (get_or (docs_of block) p.cur 0) h)); placed = P }

    next-is : {next : ℕ} → next ≡ min (suc p.cur) 127 → min (suc (start 128 p.decoded + p.cur)) (start 128 p.decoded + 127) ≡ start 128 p.decoded + next
    next-is e = omega arith

    pub sought-next : get_or (docs_of block) p.cur 0 < t → {next : ℕ} → next ≡ min (suc p.cur) 127 → next < 128 → t ≤ get_or (docs_of block) next 0
        → Moved file x sought (record { skip_reader = p.skip_reader; block_loaded = p.block_loaded; decoded = p.decoded; cur = next }) block
    unfolding cursor_of
    sought-next h {next} e i k = record {
      cursor-is = λ s. sym (rw (doc-at P.holds s p.cur P.inside, lt-leb t (get_or (docs_of block) p.cur 0) h, next-is e, doc-at P.holds s next i, le-leb t (get_or (docs_of block) next 0) k));
      placed = record { stands = P.stands; low = P.low; holds = P.holds; inside = i; loaded-is = P.loaded-is };
    }

    -- by blocks
    module _ (h : Behind p block t) where
      abbrev next : ℕ
      next = min (suc p.cur) 127

      far : (s : Scoring) → sought s ≡ load_at (list_of s file x) 128 t (shallow s).blk
      unfolding cursor_of
      far s = rw (doc-at P.holds s p.cur P.inside, lt-leb t (get_or (docs_of block) p.cur 0) h.here, next-is refl, doc-at P.holds s next (omega arith), lt-leb t (get_or (docs_of block) next 0) h.next)

      -- in the block that may hold the target, loaded, the search ends on the route's place
      module _ (r : SegmentPostings) {block' : List (List ℕ)} (R : Placed file x r block') (found : (s : Scoring) → r.skip_reader.block ≡ (shallow s).blk) where
        reaches : t ≤ 2147483647 → t ≤ r.skip_reader.last_doc_in_block
        reaches k = subst (λ (z : ℕ). t ≤ z) (ap (end_of (list_of Unstepped file x) 128) (sym (found Unstepped)) ∙ end-here file x L r R.stands Unstepped) (seek-covers (list_of Unstepped file x) t k (cursor_of p))

        sought-far : {z : SegmentPostings} → Moved file x (λ s. load_at (list_of s file x) 128 t r.skip_reader.block) z block' → Moved file x sought z block'
        sought-far M = record {
          cursor-is = λ s. M.cursor-is s ∙ ap (load_at (list_of s file x) 128 t) (found s) ∙ sym (far s);
          placed = M.placed;
        }

        pub sought-loaded : t ≤ 2147483647 → r.block_loaded ≡ true → {cur : ℕ} → cur ≡ count_below 128 (docs_of block') t
            → Moved file x sought (record { skip_reader = r.skip_reader; block_loaded = r.block_loaded; decoded = r.decoded; cur = cur }) block'
        sought-loaded k on {cur} c =
            let d = R.loaded-is on in
            let D : Decoded file x r.skip_reader.block block' = subst (λ (b : ℕ). Decoded file x b block') d R.holds in
            subst (λ (z : SegmentPostings). Moved file x sought z block')
            (ap (λ (z : Bool). record { skip_reader = r.skip_reader; block_loaded = z; decoded = r.skip_reader.block; cur = cur }) (sym on)
            ∙ ap (λ (z : ℕ). record { skip_reader = r.skip_reader; block_loaded = r.block_loaded; decoded = z; cur = cur }) (sym d))
            (sought-far (lands L r R D t (reaches k) c))

  -- the next posting
  abbrev advanced : Scoring → Cursor
  advanced s = advance_in (list_of s file x) 128 (cursor_of p)

  pub advanced-in : (p.cur ≡ 127 → ⊥) → Moved file x advanced (record { skip_reader = p.skip_reader; block_loaded = p.block_loaded; decoded = p.decoded; cur = p.cur + 1 }) block
  unfolding cursor_of
  advanced-in h = record {
    cursor-is = λ s. sym (rw (ne_eqb (start 128 p.decoded + p.cur) (start 128 p.decoded + 127) (λ q. h (omega arith)), step));
    placed = record { stands = P.stands; low = P.low; holds = P.holds; inside = inner P.inside; loaded-is = P.loaded-is };
  }
    where
      step : suc (start 128 p.decoded + p.cur) ≡ start 128 p.decoded + (p.cur + 1)
      step = omega arith

      inner : p.cur < 128 → p.cur + 1 < 128
      inner k = elim (lt-or-ge p.cur 127) [
        | inl g ↦ omega arith
        | inr g ↦ absurd (h (omega arith))
      ]

  pub advanced-on : p.cur ≡ 127 → p.skip_reader.block ≤ full_blocks x → {r : SkipReader} → r ≡ reader_at file x (suc p.skip_reader.block) → {block' : List (List ℕ)} → Decoded file x r.block block' → Moved file x advanced (record { skip_reader = r; block_loaded = true; decoded = r.block; cur = 0 }) block'
  unfolding cursor_of
  advanced-on h low {r} e D =
      let n = block-is file x (suc p.skip_reader.block) e in
      let q : start 128 p.decoded + p.cur ≡ start 128 p.decoded + 127 = omega arith in
      record {
        cursor-is = λ s. sym (rw (eq-eqb (start 128 p.decoded + p.cur) (start 128 p.decoded + 127) q, n, add-zero (start 128 (suc p.skip_reader.block))));
        placed = record { stands = stands_on file x (suc p.skip_reader.block) e; low = omega (arith, n); holds = D; inside = omega arith; loaded-is = λ _. refl };
      }
