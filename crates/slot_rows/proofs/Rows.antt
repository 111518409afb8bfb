-- A row and the place made of it are one, so that a move of the place is a move of the row.
use Rattle.std.specs.Prelude.{Result}
use mathlib.Core.Path.{◌≡◌, refl, sym, ap, ◌∙◌, subst}
use mathlib.Core.Bool.{Bool, true, false}
use mathlib.Core.List.{List}
use Prim.Native.Nat.{ℕ, suc, ◌<◌}
use native.Mathlib.Omega.{arith}
use lib.Dec.{eqb}
use lib.ListN.{get_or, set}
use lib.Ieee.{Float}
use Rattle.route.specs.Postings.{Postings}
use Rattle.route.specs.Cursor.{Cursor}
use Rattle.bm25.specs.declared.Scoring.{Scoring}
use Rattle.bm25.specs.declared.Scoring.TheVariants.{Unstepped}
use Rattle.notefile.specs.Lists.{full_blocks}
use Rattle.notefile.specs.Inner.Reads.{docs_of}
use Rattle.notefile.specs.declared.part.Part.{Part}
use Rattle.decoded.specs.Lists.{list_of}
use Rattle.skip_reader.specs.Inner.Decoded.{doc_in, doc-is, ListIn}
use Rattle.skip_reader.specs.Inner.Reader.{last_in, place_in, previous_in, reader_at, Stands}
use Rattle.postings.specs.Seek.{seek_answer}
use Rattle.postings.specs.Inner.Places.{cursor_of, Placed, Moved, Shallow, Here}
use Rattle.skip_reader.specs.declared.skip.SkipReader.{SkipReader}
use Rattle.postings.specs.declared.cursor.SegmentPostings.{SegmentPostings}
use Rattle.skip_reader.proofs.Readers.{block-is, stands_on}
use Rattle.postings.proofs.Moves.{doc-here}
use Rattle.slot_rows.specs.Inner.Rows.{part_in, part_row, flag, place_row, Narrow, cursor_in, postings_in, Standing, PlaceIn, MovedRow, ShallowRow, SoughtRow}

flag-back : (b : Bool) → eqb (flag b) 1 ≡ b
flag-back true = refl
flag-back false = refl

pub part-back : (x : Part) (top : ℕ) → part_in (part_row x top) ≡ x
unfolding part_in
part-back x top = refl

module _ (file : List ℕ) (x : Part) where
  pub cursor-is : (row : List ℕ) → cursor_of (postings_in file x row) ≡ cursor_in row
  unfolding cursor_of postings_in cursor_in reader_at
  cursor-is row = refl

  module _ (row : List ℕ) (S : Standing file x row) where
    pub last-small : get_or row 3 0 < 4294967296
    last-small = omega (arith, S.narrow.last, ap (λ (z : List ℕ). get_or z 3 0) S.row_is)

    pub offset-is : get_or row 1 0 ≡ place_in file x (get_or row 0 0)
    unfolding postings_in reader_at
    offset-is = ap (λ (z : List ℕ). get_or z 1 0) S.row_is

    pub previous-is : get_or row 2 0 ≡ previous_in file x (get_or row 0 0)
    unfolding postings_in reader_at
    previous-is = ap (λ (z : List ℕ). get_or z 2 0) S.row_is

    pub last-is : get_or row 3 0 ≡ last_in file x (get_or row 0 0)
    unfolding postings_in reader_at
    last-is = ap (λ (z : List ℕ). get_or z 3 0) S.row_is

  place-back : (p : SegmentPostings) (k m a : ℕ) → Stands file x p.skip_reader → postings_in file x (place_row p k m a) ≡ p
  unfolding postings_in
  place-back p k m a s =
      ap (λ (r : SkipReader). record { skip_reader = r; block_loaded = eqb (flag p.block_loaded) 1; decoded = p.decoded; cur = p.cur }) (sym s)
      ∙ ap (λ (b : Bool). record { skip_reader = p.skip_reader; block_loaded = b; decoded = p.decoded; cur = p.cur }) (flag-back p.block_loaded)

  -- the row of a place that the arrays hold
  kept_in : (p : SegmentPostings) (k m a : ℕ) {block : List (List ℕ)} → Narrow p → Placed file x p block → PlaceIn file x (place_row p k m a) block
  kept_in p k m a {block} n P =
      let e = place-back p k m a P.stands in
      record {
        standing = record { row_is = ap (λ (q : SegmentPostings). place_row q k m a) (sym e); narrow = subst Narrow (sym e) n; low = P.low };
        placed = subst (λ (q : SegmentPostings). Placed file x q block) (sym e) P;
      }

  -- what is known of its blocks moves nothing
  told_in : {row row' : List ℕ} {block : List (List ℕ)} (k m a : ℕ) → row' ≡ place_row (postings_in file x row) k m a → PlaceIn file x row block
      → PlaceIn file x row' block × (cursor_in row' ≡ cursor_in row)
  told_in {row} {row'} {block} k m a e P =
      let p = postings_in file x row in (
        subst (λ (z : List ℕ). PlaceIn file x z block) (sym e) (kept_in p k m a P.standing.narrow P.placed),
        ap cursor_in e ∙ sym (cursor-is (place_row p k m a)) ∙ ap cursor_of (place-back p k m a P.placed.stands) ∙ cursor-is row,
      )

  -- to know its bound, or not
  pub bound-in : (k : ℕ) {row : List ℕ} {block : List (List ℕ)} → PlaceIn file x row block → PlaceIn file x (set row 7 k) block × (cursor_in (set row 7 k) ≡ cursor_in row)
  bound-in k {row} P = told_in k (get_or row 8 0) (get_or row 9 0) (ap (λ (z : List ℕ). set z 7 k) P.standing.row_is) P

  -- to have made the scores of its decoded block, or not
  pub scores-in : (k : ℕ) {row : List ℕ} {block : List (List ℕ)} → PlaceIn file x row block → PlaceIn file x (set row 8 k) block × (cursor_in (set row 8 k) ≡ cursor_in row)
  scores-in k {row} P = told_in (get_or row 7 0) k (get_or row 9 0) (ap (λ (z : List ℕ). set z 8 k) P.standing.row_is) P

  -- to have bounds that stand ready, or not
  pub ahead_in : (k : ℕ) {row : List ℕ} {block : List (List ℕ)} → PlaceIn file x row block → PlaceIn file x (set row 9 k) block × (cursor_in (set row 9 k) ≡ cursor_in row)
  ahead_in k {row} P = told_in (get_or row 7 0) (get_or row 8 0) k (ap (λ (z : List ℕ). set z 9 k) P.standing.row_is) P

  -- a row's document, whatever the scoring
  here : (p : SegmentPostings) {block : List (List ℕ)} → Placed file x p block → {doc : ℕ} → Here p block doc → doc ≡ doc_in file x (cursor_of p).at
  here p {block} P h = h file x P Unstepped ∙ doc-is file x Unstepped (cursor_of p).at

  module _ (p : SegmentPostings) {block : List (List ℕ)} (n : Narrow p) (to : Scoring → Cursor) (M : Moved file x to p block) where
    -- a place that has moved, kept in a row
    kept_row : {row row' : List ℕ} (k m a : ℕ) → row' ≡ place_row p k m a → {doc : ℕ} → Here p block doc
        → (k ≡ 1 → (get_or row 7 0 ≡ 1) × ((cursor_of p).blk ≡ (cursor_in row).blk) × ((cursor_of p).loaded ≡ (cursor_in row).loaded))
        → (m ≡ 1 → (get_or row 8 0 ≡ 1) × ((cursor_of p).dec ≡ (cursor_in row).dec)) → ((b : ℕ) → a ≡ suc b → get_or row 9 0 ≡ suc b) → MovedRow file x to row row' block doc
    kept_row {row} {row'} k m a e {doc} h known made ready =
        let P = M.placed in
        let c : cursor_in row' ≡ cursor_of p = ap cursor_in e ∙ sym (cursor-is (place_row p k m a)) ∙ ap cursor_of (place-back p k m a P.stands) in
        record {
          place = subst (λ (z : List ℕ). PlaceIn file x z block) (sym e) (kept_in p k m a n P);
          cursor-is = λ s. c ∙ M.cursor-is s;
          doc-is = here p P h ∙ ap (λ (z : Cursor). doc_in file x z.at) (sym c);
          bound-is = λ b.
              let w = known (sym (ap (λ (z : List ℕ). get_or z 7 0) e) ∙ b) in
              (w.0, ap (λ (z : Cursor). z.blk) c ∙ w.1, ap (λ (z : Cursor). z.loaded) c ∙ w.2);
          scores-is = λ b.
              let w = made (sym (ap (λ (z : List ℕ). get_or z 8 0) e) ∙ b) in
              (w.0, ap (λ (z : Cursor). z.dec) c ∙ w.1);
          ahead-is = λ b u. ready b (sym (ap (λ (z : List ℕ). get_or z 9 0) e) ∙ u);
        }

    pub moved_row : {row row' : List ℕ} (a : ℕ) → row' ≡ place_row p 0 0 a → {doc : ℕ} → Here p block doc → ((b : ℕ) → a ≡ suc b → get_or row 9 0 ≡ suc b)
        → MovedRow file x to row row' block doc
    moved_row a e h ready = kept_row 0 0 a e h (λ k. absurd (omega (arith, k))) (λ k. absurd (omega (arith, k))) ready

-- what functions of a part ask of the one that a row stands for
module _ (file list : List ℕ) {y : Part} (part-is : y ≡ part_in list) where
  pub list-for : ListIn file (part_in list) → ListIn file y
  list-for L = subst (ListIn file) (sym part-is) L

  pub standing-for : (row : List ℕ) → Standing file (part_in list) row → Standing file y row
  standing-for row S = subst (λ (z : Part). Standing file z row) (sym part-is) S

-- a move of the place that a row stands for is a move of the row
module _ (file list row : List ℕ) (move : Postings Float → Cursor → Cursor) where
  abbrev x : Part
  x = part_in list

  abbrev To : Scoring → Cursor
  To s = move (list_of s file x) (cursor_in row)

  module _ {y : Part} (part-is : y ≡ part_in list) {q : SegmentPostings} (place_is : q ≡ postings_in file y row) where
    carried : (p : SegmentPostings) {block : List (List ℕ)} → Moved file y (λ s. move (list_of s file y) (cursor_of q)) p block → Moved file x To p block
    carried p {block} M =
        let N = subst (λ (z : Part). Moved file z (λ s. move (list_of s file z) (cursor_of q)) p block) part-is M in
        let e = subst (λ (z : Part). q ≡ postings_in file z row) part-is place_is in
        record { cursor-is = λ s. N.cursor-is s ∙ ap (move (list_of s file x)) (ap cursor_of e ∙ cursor-is file x row); placed = N.placed }

    pub moves : (p : SegmentPostings) {block : List (List ℕ)} → Moved file y (λ s. move (list_of s file y) (cursor_of q)) p block → {row' : List ℕ} → (row' ≡ place_row p 0 0 (get_or row 9 0)) × Narrow p → {doc : ℕ} → Here p block doc → MovedRow file x To row row' block doc
    moves p M k h = moved_row file x p k.1 To (carried p M) (get_or row 9 0) k.0 h (λ b u. u)

    -- what functions of a place ask of the one that a row stands for
    reader-is : q.skip_reader ≡ reader_at file y (get_or row 0 0)
    unfolding postings_in
    reader-is = ap (λ (z : SegmentPostings). z.skip_reader) place_is

    pub stands-for : Stands file y q.skip_reader
    stands-for = stands_on file y (get_or row 0 0) reader-is

    pub block-for : (q.skip_reader.block ≡ get_or row 0 0) × (full_blocks y ≡ full_blocks x)
    block-for = (block-is file y (get_or row 0 0) reader-is, ap full_blocks part-is)

    pub placed-for : {block : List (List ℕ)} → PlaceIn file x row block → Placed file y q block
    placed-for {block} P =
        subst (λ (z : Part). Placed file z q block) (sym part-is)
        (subst (λ (z : SegmentPostings). Placed file x z block) (sym (subst (λ (z : Part). q ≡ postings_in file z row) part-is place_is)) P.placed)

    -- a move of the reader alone, which keeps the place
    module _ (same_at : (s : Scoring) → (To s).at ≡ (cursor_in row).at) where
      pub moves-shallow : (p : SegmentPostings) → Shallow file y (λ s. move (list_of s file y) (cursor_of q)) q p → {row' : List ℕ} → (row' ≡ place_row p 0 0 (get_or row 9 0)) × Narrow p → ShallowRow file x To row row'
      moves-shallow p M {row'} k block P =
          let R = moves p (M block (placed-for P)) k (doc-here p block) in
          record {
            place = R.place;
            cursor-is = R.cursor-is;
            doc-is = ap (doc_in file x) (sym (ap (λ (c : Cursor). c.at) (R.cursor-is Unstepped) ∙ same_at Unstepped));
            bound-is = R.bound-is;
            scores-is = R.scores-is;
            ahead-is = R.ahead-is;
          }

  -- moves within the block decoded last
  module _ {block : List (List ℕ)} (P : PlaceIn file x row block) where
    abbrev p : SegmentPostings
    p = postings_in file x row

    abbrev at-cur : ℕ → SegmentPostings
    at-cur cur = record { skip_reader = p.skip_reader; block_loaded = p.block_loaded; decoded = p.decoded; cur = cur }

    abbrev To-p : Scoring → Cursor
    To-p s = move (list_of s file x) (cursor_of p)

    to_row : (cur : ℕ) → Moved file x To-p (at-cur cur) block → Moved file x To (at-cur cur) block
    to_row cur M = record { cursor-is = λ s. M.cursor-is s ∙ ap (move (list_of s file x)) (cursor-is file x row); placed = M.placed }

    narrow-in : (cur : ℕ) → Narrow (at-cur cur)
    narrow-in cur = record { previous = P.standing.narrow.previous; last = P.standing.narrow.last }

    set-cur : (cur : ℕ) → set row 6 cur ≡ place_row (at-cur cur) (get_or row 7 0) (get_or row 8 0) (get_or row 9 0)
    set-cur cur = ap (λ (z : List ℕ). set z 6 cur) P.standing.row_is

    pub cur-set : (cur : ℕ) → get_or (set row 6 cur) 6 0 ≡ cur
    cur-set cur = ap (λ (z : List ℕ). get_or z 6 0) (set-cur cur)

    same_block : (cur : ℕ) → ((cursor_of (at-cur cur)).blk ≡ (cursor_in row).blk) × ((cursor_of (at-cur cur)).loaded ≡ (cursor_in row).loaded) × ((cursor_of (at-cur cur)).dec ≡ (cursor_in row).dec)
    unfolding cursor_of cursor_in postings_in reader_at
    same_block cur = (refl, refl, refl)

    -- another posting of it
    pub moves-in : (cur : ℕ) → Moved file x To-p (at-cur cur) block → {doc : ℕ} → doc ≡ get_or (docs_of block) cur 0 → MovedRow file x To row (set row 6 cur) block doc
    moves-in cur M {doc} e =
        kept_row file x (at-cur cur) (narrow-in cur) To (to_row cur M) (get_or row 7 0) (get_or row 8 0) (get_or row 9 0) (set-cur cur) (subst (Here (at-cur cur) block) (sym e) (doc-here (at-cur cur) block))
        (λ k. (k, (same_block cur).0, (same_block cur).1)) (λ k. (k, (same_block cur).2)) (λ b u. u)

    -- the same posting
    pub stays-in : Moved file x To-p p block → {doc : ℕ} → doc ≡ doc_in file x (cursor_in row).at → MovedRow file x To row row block doc
    stays-in M e = record {
      place = P;
      cursor-is = λ s. sym (cursor-is file x row) ∙ M.cursor-is s ∙ ap (move (list_of s file x)) (cursor-is file x row);
      doc-is = e;
      bound-is = λ k. (k, refl, refl);
      scores-is = λ k. (k, refl);
      ahead-is = λ b u. u;
    }

-- the fast moves of a row: no struct is made
module _ (file list row : List ℕ) (L : ListIn file (part_in list)) {block : List (List ℕ)} (P : PlaceIn file (part_in list) row block) where
  pub cur-inside : get_or row 6 0 < 128
  unfolding postings_in
  cur-inside = P.placed.inside

  -- the document that the scorer stands on is in the array
  pub doc-in-array : doc_in file (part_in list) (cursor_in row).at ≡ get_or (docs_of block) (get_or row 6 0) 0
  unfolding postings_in
  doc-in-array =
      sym (here file (part_in list) (postings_in file (part_in list) row) P.placed (doc-here (postings_in file (part_in list) row) block)
      ∙ ap (λ (c : Cursor). doc_in file (part_in list) c.at) (cursor-is file (part_in list) row))

module _ (file : List ℕ) (x : Part) where
  -- one move behind another
  pub moved_on : {f g : Scoring → Cursor} {row row₁ row₂ : List ℕ} {block block₂ : List (List ℕ)} {d e : ℕ} → MovedRow file x f row row₁ block d → MovedRow file x g row₁ row₂ block₂ e → MovedRow file x g row row₂ block₂ e
  moved_on M N = record {
    place = N.place;
    cursor-is = N.cursor-is;
    doc-is = N.doc-is;
    bound-is = λ k. let n = N.bound-is k in let m = M.bound-is n.0 in (m.0, n.1 ∙ m.1, n.2 ∙ m.2);
    scores-is = λ k. let n = N.scores-is k in let m = M.scores-is n.0 in (m.0, n.1 ∙ m.1);
    ahead-is = λ b u. M.ahead-is b (N.ahead-is b u);
  }

  -- a move by the place to which it came
  pub settled : {to : Scoring → Cursor} {row row' : List ℕ} {block : List (List ℕ)} {doc : ℕ} → MovedRow file x to row row' block doc → MovedRow file x (λ _. cursor_in row') row row' block (doc_in file x (cursor_in row').at)
  settled M = record { place = M.place; cursor-is = λ _. refl; doc-is = refl; bound-is = M.bound-is; scores-is = M.scores-is; ahead-is = M.ahead-is }

  -- a seek by its move and the answer of the document there
  pub sought-row : (t : ℕ) {to : Scoring → Cursor} {row row' : List ℕ} {block : List (List ℕ)} {doc : ℕ} {r : Result ℕ ℕ} → MovedRow file x to row row' block doc
      → r ≡ seek_answer t doc (get_or row' 6 0) → SoughtRow file x t to row row' block r
  sought-row t {to} {row} {row'} {block} M e = record {
    moved = subst (MovedRow file x to row row' block) M.doc-is M;
    answer-is = e ∙ ap (λ (d : ℕ). seek_answer t d (get_or row' 6 0)) M.doc-is;
  }
