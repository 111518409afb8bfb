-- The rows of numbers that a slot keeps: its list's part, and a scorer's place.
use Rattle.std.specs.Prelude.{Result, ◌≡◌, Bool, true, false, List, [], ◌∷◌, ℕ, suc, ◌+◌, ◌≤◌, ◌<◌, eqb, get_or}
use Rattle.route.specs.Postings.{start}
use Rattle.route.specs.Cursor.{Cursor, seek_block_in}
use Rattle.bm25.specs.declared.Scoring.{Scoring}
use Rattle.notefile.specs.Lists.{full_blocks}
use Rattle.notefile.specs.declared.part.Part.{Part}
use Rattle.decoded.specs.Lists.{list_of}
use Rattle.skip_reader.specs.Inner.Decoded.{doc_in}
use Rattle.skip_reader.specs.Inner.Reader.{reader_at}
use Rattle.postings.specs.Seek.{seek_answer}
use Rattle.postings.specs.Inner.Places.{Placed}
use Rattle.postings.specs.declared.cursor.SegmentPostings.{SegmentPostings}

-- a part's numbers, in the order of its fields, and the bits of its list bound
abbrev pub part_row : Part → ℕ → List ℕ
part_row x top = x.weight ∷ x.average ∷ x.count ∷ x.skip_entry_len ∷ x.skips ∷ x.postings ∷ x.end ∷ top ∷ []

-- the part of a row
unfoldable pub part_in : List ℕ → Part
part_in row = record {
  weight = get_or row 0 0;
  average = get_or row 1 0;
  count = get_or row 2 0;
  skip_entry_len = get_or row 3 0;
  skips = get_or row 4 0;
  postings = get_or row 5 0;
  end = get_or row 6 0;
}

-- its weight and average are 32 bits each
pub record PartRow (row : List ℕ) : Type 0 where
  pub weight : get_or row 0 0 < 4294967296
  pub average : get_or row 1 0 < 4294967296

-- a flag as a number
abbrev pub flag : Bool → ℕ
flag true = 1
flag false = 0

-- a place's numbers, whether its block's bound is known, whether the scores of its decoded block are made, and up to where bounds stand ready
abbrev pub place_row : SegmentPostings → ℕ → ℕ → ℕ → List ℕ
place_row p bound scores ahead =
    p.skip_reader.block ∷ p.skip_reader.byte_offset ∷ p.skip_reader.last_doc_in_previous_block
    ∷ p.skip_reader.last_doc_in_block ∷ flag p.block_loaded ∷ p.decoded ∷ p.cur ∷ bound ∷ scores ∷ ahead ∷ []

-- nothing is kept of the list: no bound, no scores, and no bounds that stand ready
pub record Unkept (row : List ℕ) : Type 0 where
  pub bound : get_or row 7 0 ≡ 0
  pub scores : get_or row 8 0 ≡ 0
  pub ahead : get_or row 9 0 ≡ 0

-- its documents are 32 bits each
pub record Narrow (p : SegmentPostings) : Type 0 where
  pub previous : p.skip_reader.last_doc_in_previous_block < 4294967296
  pub last : p.skip_reader.last_doc_in_block < 4294967296

-- the first posting of the skip reader's block, loaded: where the route's leader stands
abbrev pub first_of : Cursor → Cursor
first_of c = record { blk = c.blk; loaded = true; dec = c.blk; at = start 128 c.blk }

-- the route's cursor of a row
unfoldable pub cursor_in : List ℕ → Cursor
cursor_in row = record {
  blk = get_or row 0 0;
  loaded = eqb (get_or row 4 0) 1;
  dec = get_or row 5 0;
  at = start 128 (get_or row 5 0) + get_or row 6 0;
}

module _ (file : List ℕ) (x : Part) where
  -- the place of a row: its skip reader is the one on the row's block
  unfoldable pub postings_in : List ℕ → SegmentPostings
  postings_in row = record {
    skip_reader = reader_at file x (get_or row 0 0);
    block_loaded = eqb (get_or row 4 0) 1;
    decoded = get_or row 5 0;
    cur = get_or row 6 0;
  }

  -- a row is that of the place made of it
  pub record Standing (row : List ℕ) : Type 0 where
    pub row_is : row ≡ place_row (postings_in row) (get_or row 7 0) (get_or row 8 0) (get_or row 9 0)
    pub narrow : Narrow (postings_in row)
    pub low : get_or row 0 0 ≤ suc (full_blocks x)

  -- and the block is the one decoded last
  pub record PlaceIn (row : List ℕ) (block : List (List ℕ)) : Type 0 where
    pub standing : Standing row
    pub placed : Placed file x (postings_in row) block

  -- after a move: where the route's cursor is, whatever the scoring; a bound known before is known still only for the same block,
  -- scores that were made only for the same decoded block, and bounds that stand ready are those that did
  pub record MovedRow (to : Scoring → Cursor) (row row' : List ℕ) (block' : List (List ℕ)) (doc : ℕ) : Type 0 where
    pub place : PlaceIn row' block'
    pub cursor-is : (scoring : Scoring) → cursor_in row' ≡ to scoring
    pub doc-is : doc ≡ doc_in file x (cursor_in row').at
    pub bound-is : get_or row' 7 0 ≡ 1
        → (get_or row 7 0 ≡ 1) × ((cursor_in row').blk ≡ (cursor_in row).blk) × ((cursor_in row').loaded ≡ (cursor_in row).loaded)
    pub scores-is : get_or row' 8 0 ≡ 1 → (get_or row 8 0 ≡ 1) × ((cursor_in row').dec ≡ (cursor_in row).dec)
    pub ahead-is : (b : ℕ) → get_or row' 9 0 ≡ suc b → get_or row 9 0 ≡ suc b

  -- the skip reader stands on the block that may hold the target, and it is loaded
  pub record Reached (target : ℕ) (row row' : List ℕ) (block' : List (List ℕ)) : Type 0 where
    pub moved : MovedRow (λ _. cursor_in row') row row' block' (doc_in file x (cursor_in row').at)
    pub block-is : (scoring : Scoring) → (cursor_in row').blk ≡ (seek_block_in (list_of scoring file x) 128 target (cursor_in row)).blk
    pub loaded : (cursor_in row').loaded ≡ true

  -- after a seek: where the route's cursor is, and the answer of the document there
  pub record SoughtRow (target : ℕ) (to : Scoring → Cursor) (row row' : List ℕ) (block' : List (List ℕ)) (r : Result ℕ ℕ) : Type 0 where
    pub moved : MovedRow to row row' block' (doc_in file x (cursor_in row').at)
    pub answer-is : r ≡ seek_answer target (doc_in file x (cursor_in row').at) (get_or row' 6 0)

  -- a move that leaves the decoded block and the document as they are, whatever they are: what `MovedRow` says
  abbrev pub ShallowRow : (Scoring → Cursor) → List ℕ → List ℕ → Type 0
  ShallowRow to row row' =
      (block : List (List ℕ)) → PlaceIn row block → MovedRow to row row' block (doc_in file x (cursor_in row).at)
