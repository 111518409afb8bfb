-- A scorer's place in its list, and the route's cursor that it stands for.
use Rattle.std.specs.Prelude.{Result, Ok, Err, ◌≡◌, true, List, ℕ, suc, min, ◌+◌, ◌≤◌, ◌<◌, ltb, get_or}
use Rattle.block_search.specs.Search.{answer_if}
use Rattle.route.specs.Postings.{TERMINATED, start}
use Rattle.route.specs.Cursor.{Cursor, doc_here}
use Rattle.bm25.specs.declared.Scoring.{Scoring}
use Rattle.notefile.specs.Lists.{full_blocks}
use Rattle.notefile.specs.Inner.Reads.{docs_of}
use Rattle.notefile.specs.declared.part.Part.{Part}
use Rattle.decoded.specs.Lists.{list_of}
use Rattle.skip_reader.specs.Inner.Decoded.{Decoded}
use Rattle.skip_reader.specs.Inner.Reader.{Stands}
use Rattle.postings.specs.declared.cursor.SegmentPostings.{SegmentPostings}

unfoldable pub cursor_of : SegmentPostings → Cursor
cursor_of p = record { blk = p.skip_reader.block; loaded = p.block_loaded; dec = p.decoded; at = start 128 p.decoded + p.cur }

-- the skip reader stands on its block, and the block is the one decoded last, which is the reader's where that is loaded
pub record Placed (file : List ℕ) (x : Part) (p : SegmentPostings) (block : List (List ℕ)) : Type 0 where
  pub stands : Stands file x p.skip_reader
  pub low : p.skip_reader.block ≤ suc (full_blocks x)
  pub holds : Decoded file x p.decoded block
  pub inside : p.cur < 128
  pub loaded-is : p.block_loaded ≡ true → p.decoded ≡ p.skip_reader.block

-- the target is behind the posting on which a scorer stands and behind the next: its seek goes by blocks
pub record Behind (p : SegmentPostings) (block : List (List ℕ)) (target : ℕ) : Type 0 where
  pub here : get_or (docs_of block) p.cur 0 < target
  pub next : get_or (docs_of block) (min (suc p.cur) 127) 0 < target

-- a scorer's place after a move: where the route's cursor is, whatever the scoring
pub record Moved (file : List ℕ) (x : Part) (to : Scoring → Cursor) (p : SegmentPostings) (block : List (List ℕ)) : Type 0 where
  pub cursor-is : (scoring : Scoring) → cursor_of p ≡ to scoring
  pub placed : Placed file x p block

-- the same of a move that leaves the decoded block as it is, whatever that is
abbrev pub Shallow : List ℕ → Part → (Scoring → Cursor) → SegmentPostings → SegmentPostings → Type 0
Shallow file x to p r = (block : List (List ℕ)) → Placed file x p block → Moved file x to r block

-- a document is the one on which the route's cursor stands, in whatever list and scoring the scorer is placed
abbrev pub Here : SegmentPostings → List (List ℕ) → ℕ → Type 0
Here p block doc =
    (file : List ℕ) (x : Part) → Placed file x p block
    → (scoring : Scoring) → doc ≡ doc_here (list_of scoring file x) (cursor_of p)

-- a search's answer, to a seek: `TERMINATED` is never a hit
abbrev pub live_answer : ℕ → Result ℕ ℕ → Result ℕ ℕ
live_answer target (Ok i) = answer_if (ltb target TERMINATED) i
live_answer target (Err n) = Err n
