-- The norms of the slots' lists, and what is kept of a slot: its list bound, its block's scores and block bounds.
use Rattle.std.specs.Prelude.{◌≡◌, not, List, [], ℕ, ◌+◌, ◌-◌, ◌*◌, ◌≤◌, ◌<◌, T, get_or, length, Float}
use Rattle.std.specs.Float.{nan, binary32}
use Rattle.std.specs.Float.Ieee.{nan_bits, of_bits}
use Rattle.route.specs.Cursor.{block_max, fresh}
use Rattle.route.specs.F32.{f32}
use Rattle.route.specs.Postings.{Postings, start}
use Rattle.bm25.specs.declared.Scoring.{Scoring}
use Rattle.notefile.specs.Inner.Given.{NormsIn}
use Rattle.slot_rows.specs.Inner.Rows.{cursor_in, Unkept}
use Rattle.term_scorer.specs.Inner.Slots.{Held, part_at, list_at, cursor_at, SlotIn}

-- a row of the run's floats: 128, so that it can hold a block's scores, or by slot a bound each
abbrev pub FloatRow : List Float → Type 0
FloatRow xs = length xs ≡ 128

-- the floats of a run: 18 rows
pub record FloatRows (floats : List (List Float)) : Type 0 where
  pub eighteen : length floats ≡ 18
  pub row : (r : ℕ) → r < 18 → FloatRow (get_or floats r [])

-- slot q has its list's norms
abbrev pub Weighed : List (List ℕ) → List (List Float) → ℕ → Type 0
Weighed lists caches q = NormsIn (part_at lists q) (get_or caches q [])

-- slot q's list bound, as its row has it
abbrev pub top_at : List (List ℕ) → ℕ → Float
top_at lists q = of_bits binary32 (get_or (get_or lists q []) 7 0)

-- it can be read: 32 bits, and not those of a NaN
pub record TopRead (lists : List (List ℕ)) (q : ℕ) : Type 0 where
  pub slot-in : q < 16
  pub small : get_or (get_or lists q []) 7 0 < 4294967296
  pub number : T (not (nan_bits binary32 (get_or (get_or lists q []) 7 0)))

-- and it is its list's
pub record TopKept (scoring : Scoring) (file : List ℕ) (lists : List (List ℕ)) (q : ℕ) : Type 0 where
  pub read : TopRead lists q
  pub top-is : top_at lists q ≡ (list_at scoring file lists q).top

-- slot q as it was opened: on its list's first posting, with its norms and its list bound; nothing else is kept of it
pub record FreshSlot (scoring : Scoring) (file : List ℕ) (lists : List (List ℕ)) (caches : List (List Float)) (h : Held) (q : ℕ) : Type 0 where
  pub slot-in : q < 16
  pub slot : SlotIn file lists h q
  pub first : cursor_at h.places q ≡ fresh
  pub weighed : Weighed lists caches q
  pub top : TopKept scoring file lists q
  pub unkept : Unkept (get_or h.places q [])

-- a row has the scores of block b of a list
pub record BlockScores (l : Postings Float) (b : ℕ) (scores : List Float) : Type 0 where
  pub at : (i : ℕ) → i < 128 → start 128 b + i < l.len → get_or scores i nan ≡ l.score (start 128 b + i)

-- slot q's row has the scores of the block that it decoded last
abbrev pub Scored : Scoring → List ℕ → List (List ℕ) → List (List ℕ) → List (List Float) → ℕ → Type 0
Scored scoring file lists places floats q =
    BlockScores (list_at scoring file lists q) (cursor_at places q).dec (get_or floats (2 + q) [])

-- where they are made, its row has them
abbrev pub ScoresKept : Scoring → List ℕ → List (List ℕ) → List (List ℕ) → List (List Float) → ℕ → Type 0
ScoresKept scoring file lists places floats q = get_or (get_or places q []) 8 0 ≡ 1 → Scored scoring file lists places floats q

-- Behind the 16 bounds of present blocks the row has seven cells for each slot. Up to block e bounds stand ready in those of slot q:
-- each of the seven blocks before e, if it is full, has its own there.
abbrev pub ReadyUpTo : Postings Float → ℕ → ℕ → List Float → Type 0
ReadyUpTo l q e bounds = (b : ℕ) → b < e → e ≤ b + 7 → b < l.full → get_or bounds (16 + 7 * q + (b + 7 - e)) nan ≡ l.bound b

-- what the row of bounds has of a scorer in slot q: its block's bound, where it is known, and those that stand ready
pub record KeptBounds (l : Postings Float) (q : ℕ) (row : List ℕ) (bounds : List Float) : Type 0 where
  pub known : get_or row 7 0 ≡ 1 → get_or bounds q nan ≡ block_max 128 f32 l (cursor_in row)
  pub ready : ReadyUpTo l q (get_or row 9 0) bounds

abbrev pub BoundKept : Scoring → List ℕ → List (List ℕ) → List (List ℕ) → List Float → ℕ → Type 0
BoundKept scoring file lists places bounds q = KeptBounds (list_at scoring file lists q) q (get_or places q []) bounds

-- What a run keeps of slot q, whatever the run: it holds a scorer of the file, with its list's norms and bound; block bounds that are
-- kept are right, and so are scores that are made.
pub record KeptSlot (scoring : Scoring) (file : List ℕ) (lists : List (List ℕ)) (norms : List (List Float)) (h : Held)
    (floats : List (List Float)) (q : ℕ) : Type 0 where
  pub slot-in : q < 16
  pub slot : SlotIn file lists h q
  pub weighed : Weighed lists norms q
  pub bound : BoundKept scoring file lists h.places (get_or floats 0 []) q
  pub scores : ScoresKept scoring file lists h.places floats q
  pub top : TopKept scoring file lists q
