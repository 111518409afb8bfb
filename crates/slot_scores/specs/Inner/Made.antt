-- Narrow blocks, and scores that are made and kept.
use Rattle.std.specs.Prelude.{◌≡◌, Bool, ◌&&◌, List, [], ℕ, ◌+◌, leb, ltb, get_or, set, Float}
use Rattle.bm25.specs.declared.Scoring.{Scoring}
use Rattle.notefile.specs.Lists.{full_blocks}
use Rattle.notefile.specs.Skips.{freq_width}
use Rattle.notefile.specs.declared.part.Part.{Part}
use Rattle.term_scorer.specs.Inner.Slots.{list_at, cursor_at}
use Rattle.term_scorer.specs.Inner.Weights.{BlockScores, FloatRows}

-- block b of a list is full, and its frequencies have at most 24 bits
abbrev pub narrow_in : List ℕ → Part → ℕ → Bool
narrow_in file x b = ltb b (full_blocks x) && leb (freq_width file x b) 24

-- slot q's row has the scores of its decoded block, and they are kept: nothing else has changed
pub record ScoresMade (scoring : Scoring) (file : List ℕ) (lists : List (List ℕ)) (q : ℕ) (places : List (List ℕ))
    (floats : List (List Float)) (places' : List (List ℕ)) (floats' : List (List Float)) : Type 0 where
  pub places-are : places' ≡ set places q (set (get_or places q []) 8 1)
  pub floats-are : floats' ≡ set floats (2 + q) (get_or floats' (2 + q) [])
  pub scores : BlockScores (list_at scoring file lists q) (cursor_at places q).dec (get_or floats' (2 + q) [])
  pub rows : FloatRows floats'
