-- The highest of a block's scores.
use Rattle.std.specs.Prelude.{◌≡◌, false, List, ℕ, ◌<◌, T, get_or, Float}
use Rattle.std.specs.Float.{nan}
use Rattle.std.specs.Float.Ieee.{lt}
use Rattle.floats.specs.Step.{within}

-- 128 scores, each a number
abbrev pub Numbers : List Float → Type 0
Numbers scores = (i : ℕ) → i < 128 → T (within 1000 (get_or scores i nan))

-- a score that is one of them, and none is higher
pub record IsTop (scores : List Float) (top : Float) : Type 0 where
  pub place : ℕ
  pub inside : place < 128
  pub same : top ≡ get_or scores place nan
  pub most : (i : ℕ) → i < 128 → lt top (get_or scores i nan) ≡ false
