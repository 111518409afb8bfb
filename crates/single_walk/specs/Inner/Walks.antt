-- The walk over a decoded block.
use Rattle.std.specs.Prelude.{◌≡◌, true, false, List, [], ℕ, ◌+◌, ◌≤◌, ◌<◌, get_or, Float}
use Rattle.std.specs.Float.{nan}
use Rattle.std.specs.Float.Ieee.{lt}
use Rattle.term_scorer.specs.Inner.Slots.{held}
use Rattle.term_scorer.specs.declared.score.Similarity.{Similarity}
use Rattle.single_hunt.specs.Inner.Places.{on_walk}
use Rattle.single_hunt.specs.Inner.Stands.{Stands}
use Rattle.single_walk.specs.Inner.Strides.{Steps}
use Rattle.reports.specs.declared.Gone.{Gone}
use Rattle.single_hunt.specs.declared.Single.{Single}

-- the first score above the threshold, from a place on and below n
pub record FirstAbove (values : List Float) (from n : ℕ) (t : Float) (r : ℕ) : Type 0 where
  pub low : from ≤ r
  pub high : r ≤ n
  pub quiet : (k : ℕ) → from ≤ k → k < r → lt t (get_or values k nan) ≡ false
  pub due : r < n → lt t (get_or values r nan) ≡ true

module _ (file : List ℕ) (lists : List (List ℕ)) (x : Single) (places : List (List ℕ)) (blocks : List (List (List ℕ)))
    (values : List Float) where
  -- the tables of a scan on a walk, of which the walk reads these
  pub record Tables (similarity : Similarity) (norms floats : List (List Float)) : Type 0 where
    pub walking : on_walk x.phase ≡ true
    pub row_is : get_or floats (2 + x.slot) [] ≡ values
    pub stands : Stands file similarity lists norms x (held places blocks) floats

  -- there are such tables
  pub record Walkable : Type 0 where
    pub similarity : Similarity
    pub norms : List (List Float)
    pub floats : List (List Float)
    pub tables : Tables similarity norms floats

  -- what `walk` leaves, whatever the others are
  pub record Walks (t : Float) (turns : ℕ) (r : Gone Single) (places' : List (List ℕ)) : Type 0 where
    pub steps : (similarity : Similarity) (norms floats : List (List Float)) → Tables similarity norms floats
        → Steps file similarity lists norms t turns x (held places blocks) r (held places' blocks) floats
