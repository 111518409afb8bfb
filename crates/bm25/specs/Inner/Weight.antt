-- A list's weight with its cache of norms.
use Rattle.std.specs.Prelude.{◌≡◌, List, ℕ, ◌<◌, get_or, Float}
use Rattle.std.specs.Float.{nan}
use Rattle.floats.specs.Whole.{whole_f32}
use Rattle.fieldnorm.specs.Code.{fieldnorm}
use Rattle.bm25.specs.Score.{norm_of, score_at}
use Rattle.bm25.specs.declared.Bm25Weight.{Bm25Weight}

-- each of the 256 entries is its code's length, the nearest f32
abbrev pub LengthsOf : List Float → Type 0
LengthsOf lengths = (i : ℕ) → i < 256 → get_or lengths i nan ≡ whole_f32 (fieldnorm i)

-- each of the 256 entries is its code's norm
abbrev pub NormsOf : Float → List Float → Type 0
NormsOf average cache = (i : ℕ) → i < 256 → get_or cache i nan ≡ norm_of (fieldnorm i) average

-- the struct of a weight and an average
pub record WeightOf (weight average : Float) (w : Bm25Weight) : Type 0 where
  pub weight_is : w.weight ≡ weight
  pub average-is : w.average ≡ average
  pub norms : NormsOf average w.cache

-- the score that a struct gives a code and a frequency; of a struct made by `new` it is `score_of`
unfoldable pub score_in : Bm25Weight → ℕ → ℕ → Float
unfolding score_at
score_in w code freq = score_at w.weight (get_or w.cache code nan) freq
