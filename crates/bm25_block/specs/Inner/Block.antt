-- What the loops over a block's 128 postings leave.
use Rattle.std.specs.Prelude.{◌≡◌, Bool, true, List, ℕ, ◌<◌, get_or, Float}
use Rattle.std.specs.Float.{nan}
use Rattle.arrays.specs.Inner.Holds.{Holds}
use Rattle.floats.specs.Step.{step_down}
use Rattle.floats.specs.Whole.{whole_f32}
use Rattle.fieldnorm.specs.Reader.{fieldnorm_id}
use Rattle.fieldnorm.specs.declared.FieldNormReader.{FieldNormReader}
use Rattle.bm25.specs.Score.{score_at}
use Rattle.bm25.specs.Scoring.{scored}
use Rattle.bm25.specs.Inner.Weight.{score_in}
use Rattle.bm25.specs.declared.Bm25Weight.{Bm25Weight}
use Rattle.bm25.specs.declared.Scoring.{Scoring}
use Rattle.block_norms.specs.Inner.Block.{all_at_most}

-- f32 holds each frequency as it is: up to 2 ^ 24 it holds every whole number
abbrev pub all_exact : List ℕ → Bool
all_exact freqs = all_at_most 16777216 freqs

-- what a caller says who calls a block small
abbrev pub ExactWhere : Bool → List ℕ → Type 0
ExactWhere small freqs = small ≡ true → all_exact freqs ≡ true

-- a way to make each of the first n frequencies an f32 can be taken and gives the nearest one
pub record Rounds (pre : ℕ → Type 0) (post : ℕ → Float → Type 0) (n : ℕ) (freqs : List ℕ) : Type 0 where
  pub may : (i : ℕ) → i < n → pre (get_or freqs i 0)
  pub gives : (i : ℕ) → i < n → (x : Float) → post (get_or freqs i 0) x → x ≡ whole_f32 (get_or freqs i 0)

-- each posting's score, at its norm
abbrev pub weighed_at : Float → List ℕ → List Float → ℕ → Float
weighed_at weight freqs norms i = score_at weight (get_or norms i nan) (get_or freqs i 0)

abbrev pub Weighed : Float → List ℕ → List Float → List Float → Type 0
Weighed weight freqs norms out = Holds nan 128 (weighed_at weight freqs norms) out

-- each score cut down to the grid
abbrev pub CutDown : List Float → List Float → Type 0
CutDown xs out = Holds nan 128 (λ i. step_down (get_or xs i nan)) out

-- each posting's score, by a list's norms and weight
abbrev pub ScoredBy : FieldNormReader → List ℕ → List Float → Float → Scoring → List ℕ → List ℕ → List Float → Type 0
ScoredBy reader file cache weight scoring docs freqs out =
    Holds nan 128 (λ i. scored scoring (score_at weight (get_or cache (fieldnorm_id reader file (get_or docs i 0)) nan) (get_or freqs i 0))) out

-- posting i's score, by its list's struct
abbrev pub posting_score : FieldNormReader → List ℕ → Bm25Weight → List ℕ → List ℕ → ℕ → Float
posting_score reader file w docs freqs i = score_in w (fieldnorm_id reader file (get_or docs i 0)) (get_or freqs i 0)

abbrev pub Scored : FieldNormReader → List ℕ → Bm25Weight → Scoring → List ℕ → List ℕ → List Float → Type 0
Scored reader file w scoring docs freqs out = Holds nan 128 (λ i. scored scoring (posting_score reader file w docs freqs i)) out
