-- A block's scores: norms read, then each frequency weighed at its norm, and stepped where the scoring steps.
use mathlib.Core.Path.{◌≡◌, ◌∙◌}
use mathlib.Core.List.{List}
use Prim.Native.Nat.{ℕ}
use lib.Ieee.{Float, binary32, add, mul, div}
use Rattle.floats.specs.Whole.{whole_f32}
use Rattle.fieldnorm.specs.declared.FieldNormReader.{FieldNormReader}
use Rattle.bm25.specs.Score.{score_at}
use Rattle.bm25.specs.Inner.Weight.{score_in}
use Rattle.bm25.specs.declared.Bm25Weight.{Bm25Weight}
use Rattle.bm25.specs.declared.Scoring.{Scoring}
use Rattle.bm25_block.specs.Inner.Block.{ScoredBy, Scored}

-- one score, of a frequency made f32, in place of a norm that no earlier turn has touched
pub weighed-one : (weight : Float) {norm at tf r : Float} (freq : ℕ) → tf ≡ whole_f32 freq → at ≡ norm → r ≡ mul binary32 weight (div binary32 tf (add binary32 tf at))
    → r ≡ score_at weight norm freq
unfolding score_at
weighed-one weight freq et en er = er ∙ rw (et, en)

-- by the norms and the weight of a struct they are the struct's
pub by-struct : (reader : FieldNormReader) (file : List ℕ) (w : Bm25Weight) (docs freqs : List ℕ) {scoring made : Scoring} → scoring ≡ made → {out : List Float}
    → ScoredBy reader file w.cache w.weight made docs freqs out → Scored reader file w scoring docs freqs out
unfolding score_in
by-struct reader file w docs freqs e S = rw e S
