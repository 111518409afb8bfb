-- A full block's scores under the lower of its two bounds.
use Rattle.std.specs.Prelude.{Bool, cond, List, ℕ, Float}
use Rattle.std.specs.Float.Ieee.{lt}
use Rattle.fieldnorm.specs.declared.FieldNormReader.{FieldNormReader}
use Rattle.bm25.specs.Inner.Bound.{block_bound_in}
use Rattle.bm25.specs.Bound.{all_covered}
use Rattle.bm25.specs.declared.Bm25Weight.{Bm25Weight}
use Rattle.bm25_block.specs.Inner.Block.{posting_score}

-- the lower of a block's own bound and its list's
abbrev pub lower_bound : Float → Float → Float
lower_bound own max_score = cond (lt own max_score) own max_score

-- whether that bound lies below no score of a full block, by its skip entry's pair of codes and the list's bound
unfoldable pub block_covered : FieldNormReader → List ℕ → Bm25Weight → List ℕ → List ℕ → ℕ → ℕ → Float → Bool
block_covered reader file w docs freqs code freq_code max_score =
    all_covered (lower_bound (block_bound_in w code freq_code) max_score) 128 (posting_score reader file w docs freqs)
