-- A struct that `new` made gives the definition's scores and bounds, and all of them are finite, of clear sign and at most 1,000.
use mathlib.Core.Path.{◌≡◌}
use Prim.Native.Nat.{ℕ, ◌^◌, ◌<◌}
use lib.Dec.{T, lit<}
use lib.Ieee.{Float}
use Rattle.floats.specs.Step.{within}
use Rattle.bm25.specs.Score.{score_of}
use Rattle.bm25.specs.Scoring.{scored}
use Rattle.bm25.specs.Limits.{average_ok, weight_ok}
use Rattle.bm25.specs.Bound.{max_tf}
use Rattle.bm25.specs.Inner.Weight.{WeightOf, score_in}
use Rattle.bm25.specs.Inner.Bound.{list_bound_in, block_bound_in}
use Rattle.bm25.specs.declared.Bm25Weight.{Bm25Weight}
use Rattle.bm25.specs.declared.Scoring.{Scoring}
use Rattle.bm25.proofs.Bounds.{score-within, scored-within}

module _ (weight average : Float) (w : Bm25Weight) (is : WeightOf weight average w) where
  pub score-in : (code freq : ℕ) → code < 256 → score_in w code freq ≡ score_of weight average code freq
  unfolding score_in score_of
  score-in code freq h = rw (is.weight_is, is.norms code h)

  pub max-score-is : list_bound_in w ≡ score_of weight average 255 2013265944
  unfolding list_bound_in
  max-score-is = score-in 255 2013265944 (lit< tt)

  pub block-max-score-is : (code freq_code : ℕ) → code < 256 → block_bound_in w code freq_code ≡ score_of weight average code (max_tf freq_code)
  unfolding block_bound_in
  block-max-score-is code freq_code h = score-in code (max_tf freq_code) h

  module _ (w-ok : T (weight_ok weight)) (a-ok : T (average_ok average)) (scoring : Scoring) where
    pub in-limits : (code freq : ℕ) → code < 256 → freq < 2 ^ 32 → T (within 1000 (scored scoring (score_in w code freq)))
    in-limits code freq c f = scored-within scoring (score_in w code freq) (rw (score-in code freq c) (score-within weight average code freq w-ok a-ok c f))
