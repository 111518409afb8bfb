-- Bounds by a list's weight with its cache of norms.
use Rattle.std.specs.Prelude.{ℕ, Float}
use Rattle.bm25.specs.Bound.{max_tf}
use Rattle.bm25.specs.Inner.Weight.{score_in}
use Rattle.bm25.specs.declared.Bm25Weight.{Bm25Weight}

-- on `bm25.rs`: the list bound is the score of code 255 and frequency 2,013,265,944
unfoldable pub list_bound_in : Bm25Weight → Float
unfolding score_in
list_bound_in w = score_in w 255 2013265944

-- a full block's bound: the score of its skip entry's pair
unfoldable pub block_bound_in : Bm25Weight → ℕ → ℕ → Float
unfolding score_in
block_bound_in w code freq_code = score_in w code (max_tf freq_code)
