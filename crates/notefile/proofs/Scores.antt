-- A list's scores and bounds, given by its struct, and how high they are.
use mathlib.Core.Path.{◌≡◌, sym, subst}
use mathlib.Core.Bool.{Bool, true, false, cond}
use mathlib.Core.List.{List}
use Prim.Native.Nat.{ℕ, ◌^◌, ◌<◌}
use native.Mathlib.Omega.{arith}
use lib.Dec.{T, eqb, lit<}
use lib.ListN.{get_or}
use lib.Ieee.{binary32, of_bits}
use Rattle.floats.specs.Step.{within}
use Rattle.fieldnorm.specs.Reader.{fieldnorm_id}
use Rattle.fieldnorm.specs.declared.FieldNormReader.{FieldNormReader}
use Rattle.bm25.specs.Bound.{max_tf}
use Rattle.bm25.specs.Inner.Weight.{score_in}
use Rattle.bm25.specs.Inner.Bound.{list_bound_in, block_bound_in}
use Rattle.bm25.specs.declared.Bm25Weight.{Bm25Weight}
use Rattle.bm25.proofs.Bounds.{score-within}
use Rattle.bm25.proofs.WeightLaws.{score-in, max-score-is, block-max-score-is}
use Rattle.notefile.specs.Header.{norm_reader, norm_code_of}
use Rattle.notefile.specs.Skips.{max_norm_code, max_freq_code}
use Rattle.notefile.specs.Lists.{score_for, block_bound, list_bound}
use Rattle.notefile.specs.Inner.Given.{Limits, WeightIn}
use Rattle.notefile.specs.declared.part.Part.{Part}
use Rattle.notefile.proofs.Headers.{norm-code-small}

-- what a list's struct gives
module _ (x : Part) (w : Bm25Weight) (W : WeightIn x w) where
  pub score-by-code : (code freq : ℕ) → code < 256 → score_in w code freq ≡ score_for x code freq
  unfolding score_for
  score-by-code = score-in (of_bits binary32 x.weight) (of_bits binary32 x.average) w W

  pub list-bound-by : list_bound_in w ≡ list_bound x
  unfolding list_bound score_for
  list-bound-by = max-score-is (of_bits binary32 x.weight) (of_bits binary32 x.average) w W

  module _ (file : List ℕ) (bytes : (k : ℕ) → get_or file k 0 < 256) where
    -- a document's score, by the code that is read for it
    pub score-of-doc : {reader : FieldNormReader} → reader ≡ norm_reader file → (doc freq : ℕ) → score_in w (fieldnorm_id reader file doc) freq ≡ score_for x (norm_code_of file doc) freq
    unfolding norm_code_of
    score-of-doc er doc freq = rw er (score-by-code (norm_code_of file doc) freq (norm-code-small file bytes doc))

    pub block-bound-by : (b : ℕ) → block_bound_in w (max_norm_code file x b) (max_freq_code file x b) ≡ block_bound file x b
    unfolding block_bound score_for
    block-bound-by b = block-max-score-is (of_bits binary32 x.weight) (of_bits binary32 x.average) w W (max_norm_code file x b) (max_freq_code file x b) (bytes _)

max-tf-small : (code : ℕ) → code < 256 → max_tf code < 2 ^ 32
max-tf-small code h = go (eqb code 255)
  where
    go : (b : Bool) → cond b 4294967295 code < 2 ^ 32
    go true = lit< tt
    go false = omega arith

-- a list within its limits has scores and bounds that are finite, of clear sign and at most 1,000
module _ (x : Part) (L : Limits x) where
  pub score-for-in : (code freq : ℕ) → code < 256 → freq < 2 ^ 32 → T (within 1000 (score_for x code freq))
  unfolding score_for
  score-for-in code freq c f = score-within _ _ code freq (subst T (sym L.weight) tt) (subst T (sym L.average) tt) c f

  pub list-bound-in : T (within 1000 (list_bound x))
  unfolding list_bound score_for
  list-bound-in = score-for-in 255 2013265944 (lit< tt) (lit< tt)

  pub block-bound-in : (file : List ℕ) → ((k : ℕ) → get_or file k 0 < 256) → (b : ℕ) → T (within 1000 (block_bound file x b))
  unfolding block_bound
  block-bound-in file bytes b = score-for-in _ _ (bytes _) (max-tf-small _ (bytes _))
