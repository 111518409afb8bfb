-- A bound and a block's scores: the loop that compares each score as it makes it, and the scores that the norms give.
use mathlib.Core.Path.{◌≡◌, refl, sym, ap, ◌∙◌}
use mathlib.Core.Bool.{Bool, true, false, not}
use mathlib.Core.List.{List}
use mathlib.Core.Logic.{◌⊎◌, inl, inr}
use Prim.Native.Nat.{ℕ, zero, suc, ◌+◌, ◌≤◌, ◌<◌}
use native.Mathlib.Omega.{arith}
use lib.ListN.{get_or}
use lib.Ieee.{Float, nan, binary32, add, mul, div, lt}
use Rattle.arrays.proofs.Every.{stays, lowered}
use Rattle.floats.specs.Whole.{whole_f32}
use Rattle.fieldnorm.specs.declared.FieldNormReader.{FieldNormReader}
use Rattle.bm25.specs.Bound.{max_tf}
use Rattle.bm25.specs.Score.{score_at}
use Rattle.bm25.specs.Inner.Bound.{block_bound_in}
use Rattle.bm25.specs.Bound.{all_covered}
use Rattle.bm25.specs.Inner.Weight.{score_in}
use Rattle.bm25.specs.declared.Bm25Weight.{Bm25Weight}
use Rattle.block_norms.specs.Inner.Block.{Gathered}
use Rattle.bm25_block.specs.Inner.Block.{posting_score, weighed_at}
use Rattle.bm25_block.proofs.BlockScores.{weighed-one}
use Rattle.block_cover.specs.Inner.Cover.{lower_bound, block_covered}

-- one score compared: the flag falls where the bound lies below it
module _ (weight bound : Float) (freqs : List ℕ) (norms : List Float) (i : ℕ) {tf score : Float} (et : tf ≡ whole_f32 (get_or freqs i 0))
    (es : score ≡ mul binary32 weight (div binary32 tf (add binary32 tf (get_or norms i nan)))) where
  abbrev passes : ℕ → Bool
  passes k = not (lt bound (weighed_at weight freqs norms k))

  test-is : {b : Bool} → lt bound score ≡ b → passes i ≡ not b
  test-is e = ap (λ (z : Float). not (lt bound z)) (sym (weighed-one weight (get_or freqs i 0) et refl es)) ∙ ap not e

  pub compared : {right next : Bool} → right ≡ all_covered bound i (weighed_at weight freqs norms)
      → ((lt bound score ≡ true) × (next ≡ false)) ⊎ ((lt bound score ≡ false) × (next ≡ right)) → next ≡ all_covered bound (i + 1) (weighed_at weight freqs norms)
  compared e (inl (t, f)) = lowered passes i (test-is t) f
  compared e (inr (t, f)) = stays passes i e (test-is t) f

-- scores that agree are covered together
pub covered_same : (bound : Float) (f g : ℕ → Float) (n : ℕ) → ((i : ℕ) → i < n → f i ≡ g i) → all_covered bound n f ≡ all_covered bound n g
covered_same bound f g zero h = refl
covered_same bound f g (suc n) h = rw (covered_same bound f g n (λ i l. h i (omega arith)), h n (omega arith))

-- the bound that a test took is the lower of the block's own, at the norm of its code, and the list's
low-is : (w : Bm25Weight) (code freq_code : ℕ) {own max_score low : Float} → own ≡ score_at w.weight (get_or w.cache code nan) (max_tf freq_code)
    → ((lt own max_score ≡ true) × (low ≡ own)) ⊎ ((lt own max_score ≡ false) × (low ≡ max_score)) → low ≡ lower_bound (block_bound_in w code freq_code) max_score
unfolding block_bound_in score_in
low-is w code freq_code e (inl (t, f)) = rw (← e, t) f
low-is w code freq_code e (inr (t, f)) = rw (← e, t) f

module _ (reader : FieldNormReader) (file : List ℕ) (w : Bm25Weight) (docs freqs : List ℕ) {norms : List Float} (g : Gathered reader file w.cache docs norms) where
  -- a test of the scores at the norms that were read is one of the postings' scores
  pub norms-read : (bound : Float) (n : ℕ) → n ≤ 128 → {r : Bool} → r ≡ all_covered bound n (weighed_at w.weight freqs norms) → r ≡ all_covered bound n (posting_score reader file w docs freqs)
  unfolding score_in
  norms-read bound n h e = e ∙ covered_same bound (weighed_at w.weight freqs norms) (posting_score reader file w docs freqs) n (λ i l. rw (g.at i (omega arith)))

  -- so is one of a full block with the lower of its two bounds
  pub block_read : (code freq_code : ℕ) {own max_score low : Float} → own ≡ score_at w.weight (get_or w.cache code nan) (max_tf freq_code)
      → ((lt own max_score ≡ true) × (low ≡ own)) ⊎ ((lt own max_score ≡ false) × (low ≡ max_score)) → {r : Bool} → r ≡ all_covered low 128 (weighed_at w.weight freqs norms)
      → r ≡ block_covered reader file w docs freqs code freq_code max_score
  unfolding block_covered
  block_read code freq_code {own} {max_score} {low} e t f =
      norms-read low 128 (omega arith) f ∙ ap (λ (z : Float). all_covered z 128 (posting_score reader file w docs freqs)) (low-is w code freq_code e t)
