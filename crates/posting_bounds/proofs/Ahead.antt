-- Bounds that are worked out ahead: each by its skip entry, and the loop that writes them, a block each turn.
use mathlib.Core.Path.{◌≡◌, refl, ap, ◌∙◌, subst}
use mathlib.Core.List.{List}
use mathlib.Core.Logic.{inl, inr}
use Prim.Native.Nat.{ℕ, min, ◌+◌, ◌-◌, ◌≤◌, ◌<◌}
use native.Mathlib.Omega.{arith}
use lib.ListN.{get_or, length, length-set, set}
use lib.Seq.{get_or-set_other, get_or-set_same}
use lib.Ieee.{Float, nan}
use Rattle.arrays.proofs.Order.{lt-or-ge}
use Rattle.route.specs.Postings.{Postings}
use Rattle.bm25.specs.Bound.{max_tf}
use Rattle.bm25.specs.Score.{score_at}
use Rattle.bm25.specs.Scoring.{scored}
use Rattle.bm25.specs.Inner.Bound.{block_bound_in}
use Rattle.bm25.specs.Inner.Weight.{score_in}
use Rattle.bm25.specs.declared.Bm25Weight.{Bm25Weight}
use Rattle.bm25.specs.declared.Scoring.{Scoring}
use Rattle.notefile.specs.Inner.Given.{WeightIn}
use Rattle.notefile.specs.Inner.Structs.{skip_entry_of}
use Rattle.notefile.specs.declared.part.Part.{Part}
use Rattle.notefile.specs.declared.skip.SkipEntry.{SkipEntry}
use Rattle.notefile.proofs.Scores.{block-bound-by}
use Rattle.decoded.specs.Lists.{list_of}
use Rattle.posting_bounds.specs.Inner.Bounds.{BoundsAhead}

-- a full block's bound, at the norm of its skip entry's code
pub bound_of : (file : List ℕ) (x : Part) (w : Bm25Weight) → WeightIn x w → ((k : ℕ) → get_or file k 0 < 256) → (scoring : Scoring) (b : ℕ) {e : SkipEntry} → e ≡ skip_entry_of file x b
    → {r : Float} → r ≡ scored scoring (score_at w.weight (get_or w.cache e.norm_code nan) (max_tf e.freq_code)) → r ≡ (list_of scoring file x).bound b
unfolding list_of skip_entry_of block_bound_in score_in
bound_of file x w W bytes scoring b {e} ee er =
    er ∙ ap (λ (z : SkipEntry). scored scoring (score_at w.weight (get_or w.cache z.norm_code nan) (max_tf z.freq_code))) ee
    ∙ ap (scored scoring) (block-bound-by x w W file bytes b)

-- the first k are written
pub record Writing (l : Postings Float) (b at n : ℕ) (bounds : List Float) (k : ℕ) (now : List Float) : Type 0 where
  pub within : k ≤ n
  pub written : (j : ℕ) → j < k → get_or now (at + j) nan ≡ l.bound (b + j)
  pub below : (i : ℕ) → i < at → get_or now i nan ≡ get_or bounds i nan
  pub behind : (i : ℕ) → at + n ≤ i → get_or now i nan ≡ get_or bounds i nan
  pub long : length now ≡ length bounds

module _ (l : Postings Float) (b at n : ℕ) (bounds : List Float) where
  pub begun : Writing l b at n bounds 0 bounds
  begun = record { within = omega arith; written = λ j h. absurd (omega arith); below = λ i h. refl; behind = λ i h. refl; long = refl }

  module _ {k : ℕ} {now : List Float} (W : Writing l b at n bounds k now) where
    pub goes_on : k < n → at + k < length now → {v : Float} → v ≡ l.bound (b + k) → Writing l b at n bounds (k + 1) (set now (at + k) v)
    goes_on h inside {v} e = record {
      within = omega arith;
      written = λ j hj. elim (lt-or-ge j k) [
        | inl u ↦ get_or-set_other now (at + k) (at + j) v nan (λ z. omega arith) ∙ W.written j u
        | inr u ↦ let s : k ≡ j = omega arith in subst (λ (z : ℕ). get_or (set now (at + k) v) (at + z) nan ≡ l.bound (b + z)) s (get_or-set_same now (at + k) v nan inside ∙ e)
      ];
      below = λ i hi. get_or-set_other now (at + k) i v nan (λ z. omega arith) ∙ W.below i hi;
      behind = λ i hi. get_or-set_other now (at + k) i v nan (λ z. omega arith) ∙ W.behind i hi;
      long = length-set now (at + k) v ∙ W.long;
    }

    -- all that are full are written
    pub ended : n ≡ min (l.full - b) 7 → n ≤ k → BoundsAhead l b at bounds now
    ended e h = record {
      bound_at = λ j u v. W.written j (omega arith);
      below = W.below;
      behind = λ i u. W.behind i (omega arith);
      long = W.long;
    }
