-- The lists of contents as the code has them.
use mathlib.Core.Path.{◌≡◌, refl, subst}
use Prim.Native.Nat.{ℕ, zero, suc, ◌+◌, ◌*◌, ◌/◌, ◌≤◌, ◌<◌}
use mathlib.Core.Logic.{inl, inr}
use native.Mathlib.Nat.{eq-or-lt_of_le, le_of_suc-le-suc}
use native.Mathlib.Omega.{arith}
use Rattle.contents.specs.Contents.{Contents, lists, count_of, doc_of, freq_of, code_of, score_of}
use Rattle.contents.specs.Refusal.{docs_right, freqs_right_of, bound_right}
use Rattle.contents.specs.Inner.HeadOk.{HeadOk}
use Rattle.contents.specs.Inner.ListOk.{ListOk, list_refusal}
use Rattle.contents.proofs.Places.{list_inside}
use Rattle.house.specs.House.{list_skips, list_postings}
use Rattle.house.specs.Inner.Sound.{Sound}
use Rattle.house.specs.Inner.Listed.{doc_in, freq_in, listed_refusal, skips_in, postings_in, Fits, listed_of, blocks_at}
use Rattle.house.proofs.FileLists.{list-sound}

module _ (c : Contents) (l : ℕ) where
  pub listed-refusal : listed_refusal (listed_of c l) c.documents ≡ list_refusal c l
  unfolding listed_refusal list_refusal docs_right freqs_right_of bound_right doc_of freq_of score_of code_of
  listed-refusal = refl

  pub listed-skips : skips_in (listed_of c l) ≡ list_skips c l
  unfolding skips_in list_skips doc_of freq_of score_of code_of
  listed-skips = refl

  pub listed-postings : postings_in (listed_of c l) ≡ list_postings c l
  unfolding postings_in list_postings doc_of freq_of
  listed-postings = refl

  module _ (H : HeadOk c) (h : l < lists c) where
    pub listed-fits : Fits (listed_of c l) c.documents
    listed-fits = record {
      docs-in = omega (arith, list_inside c l h, H.docs-long);
      freqs-in = omega (arith, list_inside c l h, H.freqs-long);
      few = H.few-documents;
      count-in = H.count-in l h;
      weight-ok = H.weight-in l h;
      average-ok = H.average-in;
    }

    pub listed-sound : ListOk c l → Sound (doc_in (listed_of c l)) (freq_in (listed_of c l)) (count_of c l) 1048576
    unfolding doc_of freq_of
    listed-sound L =
        let S = list-sound c l H.few-documents L in
        record {
          few = omega arith;
          rise = S.rise;
          below = λ i k. omega (arith, S.below i k, H.few-documents);
          some = S.some;
          most = S.most;
        }

module _ (c : Contents) (H : HeadOk c) where
  blocks-below : (l : ℕ) → l ≤ lists c → blocks_at c l ≤ 8192 * l
  unfolding blocks_at
  blocks-below zero h = omega arith
  blocks-below (suc l) h = omega (arith, blocks-below l (omega arith), H.count-in l h, H.few-documents)

  pub blocks-in : (l : ℕ) → l < lists c → blocks_at c l + count_of c l / 128 ≤ 131072
  blocks-in l h = omega (arith, blocks-below l (omega arith), H.count-in l h, H.few-documents, H.few-lists)

pub blocks-none : (c : Contents) → blocks_at c 0 ≡ 0
unfolding blocks_at
blocks-none c = refl

pub blocks-next : (c : Contents) (l : ℕ) → blocks_at c (suc l) ≡ blocks_at c l + count_of c l / 128
unfolding blocks_at
blocks-next c l = refl

pub blocks-rise : (c : Contents) (k l : ℕ) → k < l → blocks_at c k + count_of c k / 128 ≤ blocks_at c l
unfolding blocks_at
blocks-rise c k zero h = absurd (omega arith)
blocks-rise c k (suc l) h = elim (eq-or-lt_of_le (le_of_suc-le-suc h)) [
  | inl q ↦ subst (λ (z : ℕ). blocks_at c k + count_of c k / 128 ≤ blocks_at c z + count_of c z / 128) q (omega arith)
  | inr g ↦ omega (arith, blocks-rise c k l g)
]
