-- What an accepted list is: documents rise and stay below the header's number, frequencies are in range, and the bounds cover the scores; by block and
-- place, and by a posting's number.
use mathlib.Core.Path.{◌≡◌, sym, ap, ◌∙◌, subst}
use mathlib.Core.Bool.{Bool, true, false, ◌&&◌, cond}
use mathlib.Core.List.{List}
use mathlib.Core.Logic.{◌⊎◌, inl, inr}
use Prim.Native.Nat.{ℕ, zero, suc, ◌/◌, ◌%◌, ◌≤◌, ◌<◌}
use native.Mathlib.Nat.{le_of_suc-le-suc, eq-or-lt_of_le, not-suc-le-zero, lt_trans}
use native.Mathlib.Omega.{arith}
use lib.Dec.{ltb, leb}
use lib.Ieee.{lt}
use borrow.Author.Tests.{lt-ltb, le-ltb, ltb-true, leb-true, eqb-true, not-true}
use Rattle.arrays.proofs.Order.{lt-or-ge}
use Rattle.arrays.proofs.Every.{first-true, second-true, each}
use Rattle.compression.specs.Documents.{doc_at, rises}
use Rattle.frequencies.specs.Frequencies.{freq_right}
use Rattle.notefile.specs.Header.{documents}
use Rattle.notefile.specs.Skips.{last_doc}
use Rattle.notefile.specs.Lists.{full_blocks, tail_size, is_full, block_size, is_first, doc_value, strict_in, block_doc, previous_doc, block_freq, block_score, block_bound, list_bound, list_doc, list_score, list_freq}
use Rattle.notefile.specs.Conditions.{docs_rise, last_right, block_docs_right, block_freqs_right, covers, bounds_right}
use Rattle.notefile.specs.Inner.Given.{ListRight}
use Rattle.notefile.specs.declared.part.Part.{Part}
use Rattle.notefile.proofs.Decoded.{doc-is, doc-low}
use Rattle.notefile.proofs.FullBlocks.{full_size}

module _ (file : List ℕ) (x : Part) (R : ListRight file x) where
  module _ (b : ℕ) (h : b ≤ full_blocks x) where
    abbrev doc : ℕ → ℕ
    doc = doc_at (doc_value file x b) (strict_in file x b) (is_first b) (previous_doc file x b)

    one : (i : ℕ) → i < block_size x b → rises doc (is_first b) (previous_doc file x b) i && ltb (doc i) (documents file) ≡ true
    unfolding block_docs_right docs_rise
    one i k = each _ (block_size x b) i (first-true (docs_rise file x b) (last_right file x b) (R.docs b h)) k

    pub doc-below : (i : ℕ) → i < block_size x b → block_doc file x b i < documents file
    doc-below = doc-low file x b (R.docs b h)

    -- above the document before it, in its block or as the last of the block before
    pub doc-rises : (i : ℕ) → suc i < block_size x b → block_doc file x b i < block_doc file x b (suc i)
    doc-rises i k = rw (doc-is file x b i, doc-is file x b (suc i)) (ltb-true (doc i) (doc (suc i)) (first-true (ltb (doc i) (doc (suc i))) (ltb (doc (suc i)) (documents file)) (one (suc i) k)))

    pub freq-right : (i : ℕ) → i < block_size x b → (0 < block_freq file x b i) × (block_freq file x b i ≤ 2013265944)
    unfolding block_freqs_right
    freq-right i k =
        let f = block_freq file x b i in
        let t : freq_right f ≡ true = each _ (block_size x b) i (R.freqs b h) k in
        (ltb-true 0 f (first-true (ltb 0 f) (leb f 2013265944) t), leb-true f 2013265944 (second-true (ltb 0 f) (leb f 2013265944) t))

    pub list-covers : (i : ℕ) → i < block_size x b → lt (list_bound x) (block_score file x b i) ≡ false
    unfolding bounds_right covers
    list-covers i k = not-true (lt (list_bound x) (block_score file x b i)) (each _ (block_size x b) i (first-true (covers file x (list_bound x) b) (cond (is_full x b) (covers file x (block_bound file x b) b) true) (R.bounds b h)) k)

  module _ (b : ℕ) (h : b < full_blocks x) where
    full : is_full x b ≡ true
    full = lt-ltb b (full_blocks x) h

    -- a skip entry's last document is its block's
    pub last-is : block_doc file x b 127 ≡ last_doc file x b
    unfolding block_docs_right last_right
    last-is = eqb-true (block_doc file x b 127) (last_doc file x b) (rw full at (second-true (docs_rise file x b) (last_right file x b) (R.docs b (omega arith))))

    pub doc-crosses : 0 < block_size x (suc b) → block_doc file x b 127 < block_doc file x (suc b) 0
    doc-crosses k = rw (doc-is file x (suc b) 0) (ltb-true (block_doc file x b 127) (doc (suc b) h 0) (first-true (ltb (block_doc file x b 127) (doc (suc b) h 0)) (ltb (doc (suc b) h 0) (documents file)) (one (suc b) h 0 k)))

    covered : covers file x (block_bound file x b) b ≡ true
    unfolding bounds_right
    covered = sym (ap (λ (z : Bool). cond z (covers file x (block_bound file x b) b) true) full) ∙ second-true (covers file x (list_bound x) b) (cond (is_full x b) (covers file x (block_bound file x b) b) true) (R.bounds b (omega arith))

    pub block-covers : (i : ℕ) → i < 128 → lt (block_bound file x b) (block_score file x b i) ≡ false
    unfolding covers
    block-covers i k = not-true (lt (block_bound file x b) (block_score file x b i)) (each _ (block_size x b) i covered (subst (λ (n : ℕ). i < n) (full_size x b h) k))

-- by a posting's number
module _ (x : Part) (k : ℕ) (h : k < x.count) where
  pub block_in : k / 128 ≤ full_blocks x
  block_in = omega arith

  -- a place of the tail is below its size
  pub place_in : k % 128 < block_size x (k / 128)
  place_in = go (lt-or-ge (k / 128) (full_blocks x))
    where
      low : k % 128 < 128
      low = omega arith

      go : (k / 128 < full_blocks x) ⊎ (full_blocks x ≤ k / 128) → k % 128 < block_size x (k / 128)
      go (inl l) = subst (λ (n : ℕ). k % 128 < n) (full_size x (k / 128) l) low
      go (inr g) = subst (λ (n : ℕ). k % 128 < n) (sym (ap (λ (z : Bool). cond z 128 (tail_size x)) (le-ltb (k / 128) (full_blocks x) g))) (omega arith)

module _ (file : List ℕ) (x : Part) (R : ListRight file x) where
  module _ (k : ℕ) (h : k < x.count) where
    pub list-doc-below : list_doc file x k < documents file
    list-doc-below = doc-below file x R (k / 128) (block_in x k h) (k % 128) (place_in x k h)

    pub list-freq-right : (0 < list_freq file x k) × (list_freq file x k ≤ 2013265944)
    list-freq-right = freq-right file x R (k / 128) (block_in x k h) (k % 128) (place_in x k h)

    pub list-score-covered : lt (list_bound x) (list_score file x k) ≡ false
    list-score-covered = list-covers file x R (k / 128) (block_in x k h) (k % 128) (place_in x k h)

    pub block-score-covered : k / 128 < full_blocks x → lt (block_bound file x (k / 128)) (list_score file x k) ≡ false
    block-score-covered l = block-covers file x R (k / 128) l (k % 128) (omega arith)

  next-rises : (k : ℕ) → suc k < x.count → list_doc file x k < list_doc file x (suc k)
  next-rises k h = go (lt-or-ge (suc (k % 128)) 128)
    where
      go : (suc (k % 128) < 128) ⊎ (128 ≤ suc (k % 128)) → list_doc file x k < list_doc file x (suc k)
      go (inl l) =
          let b : suc k / 128 ≡ k / 128 = omega arith in
          let i : suc k % 128 ≡ suc (k % 128) = omega arith in
          rw (b, i) (doc-rises file x R (k / 128) (omega arith) (k % 128) (rw (b, i) at (place_in x (suc k) h)))
      go (inr g) =
          let b : suc k / 128 ≡ suc (k / 128) = omega arith in
          let i : suc k % 128 ≡ 0 = omega arith in
          let j : k % 128 ≡ 127 = omega arith in
          rw (b, i, j) (doc-crosses file x R (k / 128) (omega arith) (rw (b, i) at (place_in x (suc k) h)))

  -- documents rise strictly
  pub list-docs-rise : (j k : ℕ) → j < k → k < x.count → list_doc file x j < list_doc file x k
  list-docs-rise j zero l h = absurd (not-suc-le-zero l)
  list-docs-rise j (suc k) l h = elim (eq-or-lt_of_le (le_of_suc-le-suc l)) [
    | inl q ↦ subst (λ (z : ℕ). list_doc file x z < list_doc file x (suc k)) (sym q) (next-rises k h)
    | inr g ↦ lt_trans (list-docs-rise j k g (omega arith)) (next-rises k h)
  ]
