-- Blocks: what values, summed and counted, are of the decoded list.
use mathlib.Core.Path.{◌≡◌, refl, sym, ap, ◌∙◌}
use mathlib.Core.Bool.{Bool, true, false, ◌&&◌}
use mathlib.Core.List.{List}
use Prim.Native.Nat.{ℕ, zero, suc, ◌+◌, ◌≤◌, ◌<◌}
use native.Mathlib.Omega.{arith}
use lib.Dec.{eqb, ltb}
use lib.ListN.{get_or}
use borrow.Author.Tests.{ltb-true, ne_eqb}
use Rattle.arrays.specs.Every.{every}
use Rattle.arrays.proofs.Every.{first-true, second-true, each}
use Rattle.compression.specs.Documents.{gap_of, base_at, doc_at, above_last, rises, rising_below, docs_right}
use Rattle.frequencies.specs.Frequencies.{freq_right}
use Rattle.compression.specs.Inner.Sums.{Summed, Checked}
use Rattle.frequencies.specs.Inner.Counts.{Counted}
use Rattle.compression.proofs.Differences.{right-word}
use Rattle.frequencies.proofs.Counts.{right-freq}
use Rattle.notefile.specs.Header.{documents}
use Rattle.notefile.specs.Lists.{block_size, is_first, doc_value, freq_value, strict_in, block_doc, previous_doc, block_freq}
use Rattle.notefile.specs.Conditions.{docs_rise, last_right, block_docs_right, block_freqs_right}
use Rattle.notefile.specs.Inner.Given.{BlockRight}
use Rattle.notefile.specs.Inner.Reads.{FreqsRead}
use Rattle.notefile.specs.declared.part.Part.{Part}

-- tests that agree below n agree of all
pub every-same : (P Q : ℕ → Bool) (n : ℕ) → ((i : ℕ) → i < n → P i ≡ Q i) → every n P ≡ every n Q
every-same P Q zero h = refl
every-same P Q (suc n) h = ap (λ (z : Bool). z && P n) (every-same P Q n (λ i l. h i (omega arith))) ∙ ap (λ (z : Bool). every n Q && z) (h n (omega arith))

-- row 7 goes by the documents
module _ (d e : ℕ → ℕ) (first : Bool) (previous n : ℕ) (same : (i : ℕ) → i < n → d i ≡ e i) where
  rises-same : (i : ℕ) → i < n → rises d first previous i ≡ rises e first previous i
  rises-same zero h = go first
    where
      go : (f : Bool) → above_last d first previous f ≡ above_last e first previous f
      go true = refl
      go false = ap (ltb previous) (same 0 h)
  rises-same (suc i) h = ap (λ (z : ℕ). ltb z (d (suc i))) (same i (omega arith)) ∙ ap (ltb (e i)) (same (suc i) h)

  pub rising-same : (limit : ℕ) → rising_below d first previous n limit ≡ rising_below e first previous n limit
  rising-same limit = every-same _ _ n (λ i h. ap (λ (z : Bool). z && ltb (d i) limit) (rises-same i h) ∙ ap (λ (z : ℕ). rises e first previous i && ltb z limit) (same i h))

-- documents go by the values up to theirs
module _ (v w : ℕ → ℕ) (strict first : Bool) (previous n : ℕ) (e : (i : ℕ) → i < n → v i ≡ w i) where
  base_same : (i : ℕ) → i ≤ n → base_at v strict first previous i ≡ base_at w strict first previous i
  unfolding base_at
  base_same zero h = refl
  base_same (suc i) h = rw (base_same i (omega arith), e i h)

  doc-same : (i : ℕ) → i < n → doc_at v strict first previous i ≡ doc_at w strict first previous i
  unfolding doc_at
  doc-same i h = rw (base_same i (omega arith), e i h)

  docs-right-same : (limit : ℕ) → docs_right v strict first previous n limit ≡ docs_right w strict first previous n limit
  docs-right-same = rising-same (doc_at v strict first previous) (doc_at w strict first previous) first previous n doc-same

module _ (file : List ℕ) (x : Part) (b : ℕ) where
  first-is : eqb b 0 ≡ is_first b
  first-is = go b
    where
      go : (b : ℕ) → eqb b 0 ≡ is_first b
      go zero = refl
      go (suc b) = ne_eqb (suc b) 0 (λ q. omega arith)

  pub doc-is : (i : ℕ) → block_doc file x b i ≡ doc_at (doc_value file x b) (strict_in file x b) (is_first b) (previous_doc file x b) i
  unfolding block_doc
  doc-is = go b
    where
      go : (b i : ℕ) → block_doc file x b i ≡ doc_at (doc_value file x b) (strict_in file x b) (is_first b) (previous_doc file x b) i
      go zero i = refl
      go (suc b) i = refl

  -- a right block's documents lie below the header's number
  pub doc-low : block_docs_right file x b ≡ true → (i : ℕ) → i < block_size x b → block_doc file x b i < documents file
  unfolding block_docs_right docs_rise
  doc-low e i h =
      let d = doc_at (doc_value file x b) (strict_in file x b) (is_first b) (previous_doc file x b) i in
      let r = rises (doc_at (doc_value file x b) (strict_in file x b) (is_first b) (previous_doc file x b)) (is_first b) (previous_doc file x b) i in
      rw (doc-is i) (ltb-true d (documents file) (second-true r (ltb d (documents file)) (each _ (block_size x b) i (first-true (docs_rise file x b) (last_right file x b) e) h)))

  -- summed values that are the block's
  module _ {vs out : List ℕ} {n : ℕ} {strict r : Bool} {previous limit : ℕ} (C : Checked vs n strict (eqb b 0) previous limit r out) (top : n ≤ 128) (size : n ≡ block_size x b)
      (values : (i : ℕ) → i < n → get_or vs i 0 ≡ doc_value file x b i) (es : strict ≡ strict_in file x b) (ep : previous ≡ previous_doc file x b) (el : limit ≡ documents file) (few : limit ≤ 1048576) where
    pub rise-is : r ≡ docs_rise file x b
    unfolding docs_rise
    rise-is = C.same ∙ docs-right-same _ (doc_value file x b) strict (eqb b 0) previous n values limit ∙ rw (size, es, ep, el, first-is)

    pub docs-are : r ≡ true → (i : ℕ) → i < n → get_or out i 0 ≡ block_doc file x b i
    docs-are t i h =
        right-word n limit C.summed top (omega arith) (sym C.same ∙ t) i h ∙ doc-same _ (doc_value file x b) strict (eqb b 0) previous n values i h
        ∙ rw (es, ep, first-is) (sym (doc-is i))

  -- and without a test, where the block is right
  pub docs-loaded : {vs out : List ℕ} {n : ℕ} {strict : Bool} {previous : ℕ} → Summed vs strict (eqb b 0) previous out → n ≤ 128 → n ≡ block_size x b → ((i : ℕ) → i < n → get_or vs i 0 ≡ doc_value file x b i)
      → strict ≡ strict_in file x b → BlockRight file x b previous → (i : ℕ) → i < n → get_or out i 0 ≡ block_doc file x b i
  unfolding block_docs_right
  docs-loaded {vs} {out} {n} {strict} {previous} S top size values es B =
      let C : Checked vs n strict (eqb b 0) previous (documents file) (docs_right (λ k. get_or vs k 0) strict (eqb b 0) previous n (documents file)) out = record { summed = S; same = refl } in
      docs-are C top size values es B.previous-is refl B.few (rise-is C top size values es B.previous-is refl B.few ∙ first-true (docs_rise file x b) (last_right file x b) B.docs)

  -- counted values that are the block's
  module _ {vs out : List ℕ} {n : ℕ} {strict r : Bool} (C : Counted vs n strict r out) (size : n ≡ block_size x b) (values : (i : ℕ) → i < n → get_or vs i 0 ≡ freq_value file x b i) (es : strict ≡ strict_in file x b) where
    freq-is : (i : ℕ) → i < n → get_or vs i 0 + gap_of strict ≡ block_freq file x b i
    unfolding block_freq
    freq-is i h = rw (values i h, es)

    pub freqs-are : FreqsRead file x b r out
    unfolding block_freqs_right
    freqs-are = record {
      same = C.same ∙ every-same _ _ n (λ i h. ap freq_right (freq-is i h)) ∙ ap (λ n. every n (λ i. freq_right (block_freq file x b i))) size;
      long = C.long;
      at = λ t i h. right-freq C t i (omega (arith, size)) ∙ freq-is i (omega (arith, size));
    }
