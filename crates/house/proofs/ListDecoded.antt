-- What a block of a house list decodes to, full or the tail, and the laws of lists that decode so.
use mathlib.Core.Path.{◌≡◌, refl, ap, ◌∙◌, subst}
use mathlib.Core.List.{List}
use Prim.Native.Nat.{ℕ, zero, suc, ◌+◌, ◌*◌, ◌/◌, ◌%◌, ◌≤◌, ◌<◌}
use native.Mathlib.Omega.{arith}
use Rattle.compression.specs.Documents.{gap_of, doc_at}
use Rattle.encode.proofs.Differing.{docs-back}
use Rattle.notefile.specs.Header.{documents}
use Rattle.notefile.specs.Lists.{full_blocks, block_size, is_first, doc_value, freq_value, strict_in}
use Rattle.notefile.specs.Lists.{block_doc, previous_doc, block_freq, list_doc, list_freq}
use Rattle.notefile.specs.declared.part.Part.{Part}
use Rattle.notefile.proofs.Decoded.{doc-is}
use Rattle.notefile.proofs.ListLaws.{block_in, place_in}
use Rattle.notefile.proofs.FullBlocks.{full_size}
use Rattle.house.specs.House.{doc_before, doc_differ}
use Rattle.house.specs.Inner.Sound.{Sound}
use Rattle.house.proofs.ListValues.{rising}

-- block b: its place in the list, and its values by documents and frequencies
pub record Decodes (s : List ℕ) (x : Part) (d f : ℕ → ℕ) (b : ℕ) : Type 0 where
  pub inside : 128 * b + block_size x b ≤ x.count
  pub doc-values : (i : ℕ) → i < block_size x b → doc_value s x b i ≡ doc_differ d f (strict_in s x b) b i
  pub freq-values : (i : ℕ) → i < block_size x b → freq_value s x b i + gap_of (strict_in s x b) ≡ f (128 * b + i)

module _ {s : List ℕ} {x : Part} {d f : ℕ → ℕ} (S : Sound d f x.count (documents s))
    (D : (b : ℕ) → b ≤ full_blocks x → Decodes s x d f b) where
  -- the documents of a block, where the one before it is the list's
  doc-by : (b : ℕ) → b ≤ full_blocks x → previous_doc s x b ≡ doc_before d f b → (i : ℕ) → i < block_size x b
      → block_doc s x b i ≡ d (128 * b + i)
  unfolding doc_differ
  doc-by b h e i l =
      let strict = strict_in s x b in
      doc-is s x b i
      ∙ ap (λ (p : ℕ). doc_at (doc_value s x b) strict (is_first b) p i) e
      ∙ docs-back (λ j. d (128 * b + j)) strict (is_first b) (doc_before d f b) (block_size x b)
      (rising S strict b (block_size x b) (D b h).inside) (doc_value s x b) (D b h).doc-values i l

  pub previous-back : (b : ℕ) → b ≤ full_blocks x → previous_doc s x b ≡ doc_before d f b
  previous-back zero h = refl
  previous-back (suc b) h =
      doc-by b (omega arith) (previous-back b (omega arith)) 127 (subst (λ (n : ℕ). 127 < n) (full_size x b h) (omega arith))

  pub doc-back : (b : ℕ) → b ≤ full_blocks x → (i : ℕ) → i < block_size x b → block_doc s x b i ≡ d (128 * b + i)
  doc-back b h = doc-by b h (previous-back b h)

  pub freq-back : (b : ℕ) → b ≤ full_blocks x → (i : ℕ) → i < block_size x b → block_freq s x b i ≡ f (128 * b + i)
  unfolding block_freq
  freq-back b h = (D b h).freq-values

  -- by a posting's number
  pub list-doc-back : (i : ℕ) → i < x.count → list_doc s x i ≡ d i
  list-doc-back i h = doc-back (i / 128) (block_in x i h) (i % 128) (place_in x i h) ∙ ap d (whole i)
    where
      whole : (i : ℕ) → 128 * (i / 128) + i % 128 ≡ i
      whole i = omega arith

  pub list-freq-back : (i : ℕ) → i < x.count → list_freq s x i ≡ f i
  list-freq-back i h = freq-back (i / 128) (block_in x i h) (i % 128) (place_in x i h) ∙ ap f (whole i)
    where
      whole : (i : ℕ) → 128 * (i / 128) + i % 128 ≡ i
      whole i = omega arith
