-- What an accepted list in house form reads: its postings are sound, and its values are those that the house form writes.
use mathlib.Core.Path.{◌≡◌, refl, sym, ap, ◌∙◌}
use mathlib.Core.Bool.{Bool, true, false, ◌&&◌}
use mathlib.Core.List.{List}
use Prim.Native.Nat.{ℕ, zero, suc, ◌+◌, ◌*◌, ◌/◌, ◌%◌, ◌≤◌, ◌<◌}
use native.Mathlib.Omega.{arith}
use borrow.Author.Tests.{lt-ltb, le-ltb}
use Rattle.compression.specs.Documents.{gap_of, doc_at}
use Rattle.encode.proofs.Differing.{values-only}
use Rattle.notefile.specs.Header.{documents}
use Rattle.notefile.specs.Skips.{strict_block}
use Rattle.notefile.specs.Lists.{full_blocks, is_first, doc_value, freq_value, strict_in, block_doc, block_freq, previous_doc}
use Rattle.notefile.specs.declared.part.Part.{Part}
use Rattle.notefile.proofs.Decoded.{doc-is}
use Rattle.notefile.proofs.ListLaws.{list-doc-below, list-freq-right, list-docs-rise}
use Rattle.house.specs.House.{doc_before, doc_differ}
use Rattle.house.specs.Inner.Sound.{Sound}
use Rattle.house.proofs.Given.{Read}

-- rows 7 and 8 let its postings through
pub read-sound : (s : List ℕ) (x : Part) (d f : ℕ → ℕ) → documents s ≤ 1048576 → Read s x d f → Sound d f x.count (documents s)
read-sound s x d f few R = record {
  few = few;
  rise = λ i j l h. over (R.docs-are i (omega arith)) (R.docs-are j h) (list-docs-rise s x R.right i j l h);
  below = λ i h. over (R.docs-are i h) refl (list-doc-below s x R.right i h);
  some = λ i h. over refl (R.freqs-are i h) (list-freq-right s x R.right i h).0;
  most = λ i h. up_to (R.freqs-are i h) (list-freq-right s x R.right i h).1;
}
  where
    over : {a b u v : ℕ} → a ≡ u → b ≡ v → a < b → u < v
    over e g h = omega arith

    up_to : {a u m : ℕ} → a ≡ u → a ≤ m → u ≤ m
    up_to e h = omega arith

-- posting i of block b, by its number
block_of : (b i : ℕ) → i < 128 → b ≡ (128 * b + i) / 128
block_of b i l = omega arith

place_of : (b i : ℕ) → i < 128 → i ≡ (128 * b + i) % 128
place_of b i l = omega arith

module _ {s : List ℕ} {x : Part} {d f : ℕ → ℕ} (R : Read s x d f) where
  module _ (b i : ℕ) (l : i < 128) (h : 128 * b + i < x.count) where
    pub doc-at : block_doc s x b i ≡ d (128 * b + i)
    doc-at =
        ap (λ (z : ℕ). block_doc s x z i) (block_of b i l)
        ∙ ap (block_doc s x ((128 * b + i) / 128)) (place_of b i l)
        ∙ R.docs-are (128 * b + i) h

    pub freq-at : block_freq s x b i ≡ f (128 * b + i)
    freq-at =
        ap (λ (z : ℕ). block_freq s x z i) (block_of b i l)
        ∙ ap (block_freq s x ((128 * b + i) / 128)) (place_of b i l)
        ∙ R.freqs-are (128 * b + i) h

  -- the document before a block
  before-is : (b : ℕ) → b ≤ full_blocks x → previous_doc s x b ≡ doc_before d f b
  before-is zero h = refl
  before-is (suc b) h = doc-at b 127 (omega arith) (omega arith)

  -- values of a block, strict or not, whose first n postings are the list's
  module _ (b n : ℕ) (strict : Bool) (e : strict_in s x b ≡ strict) (few : n ≤ 128) (h : 128 * b + n ≤ x.count) where
    pub doc-values : (i : ℕ) → i < n → doc_value s x b i ≡ doc_differ d f strict b i
    unfolding doc_differ
    doc-values = values-only (λ (j : ℕ). d (128 * b + j)) strict (is_first b) (doc_before d f b) (doc_value s x b) n docs
      where
        docs : (i : ℕ) → i < n → doc_at (doc_value s x b) strict (is_first b) (doc_before d f b) i ≡ d (128 * b + i)
        docs i l =
            ap (λ (z : Bool). doc_at (doc_value s x b) z (is_first b) (doc_before d f b) i) (sym e)
            ∙ ap (λ (z : ℕ). doc_at (doc_value s x b) (strict_in s x b) (is_first b) z i) (sym (before-is b (omega arith)))
            ∙ sym (doc-is s x b i)
            ∙ doc-at b i (omega arith) (omega arith)

    pub freq-values : (i : ℕ) → i < n → freq_value s x b i + gap_of strict ≡ f (128 * b + i)
    unfolding block_freq
    freq-values i l =
        ap (λ (z : Bool). freq_value s x b i + gap_of z) (sym e) ∙ freq-at b i (omega arith) (omega arith)

  -- a full block is strict, and the tail is not
  pub full-strict : (b : ℕ) → b < full_blocks x → strict_in s x b ≡ true
  full-strict b h = ap (λ (z : Bool). z && strict_block s x b) (lt-ltb b (full_blocks x) h) ∙ (R.form.blocks b h).strict

pub tail-not-strict : (s : List ℕ) (x : Part) → strict_in s x (full_blocks x) ≡ false
tail-not-strict s x = ap (λ (z : Bool). z && strict_block s x (full_blocks x)) (le-ltb (full_blocks x) (full_blocks x) (omega arith))
