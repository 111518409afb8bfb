-- Full blocks of the house read back: where they stand, and their values.
use mathlib.Core.Path.{◌≡◌, refl, sym, ap, ◌∙◌, subst}
use mathlib.Core.Bool.{Bool, true, ◌&&◌, cond}
use mathlib.Core.List.{List}
use mathlib.Core.Logic.{inl, inr}
use Prim.Native.Nat.{ℕ, zero, suc, ◌+◌, ◌-◌, ◌*◌, ◌/◌, ◌%◌, ◌≤◌, ◌<◌}
use native.Mathlib.Nat.{eq-or-lt_of_le, le_of_suc-le-suc, not-suc-le-zero}
use native.Mathlib.Omega.{arith}
use lib.ListN.{length, get_or, length-append}
use lib.Ieee.{Float}
use borrow.Author.Tests.{lt-ltb}
use Rattle.codec.specs.VInts.{vint_value}
use Rattle.bitpacker.specs.Packed.{packed_at}
use Rattle.bitpacker.specs.Inner.Rows.{Unpacked}
use Rattle.compression.specs.Documents.{gap_of}
use Rattle.pieces.specs.Inner.Written.{Stands}
use Rattle.pieces.proofs.Standing.{first-stands, second-stands}
use Rattle.packing.specs.Packing.{packed_block}
use Rattle.packing.proofs.Packs.{block-long, block_back}
use Rattle.notefile.specs.Header.{documents}
use Rattle.notefile.specs.Skips.{doc_width, freq_width, strict_block}
use Rattle.notefile.specs.Lists.{full_blocks, block_at, freqs_at, tail_at, tail_freqs_at, doc_value, freq_value, strict_in}
use Rattle.notefile.specs.declared.part.Part.{Part}
use Rattle.notefile.proofs.FullBlocks.{full_size}
use Rattle.house.specs.House.{doc_differ, doc_values, freq_values, doc_bits, freq_bits, block_bytes, blocks_bytes, tail_bytes, postings_bytes}
use Rattle.house.specs.Form.{Least}
use Rattle.house.specs.Inner.Sound.{Sound}
use Rattle.house.proofs.Given.{Laid}
use Rattle.house.proofs.ListValues.{docs-held, freqs-held}
use Rattle.house.proofs.ListSkips.{block-entered}
use Rattle.house.proofs.ListDecoded.{Decodes}

-- where the blocks stand
module _ (d f : ℕ → ℕ) where
  block-bytes-long : (b : ℕ) → length (block_bytes d f b) ≡ 16 * (doc_bits d f b + freq_bits d f b)
  unfolding block_bytes
  block-bytes-long b =
      length-append (packed_block (doc_values d f b) (doc_bits d f b)) (packed_block (freq_values d f b) (freq_bits d f b))
      ∙ sums _ _ _ _ (block-long (doc_values d f b) (doc_bits d f b)) (block-long (freq_values d f b) (freq_bits d f b))
    where
      sums : (l m u v : ℕ) → l ≡ 16 * u → m ≡ 16 * v → l + m ≡ 16 * (u + v)
      sums l m u v e g = omega arith

  blocks-none : length (blocks_bytes d f 0) ≡ 0
  unfolding blocks_bytes
  blocks-none = refl

  blocks-append : (b : ℕ) → length (blocks_bytes d f (suc b)) ≡ length (blocks_bytes d f b) + length (block_bytes d f b)
  unfolding blocks_bytes
  blocks-append b = length-append (blocks_bytes d f b) (block_bytes d f b)

  pub blocks_more : (b : ℕ) → length (blocks_bytes d f (suc b)) ≡ length (blocks_bytes d f b) + 16 * (doc_bits d f b + freq_bits d f b)
  blocks_more b = blocks-append b ∙ ap (λ (y : ℕ). length (blocks_bytes d f b) + y) (block-bytes-long b)

  block-stands : (s : List ℕ) (p n b : ℕ) → b < n → Stands s p (blocks_bytes d f n)
      → Stands s (p + length (blocks_bytes d f b)) (block_bytes d f b)
  unfolding blocks_bytes
  block-stands s p zero b h S = absurd (not-suc-le-zero h)
  block-stands s p (suc n) b h S = elim (eq-or-lt_of_le (le_of_suc-le-suc h)) [
    | inl q ↦
        subst (λ (k : ℕ). Stands s (p + length (blocks_bytes d f k)) (block_bytes d f k)) (sym q)
        (second-stands s p (blocks_bytes d f n) (block_bytes d f n) S)
    | inr l ↦ block-stands s p n b l (first-stands s p (blocks_bytes d f n) (block_bytes d f n) S)
  ]

  -- a block's documents, and its frequencies behind them
  docs-stand : (s : List ℕ) (p b : ℕ) → Stands s p (block_bytes d f b) → Stands s p (packed_block (doc_values d f b) (doc_bits d f b))
  unfolding block_bytes
  docs-stand s p b S = first-stands s p (packed_block (doc_values d f b) (doc_bits d f b)) (packed_block (freq_values d f b) (freq_bits d f b)) S

  freqs-stand : (s : List ℕ) (p b : ℕ) → Stands s p (block_bytes d f b)
      → Stands s (p + 16 * doc_bits d f b) (packed_block (freq_values d f b) (freq_bits d f b))
  unfolding block_bytes
  freqs-stand s p b S =
      subst (λ (y : ℕ). Stands s (p + y) (packed_block (freq_values d f b) (freq_bits d f b))) (block-long (doc_values d f b) (doc_bits d f b))
      (second-stands s p (packed_block (doc_values d f b) (doc_bits d f b)) (packed_block (freq_values d f b) (freq_bits d f b)) S)

-- the values of a full block
module _ (s : List ℕ) (x : Part) (b : ℕ) (h : b < full_blocks x) where
  full-doc : (i : ℕ) → doc_value s x b i ≡ packed_at s (block_at s x b) (doc_width s x b) i
  unfolding doc_value
  full-doc i =
      ap (λ (z : Bool). cond z (packed_at s (block_at s x b) (doc_width s x b) i) (vint_value s x.end (tail_at s x) i))
      (lt-ltb b (full_blocks x) h)

  full-freq : (i : ℕ) → freq_value s x b i ≡ packed_at s (freqs_at s x b) (freq_width s x b) i
  unfolding freq_value
  full-freq i =
      ap (λ (z : Bool). cond z (packed_at s (freqs_at s x b) (freq_width s x b) i) (vint_value s x.end (tail_freqs_at s x) i))
      (lt-ltb b (full_blocks x) h)

  full-strict : strict_block s x b ≡ true → strict_in s x b ≡ true
  full-strict e = ap (λ (z : Bool). z && strict_block s x b) (lt-ltb b (full_blocks x) h) ∙ e

-- unpacked values, at a place and of a width that are told otherwise
packed-is : (s vs : List ℕ) (p q w u i : ℕ) → Unpacked s q u vs → p ≡ q → w ≡ u → i < 128 → packed_at s p w i ≡ get_or vs i 0
packed-is s vs p q w u i U e g h = ap (λ (y : ℕ). packed_at s y w i) e ∙ ap (λ (y : ℕ). packed_at s q y i) g ∙ sym (U.values i h)

module _ {s : List ℕ} {x : Part} {d f norm : ℕ → ℕ} {score : ℕ → Float} (S : Sound d f x.count (documents s))
    (L : Laid s x d f norm score) where
  pub blocks_at : (b : ℕ) → b ≤ full_blocks x → block_at s x b ≡ x.postings + length (blocks_bytes d f b)
  unfolding block_at
  blocks_at zero h = omega (arith, blocks-none d f)
  blocks_at (suc b) h =
      let E = block-entered S L b h in
      next _ _ _ _ _ _ _ _ (blocks_at b (omega arith)) E.doc-width-is E.freq-width-is (blocks_more d f b)
    where
      next : (a p l m u v w z : ℕ) → a ≡ p + l → u ≡ w → v ≡ z → m ≡ l + 16 * (w + z) → a + 16 * (u + v) ≡ p + m
      next a p l m u v w z e g k n = omega arith

  pub blocks-stand : Stands s x.postings (blocks_bytes d f (full_blocks x))
  unfolding postings_bytes
  blocks-stand =
      first-stands s x.postings (blocks_bytes d f (full_blocks x)) (tail_bytes d f (x.count / 128) (x.count % 128)) L.postings-stand

  pub tail-stands : Stands s (tail_at s x) (tail_bytes d f (x.count / 128) (x.count % 128))
  unfolding postings_bytes
  tail-stands =
      subst (λ (p : ℕ). Stands s p (tail_bytes d f (x.count / 128) (x.count % 128))) (sym (blocks_at (full_blocks x) (omega arith)))
      (second-stands s x.postings (blocks_bytes d f (full_blocks x)) (tail_bytes d f (x.count / 128) (x.count % 128)) L.postings-stand)

  pub tail-ends : x.end ≡ tail_at s x + length (tail_bytes d f (x.count / 128) (x.count % 128))
  unfolding postings_bytes
  tail-ends =
      L.then-end
      ∙ ends _ _ _ _ _ (length-append (blocks_bytes d f (x.count / 128)) (tail_bytes d f (x.count / 128) (x.count % 128)))
      (blocks_at (full_blocks x) (omega arith))
    where
      ends : (p l a b t : ℕ) → l ≡ a + b → t ≡ p + a → p + l ≡ t + b
      ends p l a b t e g = omega arith

  module _ (b : ℕ) (h : b < full_blocks x) where
    full : 128 * b + 128 ≤ x.count
    full = omega arith

    strict : strict_in s x b ≡ true
    strict = full-strict s x b h (block-entered S L b h).strict-is

    stands : Stands s (x.postings + length (blocks_bytes d f b)) (block_bytes d f b)
    stands = block-stands d f s x.postings (full_blocks x) b h blocks-stand

    pub doc-value-back : (i : ℕ) → i < 128 → doc_value s x b i ≡ doc_differ d f true b i
    doc-value-back i l =
        let H = docs-held S b full in
        let p = x.postings + length (blocks_bytes d f b) in
        full-doc s x b h i
        ∙ packed-is s (doc_values d f b) _ p _ _ i (block_back H.fits s p (docs-stand d f s p b stands)) (blocks_at b (omega arith))
        (block-entered S L b h).doc-width-is l
        ∙ H.same i l

    pub freq-value-back : (i : ℕ) → i < 128 → freq_value s x b i ≡ f (128 * b + i) - 1
    freq-value-back i l =
        let H = freqs-held S b full in
        let E = block-entered S L b h in
        let p = x.postings + length (blocks_bytes d f b) in
        full-freq s x b h i
        ∙ packed-is s (freq_values d f b) _ (p + 16 * doc_bits d f b) _ _ i
        (block_back H.fits s (p + 16 * doc_bits d f b) (freqs-stand d f s p b stands))
        (behind _ _ _ _ (blocks_at b (omega arith)) E.doc-width-is) E.freq-width-is l
        ∙ H.same i l
      where
        behind : (a p u w : ℕ) → a ≡ p → u ≡ w → a + 16 * u ≡ p + 16 * w
        behind a p u w e g = omega arith

    pub full-decodes : Decodes s x d f b
    full-decodes = record {
      inside = subst (λ (n : ℕ). 128 * b + n ≤ x.count) (full_size x b h) full;
      doc-values = λ i l.
          doc-value-back i (subst (λ (n : ℕ). i < n) (sym (full_size x b h)) l)
          ∙ ap (λ (z : Bool). doc_differ d f z b i) (sym strict);
      freq-values = λ i l.
          let k = subst (λ (n : ℕ). i < n) (sym (full_size x b h)) l in
          ap (λ (z : Bool). freq_value s x b i + gap_of z) strict ∙ one _ _ (freq-value-back i k) (S.some (128 * b + i) (omega arith));
    }
      where
        one : (v y : ℕ) → v ≡ y - 1 → 0 < y → v + 1 ≡ y
        one v y e g = omega arith

    -- the widths of the skip entry are the least that hold the values
    least-as : {w u : ℕ} {v z : ℕ → ℕ} → w ≡ u → ((i : ℕ) → i < 128 → v i ≡ z i) → Least u z → Least w v
    least-as {w} {u} {v} {z} e g M = record {
      holds = λ i l. rw (g i l, e) (M.holds i l);
      least = λ k a. rw e (M.least k (λ i l. rw (← g i l) (a i l)));
    }

    pub docs-least : Least (doc_width s x b) (doc_value s x b)
    docs-least = least-as (block-entered S L b h).doc-width-is doc-value-back (docs-held S b full).least

    pub freqs-least : Least (freq_width s x b) (freq_value s x b)
    freqs-least = least-as (block-entered S L b h).freq-width-is freq-value-back (freqs-held S b full).least
