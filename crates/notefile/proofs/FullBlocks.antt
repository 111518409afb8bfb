-- Full blocks: they lie in the file, unpacked values are the block's, and what the readers leave of them.
use mathlib.Core.Path.{◌≡◌, refl, sym, ap, ◌∙◌, subst}
use mathlib.Core.Bool.{Bool, true, false, ◌&&◌, cond, true≢false}
use mathlib.Core.List.{List}
use mathlib.Core.Logic.{◌⊎◌, inl, inr}
use Prim.Native.Nat.{ℕ, zero, suc, ◌+◌, ◌*◌, ◌/◌, ◌%◌, ◌^◌, ◌≤◌, ◌<◌}
use native.Mathlib.Nat.{le_of_lt}
use native.Mathlib.Omega.{arith}
use lib.Dec.{eqb, leb, lit<}
use lib.ListN.{length, get_or, set}
use borrow.Author.Tests.{lt-ltb, leb-true, eqb-true}
use Rattle.arrays.specs.Every.{every}
use Rattle.arrays.proofs.Every.{second-true, each}
use Rattle.arrays.proofs.Order.{climbs}
use Rattle.bitpacker.specs.Inner.Rows.{Unpacked}
use Rattle.bitpacker.proofs.Lanes.{packed-fits}
use Rattle.compression.specs.Inner.Sums.{Summed, Narrow, Checked}
use Rattle.frequencies.specs.Inner.Counts.{Counted}
use Rattle.notefile.specs.Header.{documents}
use Rattle.notefile.specs.Skips.{last_doc, doc_width, strict_block, freq_width, width_byte}
use Rattle.notefile.specs.Lists.{full_blocks, tail_size, is_full, block_size, doc_value, freq_value, strict_in, previous_doc, block_doc, block_at}
use Rattle.notefile.specs.Conditions.{docs_rise, last_right, block_docs_right, skip_right}
use Rattle.notefile.specs.Inner.Structs.{skip_entry_of, last_before}
use Rattle.notefile.specs.Inner.Given.{PackedIn, BlockRight, BlocksIn}
use Rattle.notefile.proofs.Pairs.{new-docs, new-freqs, old-docs, old-freqs, two-still}
use Rattle.notefile.specs.Inner.Reads.{docs_of, freqs_of, DocsRead, FreqsRead, Loaded, Sized}
use Rattle.notefile.specs.declared.part.Part.{Part}
use Rattle.notefile.specs.declared.skip.SkipEntry.{SkipEntry}
use Rattle.notefile.proofs.Decoded.{doc-low, rise-is, docs-are, docs-loaded, freqs-are}
use Rattle.notefile.proofs.NarrowBlocks.{freq-narrow}

pub full_size : (x : Part) (b : ℕ) → b < full_blocks x → 128 ≡ block_size x b
full_size x b h = sym (ap (λ (z : Bool). cond z 128 (tail_size x)) (lt-ltb b (full_blocks x) h))

module _ (file : List ℕ) (x : Part) where
  -- where the documents of the blocks before are right, the skip entry's last document is the decoded previous one
  pub previous-same : (b : ℕ) → b ≤ full_blocks x → every b (block_docs_right file x) ≡ true → last_before file x b ≡ previous_doc file x b
  unfolding block_docs_right last_right
  previous-same zero h e = refl
  previous-same (suc b) h e =
      let l : last_right file x b ≡ true = second-true (docs_rise file x b) (last_right file x b) (second-true (every b (block_docs_right file x)) (block_docs_right file x b) e) in
      sym (eqb-true (block_doc file x b 127) (last_doc file x b) (rw (lt-ltb b (full_blocks x) h) at l))

  -- which lies below the header's number, or is 0
  pub previous-low : (b : ℕ) → b ≤ full_blocks x → every b (block_docs_right file x) ≡ true → previous_doc file x b ≤ documents file
  previous-low zero h e = omega arith
  previous-low (suc b) h e = le_of_lt (doc-low file x b (second-true (every b (block_docs_right file x)) (block_docs_right file x b) e) 127 (subst (λ (n : ℕ). 127 < n) (full_size x b h) (lit< tt)))

  -- a full block lies in the file
  block-step : (b : ℕ) → block_at file x b ≤ block_at file x (suc b)
  unfolding block_at
  block-step b = omega arith

  pub packed-in : {b at : ℕ} → BlocksIn file x → b < full_blocks x → at ≡ block_at file x b → PackedIn file x b at
  unfolding skip_right block_at
  packed-in {b} B h e = record {
    skipped = B.skipped;
    full = h;
    place = e;
    narrow = leb-true (freq_width file x b) 32 (second-true (eqb (width_byte file x b / 128 % 2) 0) (leb (freq_width file x b) 32) (second-true (eqb (width_byte file x b / 32 % 2) 0) (eqb (width_byte file x b / 128 % 2) 0 && leb (freq_width file x b) 32) (each (skip_right file x) (full_blocks x) b B.right h)));
    inside = omega (arith, e, climbs (block_at file x) (suc b) (full_blocks x) h (λ k _. block-step k), B.inside, B.skipped.parted.inside);
  }

-- a full block
module _ {file : List ℕ} {x : Part} {b at : ℕ} (P : PackedIn file x b at) (e : SkipEntry) (ee : e ≡ skip_entry_of file x b) where
  is-full : is_full x b ≡ true
  is-full = lt-ltb b (full_blocks x) P.full

  size-full : 128 ≡ block_size x b
  size-full = full_size x b P.full

  strict-is : e.strict ≡ strict_in file x b
  unfolding skip_entry_of
  strict-is = ap (λ (z : SkipEntry). z.strict) ee ∙ sym (ap (λ (z : Bool). z && strict_block file x b) is-full)

  width_is : e.doc_bits ≡ doc_width file x b
  unfolding skip_entry_of
  width_is = ap (λ (z : SkipEntry). z.doc_bits) ee

  freqs-is : e.freq_bits ≡ freq_width file x b
  unfolding skip_entry_of
  freqs-is = ap (λ (z : SkipEntry). z.freq_bits) ee

  last-is : e.last ≡ last_doc file x b
  unfolding skip_entry_of
  last-is = ap (λ (z : SkipEntry). z.last) ee

  pub docs-in : (e.doc_bits ≤ 32) × (at + 16 * e.doc_bits ≤ length file)
  docs-in = (omega (arith, width_is), omega (arith, width_is, P.inside))

  pub freqs-in : (e.freq_bits ≤ 32) × (at + 16 * e.doc_bits + 16 * e.freq_bits ≤ length file)
  freqs-in = (omega (arith, freqs-is, P.narrow), omega (arith, width_is, freqs-is, P.inside))

  -- a packed value is below 2 to its width
  pub small : {p w : ℕ} {vs : List ℕ} (m : ℕ) → w ≤ m → Unpacked file p w vs → (k : ℕ) → k < 128 → get_or vs k 0 < 2 ^ m
  small {p} {w} m h U k l = rw (U.values k l) (packed-fits file p w k m h)

  -- a strict block of at most 24 bits
  pub narrow-block : {vs : List ℕ} {narrow : Bool} {previous : ℕ} → Unpacked file at e.doc_bits vs → previous ≤ 1048576
      → ((e.strict ≡ true) × (narrow ≡ true → e.doc_bits ≤ 24)) ⊎ (narrow ≡ false) → narrow ≡ true → Narrow vs 128 e.strict previous
  narrow-block U h (inl (s, n)) t = record { strict-is = s; low = omega arith; small = small 24 (n t) U }
  narrow-block U h (inr n) t = absurd (true≢false (sym t ∙ n))

  module _ {vs : List ℕ} (U : Unpacked file at e.doc_bits vs) where
    doc-values : (i : ℕ) → i < 128 → get_or vs i 0 ≡ doc_value file x b i
    unfolding doc_value
    doc-values i h = U.values i h ∙ rw (P.place, width_is, is-full)

    module _ {out : List ℕ} {r : Bool} {previous limit : ℕ} (ep : previous ≡ previous_doc file x b) (el : limit ≡ documents file) (few : limit ≤ 1048576) (C : Checked vs 128 e.strict (eqb b 0) previous limit r out) where
      rise : r ≡ docs_rise file x b
      rise = rise-is file x b C (omega arith) size-full doc-values strict-is ep el few

      pub docs-fall : r ≡ false → DocsRead file x b false out
      unfolding block_docs_right
      docs-fall f = record { same = sym (ap (λ (z : Bool). z && last_right file x b) (sym rise ∙ f)); at = λ t. absurd (true≢false (sym t)) }

      pub docs-end : r ≡ true → DocsRead file x b (eqb (get_or out 127 0) e.last) out
      unfolding block_docs_right last_right
      docs-end t =
          let D = docs-are file x b C (omega arith) size-full doc-values strict-is ep el few t in
          record {
            same = rw (D 127 (omega arith), last-is) (sym (ap (λ (z : Bool). z && last_right file x b) (sym rise ∙ t) ∙ rw is-full));
            at = λ _ i h. D i (omega (arith, size-full));
          }

  pub freqs-counted : {vs out : List ℕ} {r : Bool} → Unpacked file (at + 16 * e.doc_bits) e.freq_bits vs → Counted vs 128 e.strict r out → FreqsRead file x b r out
  unfolding freq_value
  freqs-counted {vs} U C = freqs-are file x b C size-full values strict-is
    where
      values : (i : ℕ) → i < 128 → get_or vs i 0 ≡ freq_value file x b i
      values i h = U.values i h ∙ rw (P.place, width_is, freqs-is, is-full)

  -- frequencies of at most 24 bits are at most 2 ^ 24, with the 1 of a strict block
  pub freqs-narrow : {r : Bool} {freqs : List ℕ} → FreqsRead file x b r freqs → r ≡ true → e.freq_bits ≤ 24 → (i : ℕ) → i < 128 → get_or freqs i 0 ≤ 16777216
  freqs-narrow F t n i h = omega (arith, F.at t i (omega (arith, size-full)), freq-narrow file x b P.full (omega (arith, freqs-is)) i)

  -- a full block has nothing past its end
  pub packed-loaded : {vs docs freqs : List ℕ} {r : Bool} {previous : ℕ} → Unpacked file at e.doc_bits vs → Summed vs e.strict (eqb b 0) previous docs → FreqsRead file x b r freqs → BlockRight file x b previous → Loaded file x b docs freqs
  packed-loaded U S F B = record {
    long-docs = S.long;
    long-freqs = F.long;
    doc-at = λ i h. docs-loaded file x b S (omega arith) size-full (doc-values U) strict-is B i (omega (arith, size-full));
    freq-at = F.at (F.same ∙ B.freqs);
    docs-past = λ i h l. absurd (omega (arith, size-full));
    freqs-past = λ i h l. absurd (omega (arith, size-full));
  }

  -- the same of the block whose arrays they are written to, one after the other
  pub docs-fit : {block : List (List ℕ)} {vs : List ℕ} → Sized block → Unpacked file at e.doc_bits vs → length (docs_of (set block 0 vs)) ≡ 128
  docs-fit {block} {vs} Z U = ap length (new-docs block Z.two vs) ∙ U.long

  pub freqs-fit : {block : List (List ℕ)} {vs docs : List ℕ} {previous : ℕ} → Sized block → Unpacked file at e.doc_bits vs → Summed (docs_of (set block 0 vs)) e.strict (eqb b 0) previous docs → length (freqs_of (set (set block 0 vs) 0 docs)) ≡ 128
  freqs-fit {block} {vs} {docs} Z U S = ap length (old-freqs (set block 0 vs) docs ∙ old-freqs block vs) ∙ Z.long-freqs

  pub packed-block : {block : List (List ℕ)} {vs docs freqs : List ℕ} {r : Bool} {previous : ℕ} → Sized block → Unpacked file at e.doc_bits vs → Summed (docs_of (set block 0 vs)) e.strict (eqb b 0) previous docs → FreqsRead file x b r freqs → BlockRight file x b previous → Loaded file x b (docs_of (set (set (set block 0 vs) 0 docs) 1 freqs)) (freqs_of (set (set (set block 0 vs) 0 docs) 1 freqs))
  packed-block {block} {vs} {docs} {freqs} Z U S F B =
      let one = two-still block Z.two 0 vs in
      let both = two-still (set block 0 vs) one 0 docs in
      rw (old-docs (set (set block 0 vs) 0 docs) freqs, new-docs (set block 0 vs) one docs, new-freqs (set (set block 0 vs) 0 docs) both freqs) (packed-loaded U (rw (new-docs block Z.two vs) at S) F B)
