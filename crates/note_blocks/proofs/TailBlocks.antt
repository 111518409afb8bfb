-- The tail: the values of its VInts are the block's, and what the readers leave of them.
use mathlib.Core.Path.{◌≡◌, refl, sym, ap, ◌∙◌}
use mathlib.Core.Bool.{Bool, true, false, ◌&&◌, cond}
use mathlib.Core.List.{List}
use Prim.Native.Nat.{ℕ, ◌+◌, ◌≤◌, ◌<◌}
use native.Mathlib.Nat.{add-zero, le_refl}
use native.Mathlib.Omega.{arith}
use lib.Dec.{eqb}
use lib.ListN.{length, get_or, set}
use borrow.Author.Tests.{le-ltb}
use Rattle.codec.proofs.VIntRow.{value-fits}
use Rattle.compression.specs.Documents.{gap_of}
use Rattle.compression.specs.Inner.Sums.{Summed, Checked}
use Rattle.frequencies.specs.Inner.Counts.{Counted}
use Rattle.notefile.specs.Header.{documents}
use Rattle.notefile.specs.Skips.{strict_block}
use Rattle.notefile.specs.Lists.{full_blocks, tail_size, is_full, block_size, tail_at, tail_freqs_at, doc_value, freq_value, strict_in, previous_doc, block_freq}
use Rattle.notefile.specs.Conditions.{docs_rise, last_right, block_docs_right}
use Rattle.notefile.specs.Inner.Given.{BlockRight}
use Rattle.notefile.specs.Inner.Reads.{docs_of, freqs_of, TailValues, DocsRead, FreqsRead, Padded, Loaded, Sized}
use Rattle.notefile.proofs.Pairs.{new-docs, new-freqs, old-docs, old-freqs, two-still}
use Rattle.notefile.specs.declared.part.Part.{Part}
use Rattle.notefile.proofs.Decoded.{rise-is, docs-are, docs-loaded, freqs-are}

-- the tail
module _ {file : List ℕ} {x : Part} {docs freqs : List ℕ} (R : TailValues file x docs freqs) where
  abbrev tail : ℕ
  tail = full_blocks x

  not_full : is_full x tail ≡ false
  not_full = le-ltb tail tail (le_refl tail)

  pub size-tail : tail_size x ≡ block_size x tail
  size-tail = sym (ap (λ (z : Bool). cond z 128 (tail_size x)) not_full)

  strict-tail : false ≡ strict_in file x tail
  strict-tail = sym (ap (λ (z : Bool). z && strict_block file x tail) not_full)

  pub docs-small : (k : ℕ) → k < tail_size x → get_or docs k 0 < 4294967296
  unfolding doc_value
  docs-small k h = rw (R.doc-at k h, not_full) (value-fits file x.end (tail_at file x) k)

  pub freqs-small : (k : ℕ) → k < tail_size x → get_or freqs k 0 < 4294967296
  unfolding freq_value
  freqs-small k h = rw (R.freq-at k h, not_full) (value-fits file x.end (tail_freqs_at file x) k)

  last-tail : last_right file x tail ≡ true
  unfolding last_right
  last-tail = rw not_full

  pub docs-tail : {out : List ℕ} {r : Bool} {previous limit : ℕ} → previous ≡ previous_doc file x tail → limit ≡ documents file → limit ≤ 1048576 → Checked docs (tail_size x) false (eqb tail 0) previous limit r out → DocsRead file x tail r out
  unfolding block_docs_right
  docs-tail ep el few C = record {
    same = rise-is file x tail C (omega arith) size-tail R.doc-at strict-tail ep el few ∙ sym (ap (λ (z : Bool). docs_rise file x tail && z) last-tail ∙ and_one (docs_rise file x tail));
    at = λ t i h. docs-are file x tail C (omega arith) size-tail R.doc-at strict-tail ep el few t i (omega (arith, size-tail));
  }
    where
      and_one : (z : Bool) → z && true ≡ z
      and_one true = refl
      and_one false = refl

  pub freqs-tail : {out : List ℕ} {r : Bool} → Counted freqs (tail_size x) false r out → FreqsRead file x tail r out
  freqs-tail C = freqs-are file x tail C size-tail R.freq-at strict-tail

  pub tail-loaded : {sums out outf : List ℕ} {previous : ℕ} → Summed docs false (eqb tail 0) previous sums → BlockRight file x tail previous → Padded sums (tail_size x) out → Padded freqs (tail_size x) outf → Loaded file x tail out outf
  unfolding block_freq
  tail-loaded S B P Q = record {
    long-docs = P.long;
    long-freqs = Q.long;
    doc-at = λ i h. P.kept i (omega (arith, size-tail)) ∙ docs-loaded file x tail S (omega arith) size-tail R.doc-at strict-tail B i (omega (arith, size-tail));
    freq-at = λ i h. Q.kept i (omega (arith, size-tail)) ∙ R.freq-at i (omega (arith, size-tail)) ∙ sym (ap (λ (z : Bool). freq_value file x tail i + gap_of z) (sym strict-tail) ∙ add-zero (freq_value file x tail i));
    docs-past = λ i h l. P.past i (omega (arith, size-tail)) l;
    freqs-past = λ i h l. Q.past i (omega (arith, size-tail)) l;
  }

-- the same of the block whose arrays they are written to, one after the other
module _ {file : List ℕ} {x : Part} {block : List (List ℕ)} (R : TailValues file x (docs_of block) (freqs_of block)) (Z : Sized block)
    {sums : List ℕ} {previous : ℕ} (S : Summed (docs_of block) false (eqb (full_blocks x) 0) previous sums) where
  abbrev summed : List (List ℕ)
  summed = set block 0 sums

  two : length summed ≡ 2
  two = two-still block Z.two 0 sums

  pub tail-block : {docs freqs : List ℕ} → BlockRight file x (full_blocks x) previous → Padded (docs_of summed) (tail_size x) docs → Padded (freqs_of (set summed 0 docs)) (tail_size x) freqs
      → Loaded file x (full_blocks x) (docs_of (set (set summed 0 docs) 1 freqs)) (freqs_of (set (set summed 0 docs) 1 freqs))
  tail-block {docs} {freqs} B P Q =
      rw (old-docs (set summed 0 docs) freqs, new-docs summed two docs, new-freqs (set summed 0 docs) (two-still summed two 0 docs) freqs)
      (tail-loaded R S B (rw (new-docs block Z.two sums) at P) (rw (old-freqs summed docs, old-freqs block sums) at Q))
