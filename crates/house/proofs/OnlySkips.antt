-- The skip entries of an accepted list in house form are the house form's.
use mathlib.Core.Path.{◌≡◌, sym, ap, ◌∙◌, subst}
use mathlib.Core.List.{List}
use Prim.Native.Nat.{ℕ, zero, suc, ◌+◌, ◌-◌, ◌*◌, ◌/◌, ◌%◌, ◌^◌, ◌≤◌, ◌<◌}
use native.Mathlib.Nat.{lt_trans}
use native.Mathlib.Omega.{arith}
use lib.Dec.{T}
use lib.ListN.{get_or}
use lib.Ieee.{Float, lt}
use borrow.Author.Tests.{eqb-true}
use Rattle.floats.specs.Step.{within}
use Rattle.pieces.specs.Inner.Written.{Stands}
use Rattle.pieces.proofs.Standing.{both-stand, none-stands}
use Rattle.encode.proofs.SkipEntries.{SkipEntryAt, skip-only}
use Rattle.bm25_pair.specs.Pair.{freq_code}
use Rattle.bm25_pair.proofs.Highest.{Highest, highest-only}
use Rattle.notefile.specs.Header.{documents, norm_code_of}
use Rattle.notefile.specs.Skips.{skip_entry_at, width_byte, max_norm_code, max_freq_code}
use Rattle.notefile.specs.Lists.{full_blocks, score_for, block_freq, block_score}
use Rattle.notefile.specs.declared.part.Part.{Part}
use Rattle.notefile.proofs.ListLaws.{last-is}
use Rattle.notefile.proofs.Scores.{score-for-in}
use Rattle.house.specs.House.{doc_bits, freq_bits, top_of, entry_of, skips_bytes}
use Rattle.house.specs.Inner.Sound.{Sound}
use Rattle.house.proofs.ListSkips.{skips-long}
use Rattle.house.proofs.Given.{Scored, Read}
use Rattle.house.proofs.OnlyRead.{doc-at, freq-at}
use Rattle.house.proofs.OnlyBlocks.{widths-right, doc-width-only, freq-width-only}

-- a strict width byte with bits 5 and 7 clear is its width and bit 6
strict-byte : (w : ℕ) → w < 256 → w / 32 % 2 ≡ 0 → w / 128 % 2 ≡ 0 → w / 64 % 2 ≡ 1 → w ≡ w % 32 + 64
strict-byte w h a b c =
    let low : w < 128 = seven w h b in
    five w (six w low c) low a
  where
    seven : (w : ℕ) → w < 256 → w / 128 % 2 ≡ 0 → w < 128
    seven w h b = omega arith

    six : (w : ℕ) → w < 128 → w / 64 % 2 ≡ 1 → 64 ≤ w
    six w h c = omega arith

    five : (w : ℕ) → 64 ≤ w → w < 128 → w / 32 % 2 ≡ 0 → w ≡ w % 32 + 64
    five w l h a = omega arith

module _ {s : List ℕ} {x : Part} {d f norm : ℕ → ℕ} {score : ℕ → Float} (bytes : (i : ℕ) → get_or s i 0 < 256)
    (kind : x.skip_entry_len ≡ 8) (S : Sound d f x.count (documents s)) (C : Scored s x d f norm score) (R : Read s x d f) where
  module _ (b : ℕ) (h : b < full_blocks x) where
    abbrev block_by : ℕ → Float
    block_by i = score (128 * b + i)

    inside : (i : ℕ) → i < 128 → 128 * b + i < x.count
    inside i l = omega arith

    score-at : (i : ℕ) → i < 128 → block_score s x b i ≡ block_by i
    unfolding block_score
    score-at i l =
        let k = inside i l in
        ap (λ (z : ℕ). score_for x (norm_code_of s z) (block_freq s x b i)) (doc-at R b i l k)
        ∙ ap (λ (z : ℕ). score_for x z (block_freq s x b i)) (sym (C.norm-is (128 * b + i) k))
        ∙ ap (score_for x (norm (d (128 * b + i)))) (freq-at R b i l k)
        ∙ sym (C.score-is (128 * b + i) k)

    order-at : (i j : ℕ) → i < 128 → j < 128 → lt (block_by i) (block_by j) ≡ lt (block_score s x b i) (block_score s x b j)
    order-at i j l m = ap (λ (z : Float). lt z (block_by j)) (sym (score-at i l)) ∙ ap (lt (block_score s x b i)) (sym (score-at j m))

    numbers : (i : ℕ) → i < 128 → T (within 1000 (block_by i))
    numbers i l =
        let k = inside i l in
        let low : f (128 * b + i) < 2 ^ 32 = let m = S.most (128 * b + i) k in omega arith in
        subst (λ (z : Float). T (within 1000 z)) (sym (C.score-is (128 * b + i) k))
        (score-for-in x C.limits (norm (d (128 * b + i))) (f (128 * b + i)) (C.norm-byte (128 * b + i) k) low)

    abbrev top : ℕ
    top = (R.form.blocks b h).top

    top_in : top < 128
    top_in = (R.form.blocks b h).pair.inside

    top-highest : Highest block_by 128 top
    top-highest =
        let P = (R.form.blocks b h).pair in
        record {
          most = λ i l. order-at top i top_in l ∙ P.highest i l;
          first = λ i l. order-at i top (lt_trans l top_in) top_in ∙ P.lowest i l;
        }

    top-only : top_of d f norm score b ≡ 128 * b + top
    unfolding top_of
    top-only = ap (λ (z : ℕ). 128 * b + z) (highest-only 1000 block_by 128 top numbers top_in top-highest)

    norm-only : max_norm_code s x b ≡ norm (d (top_of d f norm score b))
    norm-only =
        (R.form.blocks b h).pair.norm-is
        ∙ ap (norm_code_of s) (doc-at R b top top_in (inside top top_in))
        ∙ sym (C.norm-is (128 * b + top) (inside top top_in))
        ∙ ap (λ (z : ℕ). norm (d z)) (sym top-only)

    freq-only : max_freq_code s x b ≡ freq_code (f (top_of d f norm score b))
    freq-only =
        (R.form.blocks b h).pair.freq-is
        ∙ ap freq_code (freq-at R b top top_in (inside top top_in))
        ∙ ap (λ (z : ℕ). freq_code (f z)) (sym top-only)

    width-byte : width_byte s x b ≡ doc_bits d f b + 64
    width-byte =
        let W = widths-right s x R.right.skips b h in
        strict-byte (width_byte s x b) (bytes (skip_entry_at x b + 4)) W.bit-5 W.bit-7
        (eqb-true (width_byte s x b / 64 % 2) 1 (R.form.blocks b h).strict)
        ∙ ap (λ (z : ℕ). z + 64) (doc-width-only bytes R b h)

    at-6 : skip_entry_at x b + 6 ≡ skip_entry_at x b + x.skip_entry_len - 2
    at-6 = rw kind (omega arith)

    at_7 : skip_entry_at x b + 7 ≡ skip_entry_at x b + x.skip_entry_len - 1
    at_7 = rw kind (omega arith)

    fields : SkipEntryAt s (skip_entry_at x b) (d (128 * b + 127)) (doc_bits d f b) (freq_bits d f b) (norm (d (top_of d f norm score b)))
        (freq_code (f (top_of d f norm score b)))
    fields = record {
      last-is = sym (last-is s x R.right b h) ∙ doc-at R b 127 (omega arith) (inside 127 (omega arith));
      doc-width-is = width-byte;
      freq-width-is = freq-width-only bytes R b h;
      norm-code-is = ap (λ (z : ℕ). get_or s z 0) at-6 ∙ norm-only;
      freq-code-is = ap (λ (z : ℕ). get_or s z 0) at_7 ∙ freq-only;
    }

    entry-only : Stands s (x.skips + 8 * b) (entry_of d f norm score b)
    unfolding entry_of
    entry-only =
        subst (λ (z : ℕ). Stands s (x.skips + z * b) (entry_of d f norm score b)) kind
        (skip-only s (skip_entry_at x b) _ _ _ _ _ bytes fields)

  -- the first b entries stand from the skip bytes' start on
  pub skips-only : (b : ℕ) → b ≤ full_blocks x → Stands s x.skips (skips_bytes d f norm score b)
  unfolding skips_bytes
  skips-only zero h = none-stands s x.skips
  skips-only (suc b) h =
      both-stand s x.skips (skips_bytes d f norm score b) (entry_of d f norm score b) (skips-only b (omega arith))
      (subst (λ (z : ℕ). Stands s (x.skips + z) (entry_of d f norm score b)) (sym (skips-long d f norm score b)) (entry-only b h))
