-- Skip entries of the house read back: row 5 lets them through, and each gives its block's widths, last document and pair.
use mathlib.Core.Path.{◌≡◌, refl, sym, ap, ◌∙◌, subst}
use mathlib.Core.Bool.{true}
use mathlib.Core.List.{List}
use mathlib.Core.Logic.{inl, inr}
use Prim.Native.Nat.{ℕ, zero, suc, ◌+◌, ◌-◌, ◌*◌, ◌/◌, ◌%◌, ◌≤◌, ◌<◌}
use native.Mathlib.Nat.{eq-or-lt_of_le, le_of_suc-le-suc, not-suc-le-zero}
use native.Mathlib.Omega.{arith}
use lib.ListN.{length, get_or, length-append}
use lib.Ieee.{Float}
use borrow.Author.Tests.{eq-eqb, le-leb}
use Rattle.arrays.proofs.Every.{and-true, all}
use Rattle.codec.specs.Bits.{word_at}
use Rattle.pieces.specs.Inner.Written.{Stands}
use Rattle.pieces.proofs.Standing.{first-stands, second-stands}
use Rattle.encode.proofs.SkipEntries.{SkipEntryAt, skip-back}
use Rattle.bm25_pair.specs.Pair.{freq_code}
use Rattle.notefile.specs.Header.{documents}
use Rattle.notefile.specs.Skips.{skip_entry_at, last_doc, width_byte, doc_width, strict_block, freq_width, max_norm_code, max_freq_code}
use Rattle.notefile.specs.Lists.{full_blocks}
use Rattle.notefile.specs.Conditions.{skip_right, skips_right}
use Rattle.notefile.specs.declared.part.Part.{Part}
use Rattle.house.specs.House.{doc_bits, freq_bits, top_of, entry_of, skips_bytes}
use Rattle.house.specs.Inner.Sound.{Sound}
use Rattle.house.proofs.Given.{Laid}
use Rattle.house.proofs.ListValues.{docs-held, freqs-held}

-- where the entries stand
module _ (d f norm : ℕ → ℕ) (score : ℕ → Float) where
  entry-long : (b : ℕ) → length (entry_of d f norm score b) ≡ 8
  unfolding entry_of
  entry-long b = refl

  pub skips-long : (b : ℕ) → length (skips_bytes d f norm score b) ≡ 8 * b
  unfolding skips_bytes
  skips-long zero = refl
  skips-long (suc b) =
      length-append (skips_bytes d f norm score b) (entry_of d f norm score b) ∙ omega (arith, skips-long b, entry-long b)

  -- the last entry, at its place by number
  moved : (s : List ℕ) (p n b : ℕ) → b ≡ n → Stands s (p + length (skips_bytes d f norm score n)) (entry_of d f norm score n)
      → Stands s (p + 8 * b) (entry_of d f norm score b)
  moved s p n b q S =
      subst (λ (k : ℕ). Stands s (p + 8 * k) (entry_of d f norm score k)) (sym q)
      (subst (λ (y : ℕ). Stands s (p + y) (entry_of d f norm score n)) (skips-long n) S)

  pub entry-stands : (s : List ℕ) (p n b : ℕ) → b < n → Stands s p (skips_bytes d f norm score n)
      → Stands s (p + 8 * b) (entry_of d f norm score b)
  unfolding skips_bytes
  entry-stands s p zero b h S = absurd (not-suc-le-zero h)
  entry-stands s p (suc n) b h S = elim (eq-or-lt_of_le (le_of_suc-le-suc h)) [
    | inl q ↦ moved s p n b q (second-stands s p (skips_bytes d f norm score n) (entry_of d f norm score n) S)
    | inr l ↦ entry-stands s p n b l (first-stands s p (skips_bytes d f norm score n) (entry_of d f norm score n) S)
  ]

-- what an entry gives
pub record Entered (s : List ℕ) (x : Part) (b last doc_bits freq_bits norm_code freq_code : ℕ) : Type 0 where
  pub last-is : last_doc s x b ≡ last
  pub doc-width-is : doc_width s x b ≡ doc_bits
  pub strict-is : strict_block s x b ≡ true
  pub freq-width-is : freq_width s x b ≡ freq_bits
  pub norm-code-is : max_norm_code s x b ≡ norm_code
  pub freq-code-is : max_freq_code s x b ≡ freq_code
  pub right : skip_right s x b ≡ true

module _ (s : List ℕ) (x : Part) (b last doc_bits freq_bits norm_code freq_code : ℕ) (kind : x.skip_entry_len ≡ 8) where
  -- its bytes, by the entry's length
  entry_at : skip_entry_at x b ≡ x.skips + 8 * b
  entry_at = ap (λ (y : ℕ). x.skips + y * b) kind

  norm-at : skip_entry_at x b + x.skip_entry_len - 2 ≡ x.skips + 8 * b + 6
  norm-at = ap (λ (y : ℕ). x.skips + y * b + y - 2) kind ∙ omega arith

  freq-at : skip_entry_at x b + x.skip_entry_len - 1 ≡ x.skips + 8 * b + 7
  freq-at = ap (λ (y : ℕ). x.skips + y * b + y - 1) kind ∙ omega arith

  pub entered : doc_bits ≤ 20 → freq_bits ≤ 31 → SkipEntryAt s (x.skips + 8 * b) last doc_bits freq_bits norm_code freq_code
      → Entered s x b last doc_bits freq_bits norm_code freq_code
  unfolding skip_right
  entered hd hf E = record {
    last-is = ap (word_at s) entry_at ∙ E.last-is;
    doc-width-is = ap (λ (y : ℕ). y % 32) width ∙ omega arith;
    strict-is = eq-eqb (width_byte s x b / 64 % 2) 1 (ap (λ (y : ℕ). y / 64 % 2) width ∙ omega arith);
    freq-width-is = freq;
    norm-code-is = ap (λ (y : ℕ). get_or s y 0) norm-at ∙ E.norm-code-is;
    freq-code-is = ap (λ (y : ℕ). get_or s y 0) freq-at ∙ E.freq-code-is;
    right =
        and-true _ _ (eq-eqb (width_byte s x b / 32 % 2) 0 (ap (λ (y : ℕ). y / 32 % 2) width ∙ omega arith))
        (and-true _ _ (eq-eqb (width_byte s x b / 128 % 2) 0 (ap (λ (y : ℕ). y / 128 % 2) width ∙ omega arith))
        (le-leb (freq_width s x b) 32 (subst (λ (y : ℕ). y ≤ 32) (sym freq) (omega arith))));
  }
    where
      width : width_byte s x b ≡ doc_bits + 64
      width = ap (λ (y : ℕ). get_or s (y + 4) 0) entry_at ∙ E.doc-width-is

      freq : freq_width s x b ≡ freq_bits
      freq = ap (λ (y : ℕ). get_or s (y + 5) 0) entry_at ∙ E.freq-width-is

-- the entry of block b
abbrev pub EnteredBlock : List ℕ → Part → (ℕ → ℕ) → (ℕ → ℕ) → (ℕ → ℕ) → (ℕ → Float) → ℕ → Type 0
EnteredBlock s x d f norm score b =
    let m = top_of d f norm score b in
    Entered s x b (d (128 * b + 127)) (doc_bits d f b) (freq_bits d f b) (norm (d m)) (freq_code (f m))

module _ {s : List ℕ} {x : Part} {d f norm : ℕ → ℕ} {score : ℕ → Float} (S : Sound d f x.count (documents s))
    (L : Laid s x d f norm score) where
  pub block-entered : (b : ℕ) → b < full_blocks x → EnteredBlock s x d f norm score b
  unfolding entry_of
  block-entered b h =
      let m = top_of d f norm score b in
      let full : 128 * b + 128 ≤ x.count = omega arith in
      entered s x b (d (128 * b + 127)) (doc_bits d f b) (freq_bits d f b) (norm (d m)) (freq_code (f m)) L.kind_0
      (docs-held S b full).narrow (freqs-held S b full).narrow
      (skip-back s (x.skips + 8 * b) (d (128 * b + 127)) (doc_bits d f b) (freq_bits d f b) (norm (d m)) (freq_code (f m))
      (omega (arith, S.below (128 * b + 127) (omega arith), S.few))
      (entry-stands d f norm score s x.skips (full_blocks x) b h L.skips-stand))

  -- row 5
  pub skips-right : skips_right s x ≡ true
  unfolding skips_right
  skips-right =
      and-true _ _
      (eq-eqb _ _ (ap (λ (y : ℕ). x.skips + y * full_blocks x) L.kind_0 ∙ sym L.then-postings))
      (all (skip_right s x) (full_blocks x) (λ b h. (block-entered b h).right))
