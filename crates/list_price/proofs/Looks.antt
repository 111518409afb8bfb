-- A full block that is looked at and copied: what it is refused for, its copy, and whether f32 holds its frequencies.
use mathlib.Core.Path.{◌≡◌, sym, ap, ◌∙◌, subst}
use mathlib.Core.Bool.{Bool, true}
use mathlib.Core.List.{List}
use Prim.Native.Nat.{ℕ, ◌-◌, ◌^◌, ◌≤◌, ◌<◌}
use native.Mathlib.Nat.{lt_of_lt_of_le}
use native.Mathlib.Omega.{arith}
use lib.Dec.{ltb, leb}
use lib.ListN.{get_or}
use lib.Pow.{pow_mono}
use borrow.Author.Tests.{leb-true}
use Rattle.std.specs.Prelude.{Ok, Err}
use Rattle.outcome.specs.Refusals.{number_of}
use Rattle.outcome.specs.declared.refusal.Refusal.{Refusal}
use Rattle.arrays.proofs.Every.{each, second-true}
use Rattle.pieces.specs.Bytes.{bytes_of}
use Rattle.pieces.proofs.Standing.{each-byte}
use Rattle.packing.specs.Width.{least_width}
use Rattle.packing.proofs.Widths.{width-most, least-holds}
use Rattle.compression.specs.Documents.{rising_below}
use Rattle.frequencies.specs.Frequencies.{freq_right, freqs_right}
use Rattle.block_norms.proofs.AtMost.{all-at-most}
use Rattle.bm25_block.specs.Inner.Block.{ExactWhere}
use Rattle.encode.specs.Inner.Fronted.{Fronted}
use Rattle.notefile.specs.Inner.Order.{first_of}
use Rattle.block_look.specs.Inner.Looked.{row, Looked}
use Rattle.block_look.specs.declared.found.Look.{Look}
use Rattle.list_price.specs.Inner.Loads.{on_from, doc_behind, refused_for, Loaded}
use Rattle.list_price.proofs.Loads.{both_right}

module _ (docs freqs : List ℕ) (at : ℕ) (first : Bool) (limit : ℕ) where
  row-is : {previous : ℕ} → previous ≡ doc_behind docs at first → row docs freqs at first previous limit ≡ refused_for docs freqs at 128 first limit
  row-is ep = ap (λ (p : ℕ). first_of (rising_below (on_from docs at) first p 128 limit) (freqs_right (on_from freqs at) 128) true) ep

  pub stop_is : (refusal : Refusal) {previous : ℕ} → Looked docs freqs at first previous limit (Err refusal) → previous ≡ doc_behind docs at first
      → number_of refusal ≡ refused_for docs freqs at 128 first limit
  stop_is refusal K ep = K ∙ row-is ep

module _ {docs freqs : List ℕ} {at : ℕ} {first : Bool} {previous limit : ℕ} {r : Look} (K : Looked docs freqs at first previous limit (Ok r)) where
  pub look_is : previous ≡ doc_behind docs at first → 0 ≡ refused_for docs freqs at 128 first limit
  look_is ep = K.none ∙ row-is docs freqs at first limit ep

  pub copied : {ds₀ ds fs₀ fs : List ℕ} → previous ≡ doc_behind docs at first → Fronted (on_from docs at) 128 ds₀ ds
      → Fronted (on_from freqs at) 128 fs₀ fs → Loaded docs freqs at 128 first limit 0 ds fs
  copied ep D F = record { same = look_is ep; docs-are = λ e. D.values; freqs-are = λ e. F.values }

  -- its widths are at most 32 each
  pub docs-narrow : r.doc_bits ≤ 32
  docs-narrow = rw K.doc-bits-are (width-most _)

  pub freqs-narrow : r.freq_bits ≤ 32
  freqs-narrow = rw K.freq-bits-are (width-most _)

  -- frequencies less 1 of at most 24 bits are exact
  abbrev less : ℕ → ℕ
  less i = on_from freqs at i - 1

  freq-most : (i : ℕ) → i < 128 → on_from freqs at i ≤ 2013265944
  freq-most i h =
      let rows = both_right (rising_below (on_from docs at) first previous 128 limit) (freqs_right (on_from freqs at) 128) K.none in
      leb-true _ _ (second-true (ltb 0 (on_from freqs at i)) _ (each (λ i. freq_right (on_from freqs at i)) 128 i rows.1 h))

  less-small : (i : ℕ) → i < 128 → get_or (bytes_of 128 less) i 0 < 4294967296
  less-small i h = subst (λ (x : ℕ). x < 4294967296) (sym (each-byte 128 less i h)) (omega (arith, freq-most i h))

  freq-low : r.freq_bits ≤ 24 → (i : ℕ) → i < 128 → on_from freqs at i ≤ 16777216
  freq-low n i h =
      let held = subst (λ (x : ℕ). x < 2 ^ least_width (bytes_of 128 less)) (each-byte 128 less i h)
      (least-holds (bytes_of 128 less) less-small i h) in
      let below : less i < 16777216
      = lt_of_lt_of_le held (pow_mono {j = 24} (subst (λ (x : ℕ). x ≤ 24) K.freq-bits-are n)) in
      omega (arith, below)

  pub exact-where : {fs₀ fs : List ℕ} → Fronted (on_from freqs at) 128 fs₀ fs → ExactWhere (leb r.freq_bits 24) fs
  exact-where {fs = fs} F e = all-at-most 16777216 fs (λ i h. rw (F.values i h) (freq-low (leb-true _ _ e) i h))
