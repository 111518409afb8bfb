-- The full blocks of an accepted list in house form have the house form's widths and bytes.
use mathlib.Core.Path.{◌≡◌, sym, ap, ◌∙◌, subst}
use mathlib.Core.Bool.{true, ◌&&◌}
use mathlib.Core.List.{List}
use Prim.Native.Nat.{ℕ, zero, suc, ◌+◌, ◌-◌, ◌*◌, ◌/◌, ◌%◌, ◌^◌, ◌≤◌, ◌<◌}
use native.Mathlib.Nat.{add-zero}
use native.Mathlib.Omega.{arith}
use lib.Dec.{eqb, leb}
use lib.ListN.{length, get_or, length-append}
use borrow.Author.Tests.{lt-ltb, leb-true, eqb-true}
use Rattle.arrays.specs.Every.{every}
use Rattle.arrays.proofs.Every.{first-true, second-true, each}
use Rattle.bitpacker.specs.Packed.{packed_at}
use Rattle.bitpacker.specs.Inner.Rows.{Unpacked}
use Rattle.pieces.specs.Bytes.{bytes_of}
use Rattle.pieces.specs.Inner.Written.{Stands}
use Rattle.pieces.proofs.Standing.{long-bytes, each-byte, both-stand, none-stands}
use Rattle.packing.specs.Packing.{packed_block}
use Rattle.packing.specs.Width.{least_width}
use Rattle.packing.proofs.Packs.{block-long, block-only}
use Rattle.packing.proofs.Widths.{least-only}
use Rattle.notefile.specs.Skips.{width_byte, doc_width, freq_width}
use Rattle.notefile.specs.Lists.{full_blocks, doc_value, freq_value, block_at, freqs_at}
use Rattle.notefile.specs.Conditions.{skip_right, skips_right}
use Rattle.notefile.specs.declared.part.Part.{Part}
use Rattle.house.specs.House.{doc_differ, doc_values, freq_values, doc_bits, freq_bits, block_bytes, blocks_bytes}
use Rattle.house.specs.Form.{Least}
use Rattle.house.proofs.Given.{Read}
use Rattle.house.proofs.OnlyRead.{doc-values, freq-values, full-strict}

-- what row 5 says of a width byte and of a frequency width
pub record Widths (s : List ℕ) (x : Part) (b : ℕ) : Type 0 where
  pub bit-5 : width_byte s x b / 32 % 2 ≡ 0
  pub bit-7 : width_byte s x b / 128 % 2 ≡ 0
  pub narrow : freq_width s x b ≤ 32

pub widths-right : (s : List ℕ) (x : Part) → skips_right s x ≡ true → (b : ℕ) → b < full_blocks x → Widths s x b
unfolding skips_right skip_right
widths-right s x R b h =
    let fit = eqb (x.skips + x.skip_entry_len * full_blocks x) x.postings in
    let five = eqb (width_byte s x b / 32 % 2) 0 in
    let seven = eqb (width_byte s x b / 128 % 2) 0 in
    let low = leb (freq_width s x b) 32 in
    let all = second-true fit (every (full_blocks x) (skip_right s x)) R in
    let t : five && (seven && low) ≡ true = each (skip_right s x) (full_blocks x) b all h in
    record {
      bit-5 = eqb-true (width_byte s x b / 32 % 2) 0 (first-true five (seven && low) t);
      bit-7 = eqb-true (width_byte s x b / 128 % 2) 0 (first-true seven low (second-true five (seven && low) t));
      narrow = leb-true (freq_width s x b) 32 (second-true seven low (second-true five (seven && low) t));
    }

-- places one behind another
sum : (p u v l m n : ℕ) → 16 * u ≡ l → 16 * v ≡ m → n ≡ l + m → p + 16 * (u + v) ≡ p + n
sum p u v l m n a b c = omega arith

pub behind : (p q r l m n : ℕ) → q ≡ p + l → r ≡ q + m → n ≡ l + m → r ≡ p + n
behind p q r l m n a b c = omega arith

-- 128 packed values of a least width, which are these
module _ (u : ℕ → ℕ) {w : ℕ} {v : ℕ → ℕ} (L : Least w v) (top : w ≤ 32) (same : (i : ℕ) → i < 128 → v i ≡ u i) where
  each-is : (i : ℕ) → i < 128 → get_or (bytes_of 128 u) i 0 ≡ v i
  each-is i h = each-byte 128 u i h ∙ sym (same i h)

  pub width-only : w ≡ least_width (bytes_of 128 u)
  width-only =
      least-only (bytes_of 128 u) w top (λ i h. subst (λ (z : ℕ). z < 2 ^ w) (sym (each-is i h)) (L.holds i h))
      (λ m f. L.least m (λ i h. subst (λ (z : ℕ). z < 2 ^ m) (each-is i h) (f i h)))

  pub packed-only : (s : List ℕ) (p : ℕ) → ((i : ℕ) → get_or s i 0 < 256) → ((i : ℕ) → v i ≡ packed_at s p w i)
      → Stands s p (packed_block (bytes_of 128 u) (least_width (bytes_of 128 u)))
  packed-only s p bytes packed =
      let U : Unpacked s p w (bytes_of 128 u) = record { long = long-bytes 128 u; values = λ i h. each-is i h ∙ packed i } in
      subst (λ (z : ℕ). Stands s p (packed_block (bytes_of 128 u) z)) width-only (block-only U bytes)

-- a full block's values are packed
module _ (s : List ℕ) (x : Part) (b : ℕ) (h : b < full_blocks x) where
  doc-packed : (i : ℕ) → doc_value s x b i ≡ packed_at s (block_at s x b) (doc_width s x b) i
  unfolding doc_value
  doc-packed i = rw (lt-ltb b (full_blocks x) h)

  freq-packed : (i : ℕ) → freq_value s x b i ≡ packed_at s (freqs_at s x b) (freq_width s x b) i
  unfolding freq_value
  freq-packed i = rw (lt-ltb b (full_blocks x) h)

module _ {s : List ℕ} {x : Part} {d f : ℕ → ℕ} (bytes : (i : ℕ) → get_or s i 0 < 256) (R : Read s x d f) where
  module _ (b : ℕ) (h : b < full_blocks x) where
    docs-are : (i : ℕ) → i < 128 → doc_value s x b i ≡ doc_differ d f true b i
    docs-are = doc-values R b 128 true (full-strict R b h) (omega arith) (omega arith)

    freqs-are : (i : ℕ) → i < 128 → freq_value s x b i ≡ f (128 * b + i) - 1
    freqs-are i l =
        less (freq_value s x b i) (f (128 * b + i))
        (freq-values R b 128 true (full-strict R b h) (omega arith) (omega arith) i l)
      where
        less : (u v : ℕ) → u + 1 ≡ v → u ≡ v - 1
        less u v e = omega arith

    freq-low : freq_width s x b ≤ 32
    freq-low = (widths-right s x R.right.skips b h).narrow

    doc-low : doc_width s x b ≤ 32
    doc-low = omega arith

    pub doc-width-only : doc_width s x b ≡ doc_bits d f b
    unfolding doc_bits doc_values
    doc-width-only = width-only (doc_differ d f true b) (R.form.blocks b h).doc-least doc-low docs-are

    pub freq-width-only : freq_width s x b ≡ freq_bits d f b
    unfolding freq_bits freq_values
    freq-width-only = width-only (λ (i : ℕ). f (128 * b + i) - 1) (R.form.blocks b h).freq-least freq-low freqs-are

    docs-stand : Stands s (block_at s x b) (packed_block (doc_values d f b) (doc_bits d f b))
    unfolding doc_bits doc_values
    docs-stand =
        packed-only (doc_differ d f true b) (R.form.blocks b h).doc-least doc-low docs-are s (block_at s x b) bytes (doc-packed s x b h)

    freqs-stand : Stands s (freqs_at s x b) (packed_block (freq_values d f b) (freq_bits d f b))
    unfolding freq_bits freq_values
    freqs-stand =
        packed-only (λ (i : ℕ). f (128 * b + i) - 1) (R.form.blocks b h).freq-least freq-low freqs-are s (freqs_at s x b) bytes
        (freq-packed s x b h)

    docs-long : 16 * doc_width s x b ≡ length (packed_block (doc_values d f b) (doc_bits d f b))
    docs-long = ap (λ (z : ℕ). 16 * z) doc-width-only ∙ sym (block-long (doc_values d f b) (doc_bits d f b))

    freqs-long : 16 * freq_width s x b ≡ length (packed_block (freq_values d f b) (freq_bits d f b))
    freqs-long = ap (λ (z : ℕ). 16 * z) freq-width-only ∙ sym (block-long (freq_values d f b) (freq_bits d f b))

    block-stands : Stands s (block_at s x b) (block_bytes d f b)
    unfolding block_bytes
    block-stands =
        both-stand s (block_at s x b) (packed_block (doc_values d f b) (doc_bits d f b)) (packed_block (freq_values d f b) (freq_bits d f b))
        docs-stand
        (subst (λ (z : ℕ). Stands s (block_at s x b + z) (packed_block (freq_values d f b) (freq_bits d f b))) docs-long freqs-stand)

    block_size : block_at s x (suc b) ≡ block_at s x b + length (block_bytes d f b)
    unfolding block_at block_bytes
    block_size =
        sum (block_at s x b) (doc_width s x b) (freq_width s x b) _ _ _ docs-long freqs-long
        (length-append (packed_block (doc_values d f b) (doc_bits d f b)) (packed_block (freq_values d f b) (freq_bits d f b)))

  -- the first b blocks: they stand from the postings' start on, and the next begins behind them
  pub blocks-only : (b : ℕ) → b ≤ full_blocks x
      → (Stands s x.postings (blocks_bytes d f b)) × (block_at s x b ≡ x.postings + length (blocks_bytes d f b))
  unfolding blocks_bytes block_at
  blocks-only zero h = (none-stands s x.postings, sym (add-zero x.postings))
  blocks-only (suc b) h =
      let I = blocks-only b (omega arith) in (
        both-stand s x.postings (blocks_bytes d f b) (block_bytes d f b) I.0
            (subst (λ (z : ℕ). Stands s z (block_bytes d f b)) I.1 (block-stands b h)),
        behind x.postings _ _ _ _ _ I.1 (block_size b h) (length-append (blocks_bytes d f b) (block_bytes d f b)),
      )
