-- A full block's bytes and its skip entry, from a block that has its values.
use mathlib.Core.Path.{◌≡◌, sym, ap, ◌∙◌}
use mathlib.Core.Bool.{true}
use mathlib.Core.List.{List, ◌++◌}
use Prim.Native.Nat.{ℕ, ◌+◌, ◌-◌, ◌*◌, ◌^◌, ◌≤◌, ◌<◌}
use native.Mathlib.Nat.{lt_of_lt_of_le, sub-le}
use native.Mathlib.Omega.{arith}
use lib.ListN.{length, get_or, length-append}
use lib.Pow.{pow_mono}
use Rattle.pieces.specs.Inner.Written.{Put}
use Rattle.pieces.specs.Inner.Two.{TwoPieces}
use Rattle.pieces.proofs.Puts.{put_as, put-behind}
use Rattle.pieces.proofs.TwoPuts.{two-put}
use Rattle.pieces.proofs.Standing.{all-bytes}
use Rattle.packing.specs.Packing.{packed_block}
use Rattle.packing.specs.Width.{least_width}
use Rattle.packing.specs.Inner.Fitting.{Fitting}
use Rattle.packing.proofs.Widths.{least-holds, least-most, least-least}
use Rattle.packing.proofs.Packs.{block-long}
use Rattle.encode.specs.Differences.{floor_at, differ}
use Rattle.encode.specs.SkipEntry.{skip_entry}
use Rattle.notefile.specs.Lists.{is_first}
use Rattle.notefile.specs.Inner.Reads.{docs_of, freqs_of}
use Rattle.house.specs.House.{doc_before, doc_differ, doc_values, freq_values, doc_bits, freq_bits, block_bytes}
use Rattle.house.specs.Inner.Sound.{Sound}
use Rattle.list_writer.specs.Inner.Filled.{Filled}

-- 128 values below a limit of 32 bits or fewer fit their least width, which is no more than the limit's
pub fits : {vs : List ℕ} {w : ℕ} (most : ℕ) → most ≤ 32 → length vs ≡ 128 → ((i : ℕ) → i < 128 → get_or vs i 0 < 2 ^ most)
    → w ≡ least_width vs → Fitting vs w × (w ≤ most)
fits {vs} {w} most h long low e =
    let small : (i : ℕ) → i < 128 → get_or vs i 0 < 4294967296 = λ i l. lt_of_lt_of_le (low i l) (pow_mono {j = 32} h) in
    rw e (record { long = long; widths = least-most vs small; each = least-holds vs small }, least-least vs most low)

both-same : {a a' c c' : List ℕ} {v v' w w' : ℕ} → a ≡ a' → v ≡ v' → c ≡ c' → w ≡ w'
    → packed_block a v ++ packed_block c w ≡ packed_block a' v' ++ packed_block c' w'
both-same e g h k = cc

-- a value is not above its document
value_low : (d f : ℕ → ℕ) (b i : ℕ) → doc_differ d f true b i ≤ d (128 * b + i)
unfolding doc_differ differ
value_low d f b i = sub-le (d (128 * b + i)) (floor_at (λ j. d (128 * b + j)) true (is_first b) (doc_before d f b) i)

module _ {d f : ℕ → ℕ} (b : ℕ) {block : List (List ℕ)} (S : Sound d f (128 * b + 128) 1048576) (F : Filled d f true b 128 block) where
  docs-list : docs_of block ≡ doc_values d f b
  unfolding doc_values
  docs-list = all-bytes (docs_of block) 128 (doc_differ d f true b) F.sized.long-docs F.docs-are

  freqs-list : freqs_of block ≡ freq_values d f b
  unfolding freq_values
  freqs-list = all-bytes (freqs_of block) 128 (λ i. f (128 * b + i) - 1) F.sized.long-freqs F.freqs-are

  -- widths that were found
  module _ {w : ℕ} where
    pub docs-fit : w ≡ least_width (docs_of block) → Fitting (docs_of block) w × (w ≤ 20)
    docs-fit = fits 20 (omega arith) F.sized.long-docs
        (λ i h. omega (arith, F.docs-are i h, value_low d f b i, S.below (128 * b + i) (omega arith)))

    pub freqs-fit : w ≡ least_width (freqs_of block) → Fitting (freqs_of block) w × (w ≤ 31)
    freqs-fit = fits 31 (omega arith) F.sized.long-freqs
        (λ i h. omega (arith, F.freqs-are i h, S.most (128 * b + i) (omega arith)))

  module _ {v w : ℕ} (D : v ≡ least_width (docs_of block)) (E : w ≡ least_width (freqs_of block)) where
    doc-bits : v ≡ doc_bits d f b
    unfolding doc_bits
    doc-bits = D ∙ ap least_width docs-list

    freq-bits : w ≡ freq_bits d f b
    unfolding freq_bits
    freq-bits = E ∙ ap least_width freqs-list

    block-is : packed_block (docs_of block) v ++ packed_block (freqs_of block) w ≡ block_bytes d f b
    unfolding block_bytes
    block-is = both-same docs-list doc-bits freqs-list freq-bits

    pub block-length : 16 * v + 16 * w ≡ length (block_bytes d f b)
    block-length =
        sym (length-append (packed_block (docs_of block) v) (packed_block (freqs_of block) w)
        ∙ ap (λ (x : ℕ). x + length (packed_block (freqs_of block) w)) (block-long (docs_of block) v)
        ∙ ap (λ (x : ℕ). 16 * v + x) (block-long (freqs_of block) w))
        ∙ ap length block-is

    entry-is : {last : ℕ} (norm freq : ℕ) → last ≡ d (128 * b + 127)
        → skip_entry last v w norm freq ≡ skip_entry (d (128 * b + 127)) (doc_bits d f b) (freq_bits d f b) norm freq
    entry-is norm freq e = rw (e, doc-bits, freq-bits)

    -- the entry, the documents and the frequencies are written
    pub block_written : {skip place middle r last norm freq : ℕ} {before one two after : List ℕ} → skip + 8 ≤ place
        → middle ≡ place + 16 * v → r ≡ middle + 16 * w → last ≡ d (128 * b + 127)
        → Put before skip (skip_entry last v w norm freq) one → Put one place (packed_block (docs_of block) v) two
        → Put two middle (packed_block (freqs_of block) w) after
        → let entry = skip_entry (d (128 * b + 127)) (doc_bits d f b) (freq_bits d f b) norm freq in
        (r ≡ place + length (block_bytes d f b)) × TwoPieces before skip entry place (block_bytes d f b) after
    block_written {place = place} {norm = norm} {freq = freq} h M R L X Y Z = (
      omega (arith, M, R, block-length),
      two-put h (put_as X (entry-is norm freq L))
          (put_as (put-behind Y (M ∙ ap (λ (x : ℕ). place + x) (sym (block-long (docs_of block) v))) Z) block-is),
    )
