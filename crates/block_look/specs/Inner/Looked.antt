-- What is found of a full block.
use Rattle.std.specs.Prelude.{◌≡◌, ℕ, ◌+◌, ◌-◌, Bool, true, List, slice_index, Result, Ok, Err}
use Rattle.outcome.specs.Refusals.{number_of}
use Rattle.outcome.specs.declared.refusal.Refusal.{Refusal}
use Rattle.pieces.specs.Bytes.{bytes_of}
use Rattle.packing.specs.Width.{least_width}
use Rattle.compression.specs.Documents.{rising_below}
use Rattle.frequencies.specs.Frequencies.{freqs_right}
use Rattle.encode.specs.Differences.{differ}
use Rattle.notefile.specs.Inner.Order.{first_of}
use Rattle.block_look.specs.declared.found.Look.{Look}

module _ (docs freqs : List ℕ) (at : ℕ) (first : Bool) (previous limit : ℕ) where
  -- the first of rows 7 and 8 that does not let the block through
  abbrev pub row : ℕ
  row = first_of (rising_below (λ i. slice_index docs (at + i)) first previous 128 limit) (freqs_right (λ i. slice_index freqs (at + i)) 128) true

  -- both do, and these are its widths as a strict block
  pub record Widths (look : Look) : Type 0 where
    pub none : 0 ≡ row
    pub doc-bits-are : look.doc_bits ≡ least_width (bytes_of 128 (differ (λ i. slice_index docs (at + i)) true first previous))
    pub freq-bits-are : look.freq_bits ≡ least_width (bytes_of 128 (λ i. slice_index freqs (at + i) - 1))

  abbrev pub Looked : Result Look Refusal → Type 0
  Looked (Ok look) = Widths look
  Looked (Err refusal) = number_of refusal ≡ row
