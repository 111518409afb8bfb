-- What making frequencies leaves.
use Rattle.std.specs.Prelude.{◌≡◌, ℕ, ◌+◌, ◌%◌, ◌^◌, ◌<◌, ◌≤◌, Bool, List, length, slice_index}
use Rattle.arrays.specs.Every.{every}
use Rattle.compression.specs.Documents.{gap_of}
use Rattle.frequencies.specs.Frequencies.{freq_right}

-- the sentence on strict frequencies: n values turned into frequencies, a strict block's with 1 added, each in 32 bits, and whether all are
-- right; those fit
pub record Counted (values : List ℕ) (n : ℕ) (strict : Bool) (r : Bool) (out : List ℕ) : Type 0 where
  pub same : r ≡ every n (λ i. freq_right (slice_index values i + gap_of strict))
  pub long : length out ≡ 128
  pub freqs : (i : ℕ) → i < n → slice_index out i ≡ (slice_index values i + gap_of strict) % 2 ^ 32
  pub kept : (i : ℕ) → n ≤ i → slice_index out i ≡ slice_index values i
