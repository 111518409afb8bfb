-- What writing a block asks, and the values that are made of its postings.
use Rattle.std.specs.Prelude.{◌≡◌, Bool, List, ℕ, ◌+◌, ◌-◌, ◌*◌, ◌≤◌, ◌<◌, length, get_or}
use Rattle.compression.specs.Documents.{gap_of}
use Rattle.notefile.specs.Inner.Reads.{docs_of, freqs_of, Sized}
use Rattle.house.specs.House.{doc_differ}
use Rattle.house.specs.Inner.Sound.{Sound}
use Rattle.list_writer.specs.Inner.Skips.{numbers_from}

-- the buffers have n postings from a place on, and rows 7 and 8 of the table let them through
pub record PostingsIn (docs freqs : List ℕ) (from n : ℕ) : Type 0 where
  pub docs-in : from + n ≤ length docs
  pub freqs-in : from + n ≤ length freqs
  pub sound : Sound (numbers_from docs from) (numbers_from freqs from) n 1048576

-- a block has the values of the n postings behind b full blocks
pub record Filled (d f : ℕ → ℕ) (strict : Bool) (b n : ℕ) (block : List (List ℕ)) : Type 0 where
  pub sized : Sized block
  pub docs-are : (i : ℕ) → i < n → get_or (docs_of block) i 0 ≡ doc_differ d f strict b i
  pub freqs-are : (i : ℕ) → i < n → get_or (freqs_of block) i 0 ≡ f (128 * b + i) - gap_of strict
