-- The skip entries of a list, whose pairs are those of postings that a table names.
use mathlib.Core.List.{List, [], ◌++◌}
use Prim.Native.Nat.{ℕ, zero, suc, ◌+◌, ◌*◌, ◌≤◌, ◌<◌}
use Rattle.std.proofs.Math.ListN.{get_or}
use Rattle.fieldnorm.specs.Reader.{fieldnorm_id}
use Rattle.fieldnorm.specs.declared.FieldNormReader.{FieldNormReader}
use Rattle.encode.specs.SkipEntry.{skip_entry}
use Rattle.bm25_pair.specs.Pair.{freq_code}
use Rattle.house.specs.House.{doc_bits, freq_bits}

-- a buffer's numbers from a place on
abbrev pub numbers_from : List ℕ → ℕ → ℕ → ℕ
numbers_from buffer from i = get_or buffer (from + i) 0

-- the table has a place for each of n blocks from `start` on, and each names one of 128 postings
pub record TopsIn (tops : List ℕ) (start n : ℕ) : Type 0 where
  pub room : start + n ≤ 131072
  pub low : (b : ℕ) → b < n → get_or tops (start + b) 0 < 128

module _ (norms : List ℕ) (reader : FieldNormReader) (d f : ℕ → ℕ) (tops : List ℕ) (start : ℕ) where
  -- block b's entry
  unfoldable pub entry_by : ℕ → List ℕ
  unfolding doc_bits freq_bits
  entry_by b =
      let m = 128 * b + get_or tops (start + b) 0 in
      skip_entry (d (128 * b + 127)) (doc_bits d f b) (freq_bits d f b) (fieldnorm_id reader norms (d m)) (freq_code (f m))

  -- the first n
  unfoldable pub skips_by : ℕ → List ℕ
  unfolding entry_by
  skips_by zero = []
  skips_by (suc b) = skips_by b ++ entry_by b
