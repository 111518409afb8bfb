-- What summing differences leaves, each document in 32 bits.
use Rattle.std.specs.Prelude.{◌≡◌, ℕ, ◌+◌, ◌%◌, ◌^◌, ◌<◌, Bool, true, List, length, slice_index}
use Rattle.bitpacker.specs.declared.Four.{Four}
use Rattle.compression.specs.Documents.{doc_at, docs_right}

-- the documents of four differences after p, each in 32 bits
pub record FourSums (p gap x y z w : ℕ) (r : Four) : Type 0 where
  pub sum0 : r.a ≡ (p + (x + gap)) % 2 ^ 32
  pub sum1 : r.b ≡ (p + (x + gap) + (y + gap)) % 2 ^ 32
  pub sum2 : r.c ≡ (p + (x + gap) + (y + gap) + (z + gap)) % 2 ^ 32
  pub sum3 : r.d ≡ (p + (x + gap) + (y + gap) + (z + gap) + (w + gap)) % 2 ^ 32

-- a block whose values were turned into documents, each in 32 bits; those that are right fit
pub record Summed (values : List ℕ) (strict first : Bool) (previous : ℕ) (out : List ℕ) : Type 0 where
  pub long : length out ≡ 128
  pub docs : (i : ℕ) → i < 128 → slice_index out i ≡ doc_at (λ k. slice_index values k) strict first previous i % 2 ^ 32

-- a strict block whose sums cannot leave 32 bits: 128 values of 24 bits, each with its 1, are at most 2 ^ 31
pub record Narrow (values : List ℕ) (n : ℕ) (strict : Bool) (previous : ℕ) : Type 0 where
  pub strict-is : strict ≡ true
  pub low : previous < 2 ^ 31
  pub small : (i : ℕ) → i < n → slice_index values i < 2 ^ 24

-- with the answer whether the first n are right
pub record Checked (values : List ℕ) (n : ℕ) (strict first : Bool) (previous limit : ℕ) (r : Bool) (out : List ℕ) : Type 0 where
  pub summed : Summed values strict first previous out
  pub same : r ≡ docs_right (λ k. slice_index values k) strict first previous n limit
