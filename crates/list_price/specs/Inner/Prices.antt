-- What the pricing of one list leaves and answers.
use Rattle.std.specs.Prelude.{◌≡◌, true, List, ℕ, ◌+◌, ◌*◌, ◌/◌, ◌%◌, ◌≤◌, ◌<◌, length, get_or, Result, Ok, Err}
use Rattle.fieldnorm.specs.declared.FieldNormReader.{FieldNormReader}
use Rattle.fieldnorm.specs.declared.FieldNormReader.TheVariants.{FromData, Const}
use Rattle.compression.specs.Documents.{rising_below}
use Rattle.frequencies.specs.Frequencies.{freqs_right}
use Rattle.bm25.specs.Bound.{max_score, all_covered}
use Rattle.notefile.specs.Inner.Order.{first_of}
use Rattle.notefile.specs.Lists.{is_first}
use Rattle.house.specs.House.{doc_before, blocks_bytes, tail_bytes}
use Rattle.house.specs.Inner.Listed.{Listed, doc_in, freq_in, score_in, listed_refusal, postings_in, Topped}
use Rattle.outcome.specs.Refusals.{refusal_number}
use Rattle.outcome.specs.declared.refusal.Refusal.{Refusal}

-- a code that all documents share is a byte
abbrev pub CodeFits : FieldNormReader → Type 0
CodeFits (FromData start) = Unit {0}
CodeFits (Const code) = code < 256

-- the bytes that a price states; 0 with a refusal
abbrev pub bytes_of : Result ℕ Refusal → ℕ
bytes_of (Ok n) = n
bytes_of (Err refusal) = 0

module _ (y : Listed) (limit : ℕ) where
  -- what the first n postings are refused for, and those from a block on
  unfoldable pub refused_up_to : ℕ → ℕ
  refused_up_to n =
      first_of (rising_below (doc_in y) true 0 n limit) (freqs_right (freq_in y) n) (all_covered (max_score y.weight y.average) n (score_in y))

  unfoldable pub refused_from : ℕ → ℕ → ℕ
  refused_from b n =
      first_of (rising_below (λ i. doc_in y (128 * b + i)) (is_first b) (doc_before (doc_in y) (freq_in y) b) n limit)
      (freqs_right (λ i. freq_in y (128 * b + i)) n)
      (all_covered (max_score y.weight y.average) n (λ i. score_in y (128 * b + i)))

  -- the full blocks
  pub record BlocksPriced (start : ℕ) (tops₀ : List ℕ) (r : Result ℕ Refusal) (tops : List ℕ) : Type 0 where
    pub refusal_is : refusal_number r ≡ refused_up_to (128 * (y.count / 128))
    pub length-is : refusal_number r ≡ 0 → bytes_of r ≡ length (blocks_bytes (doc_in y) (freq_in y) (y.count / 128))
    pub small : bytes_of r ≤ 1024 * (y.count / 128)
    pub tops_are : refusal_number r ≡ 0 → Topped y start tops
    pub kept : (k : ℕ) → k < start → get_or tops k 0 ≡ get_or tops₀ k 0

  -- the tail
  pub record TailPriced (r : Result ℕ Refusal) : Type 0 where
    pub refusal_is : refusal_number r ≡ refused_from (y.count / 128) (y.count % 128)
    pub length-is : refusal_number r ≡ 0 → bytes_of r ≡ length (tail_bytes (doc_in y) (freq_in y) (y.count / 128) (y.count % 128))
    pub small : bytes_of r ≤ 1280

-- a list's refusal; where there is none, the bytes of its postings, and the places of its highest scores in the table, from a place on.
-- What stands before that place stays
pub record Priced (y : Listed) (limit start : ℕ) (tops₀ : List ℕ) (r : Result ℕ Refusal) (tops : List ℕ) : Type 0 where
  pub refusal_is : refusal_number r ≡ listed_refusal y limit
  pub length-is : refusal_number r ≡ 0 → bytes_of r ≡ length (postings_in y)
  pub small : bytes_of r ≤ 8400000
  pub tops_are : refusal_number r ≡ 0 → Topped y start tops
  pub kept : (k : ℕ) → k < start → get_or tops k 0 ≡ get_or tops₀ k 0
