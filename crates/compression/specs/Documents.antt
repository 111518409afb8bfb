-- Documents by differences.
use Rattle.std.specs.Prelude.{ℕ, zero, suc, ◌+◌, Bool, true, false, ◌&&◌, nat_lt}
use Rattle.arrays.specs.Every.{every}

-- what a strict block adds to each difference and to each frequency
abbrev pub gap_of : Bool → ℕ
gap_of true = 1
gap_of false = 0

-- the documents' sentence, its second half: before a list's first block stands 0, or -1 where 1 is added, so the first value counts from 0
-- either way
abbrev pub start_of : Bool → ℕ → Bool → ℕ
start_of strict previous true = 0
start_of strict previous false = previous + gap_of strict

-- row 7 of the table, of documents one after another: each lies above the one before it. Before a list's first there is none
module _ (d : ℕ → ℕ) (first : Bool) (previous : ℕ) where
  abbrev pub above_last : Bool → Bool
  above_last true = true
  above_last false = nat_lt previous (d 0)

  abbrev pub rises : ℕ → Bool
  rises zero = above_last first
  rises (suc i) = nat_lt (d i) (d (suc i))

  -- and the first n are below the limit
  abbrev pub rising_below : ℕ → ℕ → Bool
  rising_below n limit = every n (λ i. rises i && nat_lt (d i) limit)

module _ (v : ℕ → ℕ) (strict first : Bool) (previous : ℕ) where
  -- the documents' sentence, its first half: a value is added to the document before it, and a strict block adds 1; this is what value i is
  -- added to
  unfoldable pub base_at : ℕ → ℕ
  base_at zero = start_of strict previous first
  base_at (suc i) = base_at i + v i + gap_of strict

  unfoldable pub doc_at : ℕ → ℕ
  unfolding base_at
  doc_at i = base_at i + v i

  -- whether row 7 of the table lets the first n through
  abbrev pub docs_right : ℕ → ℕ → Bool
  docs_right n limit = rising_below doc_at first previous n limit
