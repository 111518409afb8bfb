-- What a list, the first lists and the first blocks are refused for, each by itself, and how two such answers are joined.
use Rattle.std.specs.Prelude.{Bool, List, ℕ, zero, suc}
use Rattle.notefile.specs.Refusal.{unless, first_refusal, block_tests, list_tests, lists_tests}
use Rattle.notefile.specs.declared.part.Part.{Part}

-- the first of two refusals, 0 being none
abbrev pub or_else : ℕ → ℕ → ℕ
or_else zero later = later
or_else (suc n) later = suc n

-- of documents, frequencies and bounds, the first that is not right
abbrev pub first_of : Bool → Bool → Bool → ℕ
first_of docs freqs bounds = unless docs 7 (unless freqs 8 (unless bounds 9 0))

module _ (file : List ℕ) where
  -- the first n blocks of a list
  unfoldable pub blocks_refusal : Part → ℕ → ℕ
  blocks_refusal x n = first_refusal (block_tests file x n)

  -- a list
  unfoldable pub list_refusal : Part → ℕ
  unfolding blocks_refusal
  list_refusal x = first_refusal (list_tests file x)

  -- the first n lists
  unfoldable pub lists_refusal : ℕ → ℕ
  unfolding lists_tests list_refusal
  lists_refusal n = first_refusal (lists_tests file n)
