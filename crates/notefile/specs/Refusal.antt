-- The order under 01's table, as one list of tests: rows 1 to 4, then the lists one after another, each with its rows 5 to 9.
use Rattle.std.specs.Prelude.{Bool, true, false, List, [], ◌∷◌, ◌++◌, ℕ, zero, suc}
use Rattle.arrays.specs.Every.{every}
use Rattle.notefile.specs.Header.{list_count}
use Rattle.notefile.specs.Parts.{part_of}
use Rattle.notefile.specs.Lists.{full_blocks}
use Rattle.notefile.specs.Conditions.{header_right, average_right, length_right, entry_right, skips_right, postings_right, block_docs_right, block_freqs_right, bounds_right}
use Rattle.notefile.specs.declared.part.Part.{Part}

-- a row of the table: its number, and whether it lets the request through
pub data Test : Type 0 where
  test : (number : ℕ) (right : Bool) → Test

-- the number of a row that refuses, and else what comes after it
abbrev pub unless : Bool → ℕ → ℕ → ℕ
unless true n later = later
unless false n later = n

-- the number of the first row that refuses; 0: none does
abbrev pub first_refusal : List Test → ℕ
first_refusal [] = 0
first_refusal (test n right ∷ ts) = unless right n (first_refusal ts)

module _ (file : List ℕ) where
  -- the first n blocks of a list: all of 7, then all of 8, then all of 9
  abbrev pub block_tests : Part → ℕ → List Test
  block_tests x n =
      test 7 (every n (block_docs_right file x))
      ∷ test 8 (every n (block_freqs_right file x))
      ∷ test 9 (every n (bounds_right file x))
      ∷ []

  -- a list: all of 5, then all of 6, then its full blocks and its tail
  abbrev pub list_tests : Part → List Test
  list_tests x =
      test 5 (skips_right file x)
      ∷ test 6 (postings_right file x)
      ∷ block_tests x (suc (full_blocks x))

  -- the first n lists
  unfoldable pub lists_tests : ℕ → List Test
  lists_tests zero = []
  lists_tests (suc l) = lists_tests l ++ list_tests (part_of file l)

  -- a file
  unfoldable pub file_tests : List Test
  unfolding lists_tests
  file_tests =
      test 1 (header_right file)
      ∷ test 2 (average_right file)
      ∷ test 3 (length_right file)
      ∷ test 4 (every (list_count file) (entry_right file))
      ∷ lists_tests (list_count file)

  -- what a file is refused for; 0: it is accepted
  unfoldable pub file_refusal : ℕ
  unfolding file_tests
  file_refusal = first_refusal file_tests
