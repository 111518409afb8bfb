-- 02, order 1: "Contents that the reader would refuse get the reader's number .. Bytes past the file's end stay. Success returns 0 and the
-- length. Errors: 13, the output is too short; it comes last .. a refusal returns count 0 and leaves lent memory alone".
use Rattle.std.specs.Prelude.{◌≡◌, List, [], ◌∷◌, ◌++◌, ℕ, zero, suc, leb, length, drop, Result, Ok, Err}
use Rattle.outcome.specs.Refusals.{refusal_number}
use Rattle.outcome.specs.declared.refusal.Refusal.{Refusal}
use Rattle.notefile.specs.Refusal.{Test, test, first_refusal}
use Rattle.contents.specs.Contents.{Contents}
use Rattle.contents.specs.Refusal.{contents_tests}
use Rattle.house.specs.House.{house_file}

abbrev pub length_of : Result ℕ Refusal → ℕ
length_of (Ok length) = length
length_of (Err refusal) = 0

-- the contents' rows in the table's order, and last whether an output of so many bytes is long enough
unfoldable pub write_tests : Contents → ℕ → List Test
write_tests c room = contents_tests c ++ (test 13 (leb (length (house_file c)) room) ∷ [])

unfoldable pub write_refusal : Contents → ℕ → ℕ
unfolding write_tests
write_refusal c room = first_refusal (write_tests c room)

-- the length for a refusal, 0 being none, and a file; and what the output holds then: the file and behind it what stood there, or all of that
abbrev pub length_for : ℕ → List ℕ → ℕ
length_for zero file = length file
length_for (suc n) file = 0

abbrev pub output_for : ℕ → List ℕ → List ℕ → List ℕ
output_for zero file out = file ++ drop (length file) out
output_for (suc n) file out = out

-- an answer with its number and its length, which no other has
pub record WriteIs (c : Contents) (old : List ℕ) (r : Result ℕ Refusal) (new : List ℕ) : Type 0 where
  pub number_is : refusal_number r ≡ write_refusal c (length old)
  pub length-is : length_of r ≡ length_for (write_refusal c (length old)) (house_file c)
  pub output-is : new ≡ output_for (write_refusal c (length old)) (house_file c) old
