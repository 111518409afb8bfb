-- The table's number of each refusal, and of an answer that may be one: 0, where nothing is refused.
use Rattle.std.specs.Prelude.{ℕ, Result, Ok, Err}
use Rattle.outcome.specs.declared.refusal.Refusal.{Refusal}
use Rattle.outcome.specs.declared.refusal.Refusal.TheVariants.{Header, Average, Length, Entry, Skips, Postings, Documents, Frequencies, Bound, Query, Rule, Output, Notes}

abbrev pub number_of : Refusal → ℕ
number_of Header = 1
number_of Average = 2
number_of Length = 3
number_of Entry = 4
number_of Skips = 5
number_of Postings = 6
number_of Documents = 7
number_of Frequencies = 8
number_of Bound = 9
number_of Query = 10
number_of Rule = 11
number_of Output = 13
number_of Notes = 14

abbrev pub refusal_number : {A : Type 0} → Result A Refusal → ℕ
refusal_number (Ok a) = 0
refusal_number (Err refusal) = number_of refusal
