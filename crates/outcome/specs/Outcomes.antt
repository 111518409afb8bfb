-- What a run returns: the table's number and count of each outcome.
use Rattle.std.specs.Prelude.{ℕ}
use Rattle.outcome.specs.Refusals as refusals
use Rattle.outcome.specs.declared.Outcome.{Outcome}
use Rattle.outcome.specs.declared.Outcome.TheVariants.{Done, Full, Refused}

abbrev pub number_of : Outcome → ℕ
number_of (Done count) = 0
number_of (Full count) = 12
number_of (Refused refusal) = refusals.number_of refusal

abbrev pub count_of : Outcome → ℕ
count_of (Done count) = count
count_of (Full count) = count
count_of (Refused refusal) = 0
