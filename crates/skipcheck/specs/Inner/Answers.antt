-- The answer about a list's skip entries.
use Rattle.std.specs.Prelude.{Bool, true, false, ℕ, Result, Ok, Err}
use Rattle.outcome.specs.declared.refusal.Refusal.{Refusal}
use Rattle.outcome.specs.declared.refusal.Refusal.TheVariants.{Skips}

-- where the tail starts, if the skip entries are right
abbrev pub tail_or : Bool → ℕ → Result ℕ Refusal
tail_or true at = Ok at
tail_or false at = Err Skips
