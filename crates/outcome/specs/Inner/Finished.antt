-- The outcome of a run that was let through.
use Rattle.std.specs.Prelude.{Bool, cond, ℕ}
use Rattle.outcome.specs.declared.Outcome.{Outcome}
use Rattle.outcome.specs.declared.Outcome.TheVariants.{Done, Full}

-- its rows were enough, or they were not
abbrev pub finished : Bool → ℕ → Outcome
finished full count = cond full (Full count) (Done count)
