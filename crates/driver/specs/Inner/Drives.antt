-- What the loop leaves that drives the machine.
use Rattle.std.specs.Prelude.{Bool, List, ℕ, Float}
use Rattle.reports.specs.Inner.Runs.{Ran}
use Rattle.term_scorer.specs.declared.score.Leg.{Leg}
use Rattle.term_scorer.specs.declared.score.Similarity.{Similarity}
use Rattle.machine.specs.Inner.Places.{machine_from}
use Rattle.machine.specs.Inner.Stands.{Tables, place_in, StandsIn}
use Rattle.machine.specs.declared.Machine.{Machine}
use Rattle.driver.specs.declared.Driven.{Driven}
use Rattle.machine.specs.declared.Task.{Task}

-- a leg as far as the next report: as many turns as may be
abbrev pub leg_to : Similarity → Float → Leg
leg_to similarity threshold = record { similarity = similarity; threshold = threshold; turns = 18446744073709551615 }

-- a run as it stopped
abbrev pub stopped_as : Machine → Bool → ℕ → Driven
stopped_as m full count = record { machine = m; full = full; count = count }

-- the run is over, or no row was left for a report: it stands where the route does then, and the rows have the reports
pub record Drives (file : List ℕ) (script : List Float) (lists : List (List ℕ)) (norms : List (List Float)) (task : Task)
    (old : Tables) (documents₀ : List ℕ) (scores₀ : List Float) (new : Tables) (documents : List ℕ) (scores : List Float) (r : Driven) : Type 0 where
  pub stands : StandsIn file task.similarity lists norms new r.machine
  pub ran : Ran (machine_from (place_in file task.similarity lists norms old task.machine)) task.rule script documents₀ scores₀
      r.full r.count documents scores (place_in file task.similarity lists norms new r.machine)
