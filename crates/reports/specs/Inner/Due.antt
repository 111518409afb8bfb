-- The report of a turn, as the route has it.
use Rattle.std.specs.Prelude.{Some, None, ℕ, Float}
use Rattle.std.specs.Prelude as prelude
use Rattle.std.proofs.Math.Option.{Option, none, some}
use Rattle.route.specs.Report.{Report}

-- a document with its score, or none
abbrev pub due_of : prelude.Option (ℕ × Float) → Option (Report Float)
due_of None = none
due_of (Some r) = some (record { doc = r.0; score = r.1 })
