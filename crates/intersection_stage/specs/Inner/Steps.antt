-- From a stage to the next, with a report or without.
use Rattle.std.specs.Prelude.{Bool, false, true, Some, None, ℕ, Float}
use Rattle.std.specs.Prelude as prelude
use Rattle.intersection_candidate.specs.declared.candidate.Posting.{Posting}
use Rattle.intersection_candidate.specs.declared.leader.Candidates.{Candidates}
use Rattle.intersection_stage.specs.declared.Intersection.{Intersection}
use Rattle.intersection_stage.specs.declared.Stage.{Stage}
use Rattle.intersection_stage.specs.declared.Stage.TheVariants.{Called, Early, Over, Window, Within}
use Rattle.reports.specs.declared.Step.{Step}

-- the run has returned
abbrev pub over_in : Stage → Bool
over_in Early = false
over_in Window = false
over_in (Within c) = false
over_in (Called c) = false
over_in Over = true

-- a run with another document and stage
abbrev pub moved_to : Intersection → ℕ → Stage → Intersection
moved_to v d stage = record { len = v.len; doc = d; max_sum = v.max_sum; stage = stage }

-- a turn without a report
abbrev pub quietly : Intersection → ℕ → Stage → Step Intersection
quietly v d stage = record { to = moved_to v d stage; due = None }

-- behind a candidate that was tried
abbrev pub behind_candidate : Intersection → Candidates → Posting → prelude.Option Float → Step Intersection
behind_candidate v c p None = quietly v v.doc (Within c)
behind_candidate v c p (Some score) = record { to = moved_to v v.doc (Called c); due = Some (p.doc, score) }
