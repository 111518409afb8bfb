-- `best_of_run` meets its contract: by the run's outcome, from its contract alone.
use Rattle.reports.specs.Rows.{Rows, rows}
use Rattle.note_finder.specs.Found.{Sought, sought}
use Rattle.note_finder.proofs.Finding.{done, full, not-run, readable}
use Rattle.note_finder.proofs.best_of_run.Goals as goal
use Rattle.note_finder.proofs.best_of_run.Goals.{Start}

-- what is sought, and the rows as they were lent
abbrev sought-at : Start → Sought
sought-at a = sought a.args.file.now a.args.query.now a.args.mode a.args.scoring a.args.start a.args.k

abbrev reports : Start → Rows
reports a = rows a.args.reported.now a.args.values.now

abbrev notes : Start → Rows
notes a = rows a.args.documents.now a.args.scores.now

pub gather-m-requires : goal.gather-m-requires
gather-m-requires c =
    let w = readable (sought-at (goal.at.gather-m-requires c).Start) (reports (goal.at.gather-m-requires c).Start) (notes (goal.at.gather-m-requires c).Start) c.requires c.run-r.ensures (λ k. (c.shared_slice_known-1.given k).fits) c.in-Done.is in
    (w.0, w.1, c.requires, w.2)

pub returns-in-Done : goal.returns-in-Done
returns-in-Done c =
    done (sought-at (goal.at.returns-in-Done c).Start) (reports (goal.at.returns-in-Done c).Start) (notes (goal.at.returns-in-Done c).Start) c.requires c.run-r.ensures (λ k. (c.shared_slice_known-1.given k).fits) c.in-Done.is c.gather-m.ensures

pub returns-in-Full : goal.returns-in-Full
returns-in-Full c =
    full (sought-at (goal.at.returns-in-Full c).Start) (reports (goal.at.returns-in-Full c).Start) (notes (goal.at.returns-in-Full c).Start) c.requires c.run-r.ensures c.in-Full.is

pub returns-in-Refused : goal.returns-in-Refused
returns-in-Refused c =
    not-run (sought-at (goal.at.returns-in-Refused c).Start) (reports (goal.at.returns-in-Refused c).Start) (notes (goal.at.returns-in-Refused c).Start) c.requires c.run-r.ensures c.in-Refused.is
