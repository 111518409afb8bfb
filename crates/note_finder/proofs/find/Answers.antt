-- `find` meets its contract: refused before 14, with 14, or as the run is.
use native.Mathlib.Omega.{arith}
use Rattle.reports.specs.Rows.{Rows, rows}
use Rattle.note_finder.specs.Found.{Sought, sought}
use Rattle.note_finder.proofs.Finding.{refused-14, refused-first}
use Rattle.note_finder.proofs.find.Goals as goal
use Rattle.note_finder.proofs.find.Goals.{Start}

-- what is sought, and the rows as they were lent
abbrev sought-at : Start → Sought
sought-at a = sought a.args.file.now a.args.query.now a.args.mode a.args.scoring a.args.start a.args.k

abbrev reports : Start → Rows
reports a = rows a.args.reported.now a.args.values.now

abbrev notes : Start → Rows
notes a = rows a.args.documents.now a.args.scores.now

pub returns-in-Err : goal.returns-in-Err
returns-in-Err c =
    refused-first (sought-at (goal.at.returns-in-Err c).Start) (reports (goal.at.returns-in-Err c).Start) (notes (goal.at.returns-in-Err c).Start) c.in-Err.refusal c.in-Err.ensures

pub returns-in-Ok : goal.returns-in-Ok
returns-in-Ok c =
    refused-14 (sought-at (goal.at.returns-in-Ok c).Start) (reports (goal.at.returns-in-Ok c).Start) (notes (goal.at.returns-in-Ok c).Start) c.in-Ok.ensures (omega (arith, c.rows.ensures, c.if-rows-k.true))

pub best_of_run-requires : goal.best_of_run-requires
best_of_run-requires c =
    omega (arith, c.rows.ensures, c.if-rows-k.false)
