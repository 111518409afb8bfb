-- `noterank_find` meets its contract: the numbers first, then the finder.
use mathlib.Core.Path.{refl, sym, ◌∙◌}
use native.Mathlib.Omega.{arith}
use Rattle.outcome.proofs.ByNumber.{no-refusal}
use Rattle.reports.specs.Rows.{Rows, rows}
use Rattle.note_finder.specs.Found.{sought}
use Rattle.noterank.proofs.Finder.{few-found, found-by, refused-found}
use Rattle.noterank.proofs.noterank_find.Goals as goal
use Rattle.noterank.proofs.noterank_find.Goals.{Start}

-- the rows as they were lent
abbrev reports : Start → Rows
reports a = rows a.args.report_documents.now a.args.report_scores.now

abbrev notes : Start → Rows
notes a = rows a.args.documents.now a.args.scores.now

pub returns-in-Err : goal.returns-in-Err
returns-in-Err c =
    refused-found c.args.file.now c.args.query.now c.args.mode c.args.scoring c.args.start c.args.k (reports (goal.at.returns-in-Err c).Start) (notes (goal.at.returns-in-Err c).Start)
    (c.number.ensures ∙ c.in-Err.ensures) (λ z. (no-refusal c.in-Err.refusal).0 (sym c.number.ensures ∙ z))

pub short-requires : goal.short-requires
short-requires c =
    let few = few-found (sought c.args.file.now c.args.query.now c.mode_at.result c.scoring_at.result c.args.start c.args.k) c.find-outcome.ensures in
    omega (arith, c.count.ensures, few, c.ranges.k.fits)

pub returns : goal.returns
returns c =
    found-by c.args.file.now c.args.query.now c.args.mode c.args.scoring c.args.start c.args.k (reports (goal.at.returns c).Start) (notes (goal.at.returns c).Start) c.mode_at.ensures c.scoring_at.ensures
    c.in_default.ensures refl c.find-outcome.ensures c.number-2.ensures (c.short.ensures ∙ c.count.ensures)
