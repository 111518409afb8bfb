-- `by_walk` meets its contract: by the walk's number.
use Rattle.reports.specs.Rows.{Rows, rows}
use Rattle.request.specs.Request.{asked}
use Rattle.noterank.proofs.Numbers.{skipping-by, plain_by}
use Rattle.noterank.proofs.by_walk.Goals as goal
use Rattle.noterank.proofs.by_walk.Goals.{After-plain, After-run, Start}

-- the rows as they were lent, and as a run or a scan leaves them
abbrev lent : Start → Rows
lent a = rows a.args.documents.now a.args.scores.now

abbrev skipped : After-run → Rows
skipped r = rows r.run.new.documents r.run.new.scores

abbrev scanned : After-plain → Rows
scanned r = rows r.plain.new.documents r.plain.new.scores

pub returns-then-walk-eq0 : goal.returns-then-walk-eq0
returns-then-walk-eq0 c =
    skipping-by (asked c.args.file.now c.args.query.now c.args.mode c.args.scoring c.args.rule c.args.script.now) (lent (goal.at.returns-then-walk-eq0 c).Start) (skipped (goal.at.returns-then-walk-eq0 c).After-run) c.run.result c.args.walk c.if-walk-eq0.true c.run.ensures

pub returns : goal.returns
returns c =
    plain_by (asked c.args.file.now c.args.query.now c.args.mode c.args.scoring c.args.rule c.args.script.now) (lent (goal.at.returns c).Start) (scanned (goal.at.returns c).After-plain) c.plain.result c.args.walk c.if-walk-eq0.false c.plain.ensures
