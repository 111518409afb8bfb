-- `both::both` meets its contract: each run has its own, and demand 3 follows from the two.
use Rattle.reports.specs.Rows.{rows}
use Rattle.request.specs.Request.{asked}
use Rattle.ranking.proofs.Demand.{both_hold}
use Rattle.ranking.proofs.both.both.Goals as goal

pub returns : goal.returns
returns c =
    both_hold (asked c.args.file.now c.args.query.now c.args.mode c.args.scoring c.args.rule c.args.script.now) (λ k. (c.type_inv.file k).fits)
    c.args.plain_start c.restart-other.ensures {old = rows c.args.documents.now c.args.scores.now}
    {old' = rows c.args.plain_documents.now c.args.plain_scores.now} {new = rows c.run-skipping.new.documents c.run-skipping.new.scores} {new' = rows c.plain-scanned.new.documents c.plain-scanned.new.scores} c.run-skipping.ensures c.plain-scanned.ensures
