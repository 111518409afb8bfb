-- `skipping::run` meets its contract: refused with the first refusal's number, or the route's run of a request that is not.
use mathlib.Core.Path.{sym, ap, ◌∙◌}
use Rattle.outcome.specs.Refusals.{refusal_number}
use Rattle.reports.specs.Rows.{rows}
use Rattle.request.specs.Request.{Request, asked}
use Rattle.ranking.proofs.Answering.{refused-run, let-run}
use Rattle.ranking.proofs.skipping.run.Goals as goal
use Rattle.ranking.proofs.skipping.run.Goals.{Start}

-- what was asked
abbrev request : Start → Request
request a = asked a.args.file.now a.args.query.now a.args.mode a.args.scoring a.args.rule a.args.script.now

pub returns-in-Err : goal.returns-in-Err
returns-in-Err c =
    refused-run (request (goal.at.returns-in-Err c).Start) (rows c.args.documents.now c.args.scores.now) c.in-Err.refusal c.in-Err.ensures

pub answer-requires : goal.answer-requires
answer-requires c = sym c.check_request.ensures ∙ ap refusal_number c.in_default.is

pub returns : goal.returns
returns c =
    let-run (request (goal.at.returns c).Start) (sym c.check_request.ensures ∙ ap refusal_number c.in_default.is) {old = rows c.args.documents.now c.args.scores.now} {new = rows c.answer.new.documents c.answer.new.scores} c.answer.ensures
