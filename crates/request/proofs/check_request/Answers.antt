-- `check_request` meets its contract: rows 1 to 10, then the rule.
use mathlib.Core.Path.{sym, ap, ◌∙◌}
use Rattle.std.proofs.lemmas.Result.{err_from_is_err_and}
use Rattle.outcome.specs.Refusals.{refusal_number}
use Rattle.outcome.proofs.ByNumber.{no-refusal}
use Rattle.request.specs.Request.{Request, asked}
use Rattle.request.proofs.Requests.{first-refused, rule-refused, not-refused}
use Rattle.request.proofs.check_request.Goals as goal
use Rattle.request.proofs.check_request.Goals.{After-check_query}

abbrev request : After-check_query → Request
request c =
    let a = c.args in
    asked a.file.now a.query.now a.mode a.scoring a.rule a.script.now

pub returns-in_err-check_query : goal.returns-in_err-check_query
returns-in_err-check_query c =
    let p = err_from_is_err_and c.from_residual.result c.from_residual.ensures.1 in
    rw (p.1, p.2) (first-refused (request (goal.at.returns-in_err-check_query c).After-check_query) (ap refusal_number (sym c.in_err-check_query.was) ∙ c.check_query.ensures) (no-refusal c.in_err-check_query.field-0.0).0)

pub returns-then-rule_right : goal.returns-then-rule_right
returns-then-rule_right c =
    not-refused (request (goal.at.returns-then-rule_right c).After-check_query) c.check_query.ensures (ap refusal_number c.in_ok-check_query.was) (sym c.rule_right.ensures ∙ c.if-rule_right.true)

pub returns-else-rule_right : goal.returns-else-rule_right
returns-else-rule_right c =
    rule-refused (request (goal.at.returns-else-rule_right c).After-check_query) c.check_query.ensures (ap refusal_number c.in_ok-check_query.was) (sym c.rule_right.ensures ∙ c.if-rule_right.false)
