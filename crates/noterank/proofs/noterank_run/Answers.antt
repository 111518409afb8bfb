-- `noterank_run` meets its contract: the numbers first, then the walk's run.
use mathlib.Core.Path.{refl, sym, ◌∙◌}
use native.Mathlib.Omega.{arith}
use Rattle.outcome.proofs.ByNumber.{no-refusal}
use Rattle.reports.specs.Rows.{Rows, rows}
use Rattle.request.specs.Request.{asked}
use Rattle.noterank.specs.Interface.{Call}
use Rattle.noterank.proofs.Numbers.{refused-ranked, walk-ranked, few-by}
use Rattle.noterank.proofs.noterank_run.Goals as goal
use Rattle.noterank.proofs.noterank_run.Goals.{After-by_walk-outcome, Start}

abbrev call : Start → Call
call a = record {
  file = a.args.file.now;
  query = a.args.query.now;
  walk = a.args.walk;
  mode = a.args.mode;
  scoring = a.args.scoring;
  rule = a.args.rule;
  start = a.args.start;
  k = a.args.k;
  script = a.args.script.now;
}

-- the rows as they were lent, and as the walk leaves them
abbrev lent : Start → Rows
lent a = rows a.args.documents.now a.args.scores.now

abbrev left_by : After-by_walk-outcome → Rows
left_by b = rows b.by_walk-outcome.new.documents b.by_walk-outcome.new.scores

pub returns-in-Err : goal.returns-in-Err
returns-in-Err c =
    refused-ranked (call (goal.at.returns-in-Err c).Start) (lent (goal.at.returns-in-Err c).Start) (c.number.ensures ∙ c.in-Err.ensures) (λ z. (no-refusal c.in-Err.refusal).0 (sym c.number.ensures ∙ z))

pub short-requires : goal.short-requires
short-requires c =
    let few =
    few-by (asked c.args.file.now c.args.query.now c.mode_at.result c.scoring_at.result c.rule_at.result c.args.script.now) (lent (goal.at.short-requires c).Start) (left_by (goal.at.short-requires c).After-by_walk-outcome) c.by_walk-outcome.result
    (λ k. (c.type_inv.file k).fits) c.args.walk c.by_walk-outcome.ensures in
    omega (arith, c.count.ensures, few)

pub returns : goal.returns
returns c =
    walk-ranked (call (goal.at.returns c).Start) c.mode_at.ensures c.scoring_at.ensures c.rule_at.ensures (lent (goal.at.returns c).Start) (left_by (goal.at.returns c).After-by_walk-outcome) c.in_default.ensures refl c.by_walk-outcome.result c.by_walk-outcome.ensures
    c.number-2.ensures (c.short.ensures ∙ c.count.ensures)
