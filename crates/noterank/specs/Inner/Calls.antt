-- What the functions below `noterank_run` answer.
use Rattle.std.specs.Prelude.{cond, ◌&&◌, List, ℕ, zero, suc, leb}
use Rattle.notefile.specs.Refusal.{first_refusal, file_refusal}
use Rattle.notefile.specs.Inner.Order.{or_else}
use Rattle.reports.specs.Rows.{Rows}
use Rattle.request.specs.Request.{Request, query_tests}
use Rattle.arguments.specs.Numbers.{mode_at}
use Rattle.outcome.specs.declared.Outcome.{Outcome}
use Rattle.ranking.specs.Answers.{PlainIs, RunIs}

-- the refusal of a number outside its range, or 0 where there is none
abbrev pub numbers_refusal : List ℕ → List ℕ → ℕ → ℕ → ℕ → ℕ → ℕ
numbers_refusal file query walk mode scoring rule =
    cond (leb walk 1 && leb mode 2)
    (cond (leb scoring 1 && leb rule 1) 0 (or_else (first_refusal (query_tests file query (mode_at mode))) 11))
    (or_else (file_refusal file) 10)

-- the run of a walk
abbrev pub OutcomeBy : ℕ → Request → Rows → Outcome → Rows → Type 0
OutcomeBy zero q old r new = RunIs q old r new
OutcomeBy (suc n) q old r new = PlainIs q old r new
