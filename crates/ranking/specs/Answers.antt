-- 01's table, whole: what a run returns, and what it leaves in its rows.
use Rattle.std.specs.Prelude.{◌≡◌, List, [], ℕ, zero, suc, length, Float}
use Rattle.route.specs.Report.{Report}
use Rattle.route.specs.Rule as rules
use Rattle.route.specs.Rule.{limited}
use Rattle.reports.specs.Rows.{Rows, rows_of, Written}
use Rattle.request.specs.Request.{Request, refusal_of}
use Rattle.request.specs.Lists.{plain_list, SkippingList}
use Rattle.outcome.specs.Outcomes.{number_of, count_of}
use Rattle.outcome.specs.declared.Outcome.{Outcome}

-- refused with a number from 1 to 11 there is no row; else the run's list, as far as n rows go
abbrev pub answer : ℕ → ℕ → List (Report Float) → rules.Outcome Float
answer zero n list = limited n list
answer (suc r) n list = record { code = suc r; rows = [] }

-- the reports stand in the first of the rows that were lent, and every cell behind them is as it was
abbrev pub WrittenIn : List (Report Float) → Rows → Rows → Type 0
WrittenIn reports old new = Written reports old.documents old.scores new.documents new.scores

-- a run has an answer, as its outcome's number and count, which no other outcome has, and in its rows
pub record Answered (a : rules.Outcome Float) (old : Rows) (r : Outcome) (new : Rows) : Type 0 where
  pub number_is : number_of r ≡ a.code
  pub count-is : count_of r ≡ length a.rows
  pub written : WrittenIn a.rows old new

module _ (q : Request) where
  -- its answer, of a list, in rows
  abbrev pub answer_of : List (Report Float) → Rows → rules.Outcome Float
  answer_of list old = answer (refusal_of q) (rows_of old.documents old.scores) list

  -- a skipping run: where it is not refused, the list is the route's
  pub record RunIs (old : Rows) (r : Outcome) (new : Rows) : Type 0 where
    pub list : List (Report Float)
    pub by-route : refusal_of q ≡ 0 → SkippingList q list
    pub answered : Answered (answer_of list old) old r new

  -- a plain run
  abbrev pub PlainIs : Rows → Outcome → Rows → Type 0
  PlainIs old r new = Answered (answer_of (plain_list q) old) old r new
