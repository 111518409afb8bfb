-- What the run of a request that was let through leaves.
use Rattle.std.specs.Prelude.{List, Float}
use Rattle.route.specs.Report.{Report}
use Rattle.route.specs.Rule.{limited}
use Rattle.reports.specs.Rows.{Rows, rows_of}
use Rattle.request.specs.Request.{Request}
use Rattle.outcome.specs.declared.Outcome.{Outcome}
use Rattle.beginning.specs.Inner.Begins.{ListFor}
use Rattle.beginning.specs.declared.Way.{Way}
use Rattle.ranking.specs.Answers.{Answered}

-- the run has its list's answer, as far as the rows go
pub record Listed (way : Way) (q : Request) (old : Rows) (r : Outcome) (new : Rows) : Type 0 where
  pub list : List (Report Float)
  pub list-for : ListFor way q list
  pub answered : Answered (limited (rows_of old.documents old.scores) list) old r new
