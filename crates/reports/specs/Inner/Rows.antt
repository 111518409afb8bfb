-- What a run keeps beside its rows.
use Rattle.std.specs.Prelude.{◌≡◌, List, [], ◌∷◌, ◌++◌, ℕ, set, Float}
use Rattle.route.specs.Report.{Report}
use Rattle.route.specs.Rule.{scores}
use Rattle.rule.specs.Inner.Follows.{Follows}
use Rattle.rule.specs.declared.Rule.{Rule}
use Rattle.rule.specs.declared.Threshold.{Threshold}
use Rattle.reports.specs.Rows.{Written}

-- reports stand in the rows, and the threshold is the rule's after them, with the best scores in their array
pub record Kept (rule : Rule) (script : List Float) (rs : List (Report Float)) (documents₀ : List ℕ) (scores₀ : List Float)
    (t : Threshold) (best : List Float) (documents : List ℕ) (values : List Float) : Type 0 where
  pub written : Written rs documents₀ scores₀ documents values
  pub follows : Follows rule script (scores rs) t best

-- what `report` leaves: one cell of each buffer is written, in the row after the reports so far, and the threshold has followed
pub record Reported (rule : Rule) (script : List Float) (doc : ℕ) (score : Float) (t : Threshold) (old : List Float) (documents₀ : List ℕ)
    (scores₀ : List Float) (r : Threshold) (new : List Float) (documents : List ℕ) (values : List Float) : Type 0 where
  pub documents-are : documents ≡ set documents₀ t.reports doc
  pub scores-are : values ≡ set scores₀ t.reports score
  pub follows : (before : List Float) → Follows rule script before t old → Follows rule script (before ++ (score ∷ [])) r new
