-- What a skipping run of any mode leaves: the route's place, and its reports in the rows.
use Rattle.std.specs.Prelude.{◌≡◌, Bool, true, false, cond, List, [], ℕ, suc, length, Float}
use Rattle.std.proofs.Math.Option.{some}
use Rattle.route.specs.F32.{f32}
use Rattle.route.specs.Report.{Report, Callback}
use Rattle.route.specs.Rule.{Outcome, ruled}
use Rattle.route.specs.Cursor.{Cursor}
use Rattle.route.specs.Scorer.{Scorer}
use Rattle.route.specs.Route.{Route, Run, after}
use Rattle.rule.specs.Rules.{rule_of, start_of}
use Rattle.rule.specs.declared.Rule.{Rule}
use Rattle.rule.specs.declared.Threshold.{Threshold}
use Rattle.reports.specs.Rows.{rows_of, Written}
use Rattle.reports.specs.Inner.Rows.{Kept}

-- the rule in the place of the Rust's callback
abbrev pub callback_of : Rule → List Float → Callback Float
callback_of rule script = ruled f32 (rule_of rule script) (start_of rule)

-- a scorer of the route stands on the cursor of its slot
abbrev pub AtRest : (ℕ → Cursor) → Scorer Float → Type 0
AtRest cursor s = s.cur ≡ cursor s.ord

module _ (W : Route Float) (rule : Rule) (script : List Float) where
  -- the route after a number of steps, from no report
  abbrev pub run_after : ℕ → Run W.Place (List (Report Float))
  run_after n = after (callback_of rule script) W [] n

  -- where a run may stop: at the route's end, or where a report is due and every row is full (01's table, code 12)
  abbrev pub Stopped : Bool → ℕ → Run W.Place (List (Report Float)) → Type 0
  Stopped false n u = W.ended u.place ≡ true
  Stopped true n u =
      (length u.state ≡ n) × ((x : Report Float) × ((W.turn ((callback_of rule script).threshold u.state) u.place).due ≡ some x))

  module _ (documents₀ : List ℕ) (scores₀ : List Float) where
    -- a run on its way: some steps of the route lead to `place`, and rows and threshold are what they leave
    pub record Going (t : Threshold) (best : List Float) (documents : List ℕ) (values : List Float) (place : W.Place) : Type 0 where
      pub steps : ℕ
      pub place_is : (run_after steps).place ≡ place
      pub kept : Kept rule script (run_after steps).state documents₀ scores₀ t best documents values

    -- A run that has returned, with `count` reports. Where every row was full it stands behind the turn whose report has no row.
    pub record Ran (full : Bool) (count : ℕ) (documents : List ℕ) (values : List Float) (place : W.Place) : Type 0 where
      pub steps : ℕ
      pub place_is : (run_after (cond full (suc steps) steps)).place ≡ place
      pub written : Written (run_after steps).state documents₀ scores₀ documents values
      pub count-is : count ≡ length (run_after steps).state
      pub stopped : Stopped full (rows_of documents₀ scores₀) (run_after steps)

-- 01's table: 12 where the rows were full, else 0, with the reports
abbrev pub outcome_of : Bool → List (Report Float) → Outcome Float
outcome_of full rs = record { code = cond full 12 0; rows = rs }
