-- A run goes its route: begun, on by turns up to a report, and its two ends; what it leaves is 01's outcome of its list.
use mathlib.Core.Path.{◌≡◌, refl, sym, ap, ◌∙◌, subst}
use mathlib.Core.Bool.{Bool, true, false}
use mathlib.Core.List.{List, []}
use mathlib.Core.Option.{none, some}
use Prim.Native.Nat.{ℕ, zero, suc, ◌+◌, ◌≤◌, ◌<◌}
use native.Mathlib.Omega.{arith}
use lib.ListN.{length}
use lib.Ieee.{Float}
use borrow.Author.Tests.{le-leb}
use Rattle.route.specs.Report as route
use Rattle.route.specs.Rule.{limited}
use Rattle.route.specs.Route.{Route, Turn, Ends}
use Rattle.route.specs.F32.{f32}
use Rattle.route.proofs.Ending.{Nears, Stays, one_end}
use Rattle.route.proofs.Rows.{route-full}
use Rattle.rule.specs.Rules.{rule_of, start_of}
use Rattle.rule.specs.Inner.Follows.{Follows}
use Rattle.rule.specs.declared.Rule.{Rule}
use Rattle.rule.specs.declared.Threshold.{Threshold}
use Rattle.reports.specs.Rows.{rows_of}
use Rattle.reports.specs.Inner.Rows.{Reported}
use Rattle.reports.specs.Inner.Turns.{after_turns, Silent, Went}
use Rattle.reports.specs.Inner.Runs.{callback_of, run_after, Going, Ran, outcome_of}
use Rattle.reports.specs.declared.Event.{Event}
use Rattle.reports.specs.declared.Event.TheVariants.{Over, Paused, Report}
use Rattle.reports.proofs.RowLaws.{begun, threshold-is, count-is, one_more}

-- turns of a route keep what it keeps, and bring it nearer to its end
module _ (W : Route Float) {Kept : W.Place → Type 0} {cost : W.Place → ℕ} (N : Nears W Kept cost) (t : Float) (p : W.Place) where
  abbrev at : ℕ → W.Place
  at n = after_turns W.turn W.ended t p n

  abbrev Near : ℕ → W.Place → Type 0
  Near n q = Kept q × (n + cost q ≤ cost p)

  silent-near : (n : ℕ) → Kept p → Silent W.turn W.ended t p n → Near n (at n)
  silent-near zero k s = (k, omega arith)
  silent-near (suc n) k s =
      let z = silent-near n k (λ i h. s i (omega arith)) in
      let m = N.nears t (at n) (s n (omega arith)).0 z.0 in
      (m.0, omega (arith, m.1, z.1))

  -- by each turn that was taken
  pub went-near : {turns taken : ℕ} {q : W.Place} (event : Event) → Kept p → Went W.turn W.ended t p turns taken q event → Near taken q
  went-near {taken = taken} {q = q} (Report d x) k R =
      let s = R.stood in
      let n = s.0 in
      let z = silent-near n k s.2 in
      let m = N.nears t (at n) s.3 z.0 in
      let w : Near (suc n) (at (suc n)) = (m.0, omega (arith, m.1, z.1)) in
      subst (Near taken) (sym R.place_is) (subst (λ i. Near i (at i)) (sym s.1) w)
  went-near {taken = taken} Over k R = subst (Near taken) (sym R.place_is) (silent-near taken k R.stood.0)
  went-near {taken = taken} Paused k R = subst (Near taken) (sym R.place_is) (silent-near taken k R.stood.0)

module _ (W : Route Float) (rule : Rule) (script : List Float) (documents₀ : List ℕ) (scores₀ : List Float) where
  abbrev Goes : Threshold → List Float → List ℕ → List Float → W.Place → Type 0
  Goes t best documents values p = Going W rule script documents₀ scores₀ t best documents values p

  -- no step yet
  pub run-begun : {t : Threshold} {best : List Float} → Follows rule script [] t best → Goes t best documents₀ scores₀ W.first
  run-begun f = record { steps = 0; place_is = refl; kept = begun documents₀ scores₀ f }

  module _ {t : Threshold} {best : List Float} {documents : List ℕ} {values : List Float} where
    module _ {p : W.Place} (G : Goes t best documents values p) where
      -- the turn that the route takes next
      turn_is : W.turn ((callback_of rule script).threshold (run_after W rule script G.steps).state) (run_after W rule script G.steps).place ≡ W.turn t.now p
      turn_is = ap (λ (z : W.Place). W.turn ((callback_of rule script).threshold (run_after W rule script G.steps).state) z) G.place_is ∙ ap (λ (z : Float). W.turn z p) (sym (threshold-is G.kept))

      next-is : (run_after W rule script (suc G.steps)).place ≡ (W.turn t.now p).next
      next-is = ap (λ (z : Turn W.Place Float). z.next) turn_is

      -- a turn without a report
      run-quiet : (W.turn t.now p).due ≡ none → Goes t best documents values (W.turn t.now p).next
      run-quiet e = record { steps = suc G.steps; place_is = next-is; kept = rw (turn_is, e) G.kept }

      -- a turn whose report is written and told
      run-reports : {doc : ℕ} {score : Float} {r : Threshold} {new : List Float} {documents' : List ℕ} {values' : List Float}
          → (W.turn t.now p).due ≡ some (record { doc = doc; score = score }) → t.reports < rows_of documents₀ scores₀
          → Reported rule script doc score t best documents values r new documents' values' → Goes r new documents' values' (W.turn t.now p).next
      run-reports e h R = record { steps = suc G.steps; place_is = next-is; kept = rw (turn_is, e) (one_more G.kept h R) }

      -- at the route's end
      run_ends : W.ended p ≡ true → Ran W rule script documents₀ scores₀ false t.reports documents values p
      run_ends e = record {
        steps = G.steps;
        place_is = G.place_is;
        written = G.kept.written;
        count-is = count-is G.kept;
        stopped = ap W.ended G.place_is ∙ e;
      }

      -- a report is due, and every row is full
      run-full : {x : route.Report Float} → (W.turn t.now p).due ≡ some x → t.reports ≡ rows_of documents₀ scores₀
          → Ran W rule script documents₀ scores₀ true t.reports documents values (W.turn t.now p).next
      run-full {x} e h = record {
        steps = G.steps;
        place_is = next-is;
        written = G.kept.written;
        count-is = count-is G.kept;
        stopped = (sym (count-is G.kept) ∙ h, (x, ap (λ (z : Turn W.Place Float). z.due) turn_is ∙ e));
      }

    module _ {p : W.Place} (G : Goes t best documents values p) where
      run-silent : (n : ℕ) → Silent W.turn W.ended t.now p n → Goes t best documents values (after_turns W.turn W.ended t.now p n)
      run-silent zero s = G
      run-silent (suc n) s = run-quiet (run-silent n (λ i h. s i (omega arith))) (s n (omega arith)).1

      behind : {taken : ℕ} {q : W.Place} (n : ℕ) → taken ≡ suc n → q ≡ after_turns W.turn W.ended t.now p taken
          → (W.turn t.now (after_turns W.turn W.ended t.now p n)).next ≡ q
      behind n e f = sym (f ∙ ap (after_turns W.turn W.ended t.now p) e)

      module _ {turns taken : ℕ} {q : W.Place} where
        -- turns up to a report that is written and told
        pub went-reports : {doc : ℕ} {score : Float} {r : Threshold} {new : List Float} {documents' : List ℕ} {values' : List Float} → Went W.turn W.ended t.now p turns taken q (Report doc score)
            → t.reports < rows_of documents₀ scores₀ → Reported rule script doc score t best documents values r new documents' values' → Goes r new documents' values' q
        went-reports {r = r} {new} {documents'} {values'} w h R =
            let s = w.stood in
            subst (Goes r new documents' values') (behind s.0 s.1 w.place_is) (run-reports (run-silent s.0 s.2) s.4 h R)

        -- up to one for which no row is left
        pub went-full : {doc : ℕ} {score : Float} → Went W.turn W.ended t.now p turns taken q (Report doc score) → t.reports ≡ rows_of documents₀ scores₀
            → Ran W rule script documents₀ scores₀ true t.reports documents values q
        went-full w h =
            let s = w.stood in
            subst (Ran W rule script documents₀ scores₀ true t.reports documents values) (behind s.0 s.1 w.place_is)
            (run-full (run-silent s.0 s.2) s.4 h)

        -- up to the end
        pub went-over : Went W.turn W.ended t.now p turns taken q Over → Ran W rule script documents₀ scores₀ false t.reports documents values q
        went-over w =
            subst (Ran W rule script documents₀ scores₀ false t.reports documents values) (sym w.place_is)
            (run_ends (run-silent taken w.stood.0) w.stood.1)

        -- or as many as were allowed
        pub went-paused : Went W.turn W.ended t.now p turns taken q Paused → Goes t best documents values q
        went-paused w = subst (Goes t best documents values) (sym w.place_is) (run-silent taken w.stood.0)

  -- ---- what a run leaves

  module _ {count : ℕ} {documents : List ℕ} {values : List Float} {p : W.Place} where
    -- a run that was not full has its list
    pub whole-list : (R : Ran W rule script documents₀ scores₀ false count documents values p) → Ends (callback_of rule script) W [] (run_after W rule script R.steps).state
    whole-list R = record { steps = R.steps; ended = R.stopped; leaves = refl }

    -- AS 01'S TABLE SAYS: 0 with the whole list, or 12 with its first rows
    pub ran-limited : Stays W → {full : Bool} (R : Ran W rule script documents₀ scores₀ full count documents values p) (list : List (route.Report Float)) → Ends (callback_of rule script) W [] list
        → outcome_of full (run_after W rule script R.steps).state ≡ limited (rows_of documents₀ scores₀) list
    ran-limited still {full = true} R list e =
        let s = R.stopped in
        sym (ap (λ (n : ℕ). limited n list) (sym s.0) ∙ route-full f32 (rule_of rule script) (start_of rule) W still list e R.steps s.1.0 s.1.1)
    ran-limited still {full = false} R list e =
        let rs = (run_after W rule script R.steps).state in
        sym (ap (limited (rows_of documents₀ scores₀)) (one_end W (callback_of rule script) still [] list rs e (whole-list R))
        ∙ rw (le-leb (length rs) (rows_of documents₀ scores₀) R.written.fit))
