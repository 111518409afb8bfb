-- A mode's turns are the machine's, and a route that the machine runs leaves the same list.
use mathlib.Core.Path.{◌≡◌, refl, sym, ap, ◌∙◌}
use mathlib.Core.Bool.{Bool}
use mathlib.Core.List.{List}
use mathlib.Core.Option.{Option}
use Prim.Native.Nat.{ℕ, zero, suc}
use lib.Ieee.{Float}
use Rattle.route.specs.Report.{Callback, reported}
use Rattle.route.specs.F32.{f32}
use Rattle.route.specs.Scorer.{Scorer}
use Rattle.route.specs.Route.{Ends, Route, Run, Turn, after}
use Rattle.route.specs.Single.{block_wand_single_scorer}
use Rattle.route.specs.Union.{pivot_route}
use Rattle.route.specs.Intersection.{leader_route}
use Rattle.route.proofs.Ending.{Stays}
use Rattle.route.proofs.Single.Ends.{single-stays}
use Rattle.route.proofs.Union.Ends.{union-stays}
use Rattle.route.proofs.Intersection.Ends.{intersection-stays}
use Rattle.reports.specs.Inner.Turns.{after_turns, Silent, Went}
use Rattle.reports.specs.declared.Event.{Event}
use Rattle.reports.specs.declared.Event.TheVariants.{Over, Paused, Report}
use Rattle.plain_scan.specs.Inner.Turns.{scan_route}
use Rattle.plain_scan.proofs.Ending.{scan-stays}
use Rattle.machine.specs.Inner.Places.{Place, among, intersection, machine_from, over_in, plain, Runs, single, turn_in, union}

-- ---- the four modes

abbrev pub runs-union : (ss : List (Scorer Float)) → Runs (pivot_route 128 f32 ss) (union (pivot_route 128 f32 ss).first)
runs-union ss = record { place = union; first-is = refl; turn_is = λ t x. refl; over-is = λ x. refl }

abbrev pub runs-single : (s : Scorer Float) → Runs (block_wand_single_scorer 128 f32 s) (single s (block_wand_single_scorer 128 f32 s).first)
runs-single s = record { place = single s; first-is = refl; turn_is = λ t x. refl; over-is = λ x. refl }

abbrev pub runs-intersection : (ld : Scorer Float) (ss : List (Scorer Float)) → Runs (leader_route 128 f32 ld ss) (intersection (leader_route 128 f32 ld ss).first)
runs-intersection ld ss = record { place = intersection; first-is = refl; turn_is = λ t x. refl; over-is = λ x. refl }

abbrev pub runs-plain : (hits : ℕ → Option Float) → Runs (scan_route hits) (plain hits 0)
runs-plain hits = record { place = plain hits; first-is = refl; turn_is = λ t x. refl; over-is = λ x. refl }

-- at its end it stays
pub machine-stays : (p : Place) → Stays (machine_from p)
machine-stays p t (union u) e = ap (among union) (union-stays 128 f32 t u e)
machine-stays p t (single s x) e = ap (among (single s)) (single-stays 128 f32 s t x e)
machine-stays p t (intersection u) e = ap (among intersection) (intersection-stays 128 f32 t u e)
machine-stays p t (plain hits d) e = ap (among (plain hits)) (scan-stays hits t d e)

-- ---- a route that it runs

module _ {W : Route Float} {p : Place} (R : Runs W p) where
  module _ (t : Float) (x : W.Place) where
    abbrev at : ℕ → W.Place
    at n = after_turns W.turn W.ended t x n

    after_is : (n : ℕ) → after_turns turn_in over_in t (R.place x) n ≡ R.place (at n)
    after_is zero = refl
    after_is (suc n) = ap (λ (z : Place). (turn_in t z).next) (after_is n) ∙ ap (λ (u : Turn Place Float). u.next) (R.turn_is t (at n))

    over-at : (n : ℕ) {b : Bool} → W.ended (at n) ≡ b → over_in (after_turns turn_in over_in t (R.place x) n) ≡ b
    over-at n e = ap over_in (after_is n) ∙ R.over-is (at n) ∙ e

    due-at : (n : ℕ) {o : Option (Rattle.route.specs.Report.Report Float)} → (W.turn t (at n)).due ≡ o → (turn_in t (after_turns turn_in over_in t (R.place x) n)).due ≡ o
    due-at n e = ap (λ (z : Place). (turn_in t z).due) (after_is n) ∙ ap (λ (u : Turn Place Float). u.due) (R.turn_is t (at n)) ∙ e

    silent-at : (n : ℕ) → Silent W.turn W.ended t x n → Silent turn_in over_in t (R.place x) n
    silent-at n s k h = (over-at k (s k h).0, due-at k (s k h).1)

    -- its turns
    pub went-in : {turns taken : ℕ} {y : W.Place} (event : Event) → Went W.turn W.ended t x turns taken y event → Went turn_in over_in t (R.place x) turns taken (R.place y) event
    went-in {taken = taken} (Report d v) w = record {
      place_is = ap R.place w.place_is ∙ sym (after_is taken);
      few = w.few;
      stood = let s = w.stood in (s.0, s.1, silent-at s.0 s.2, over-at s.0 s.3, due-at s.0 s.4);
    }
    went-in {taken = taken} Over w = record {
      place_is = ap R.place w.place_is ∙ sym (after_is taken);
      few = w.few;
      stood = (silent-at taken w.stood.0, over-at taken w.stood.1);
    }
    went-in {taken = taken} Paused w = record {
      place_is = ap R.place w.place_is ∙ sym (after_is taken);
      few = w.few;
      stood = (silent-at taken w.stood.0, over-at taken w.stood.1, w.stood.2);
    }

  -- AND ITS LIST
  module _ (K : Callback Float) where
    run_is : (r : K.State) (n : ℕ) → after K (machine_from p) r n ≡ record { place = R.place (after K W r n).place; state = (after K W r n).state }
    run_is r zero = ap (λ (z : Place). record { place = z; state = r }) R.first-is
    run_is r (suc n) =
        let u = after K W r n in
        let t = K.threshold u.state in
        rw (run_is r n) (ap (λ (v : Turn Place Float). record { place = v.next; state = reported K v.due u.state }) (R.turn_is t u.place))

    pub ends-in : (r list : K.State) → Ends K W r list → Ends K (machine_from p) r list
    ends-in r list E =
        let e = run_is r E.steps in
        record {
          steps = E.steps;
          ended = ap (λ (u : Run Place K.State). over_in u.place) e ∙ R.over-is (after K W r E.steps).place ∙ E.ended;
          leaves = ap (λ (u : Run Place K.State). u.state) e ∙ E.leaves;
        }
