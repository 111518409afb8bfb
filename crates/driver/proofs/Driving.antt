-- The loop that drives the machine: from report to report the run goes its route, and its rows and threshold are what the reports leave.
use mathlib.Core.Path.{◌≡◌, sym, subst, ◌∙◌}
use mathlib.Core.Bool.{true, false}
use mathlib.Core.List.{List, []}
use Prim.Native.Nat.{ℕ, ◌+◌, ◌≤◌, ◌<◌}
use native.Mathlib.Omega.{arith}
use lib.ListN.{length}
use lib.Ieee.{Float}
use Rattle.route.specs.Route.{Route}
use Rattle.route.proofs.Cases.{lt_of_ne}
use Rattle.rule.specs.Inner.Follows.{Follows}
use Rattle.rule.specs.declared.Threshold.{Threshold}
use Rattle.notefile.specs.Header as header
use Rattle.reports.specs.Rows.{rows_of}
use Rattle.reports.specs.Inner.Rows.{Reported}
use Rattle.reports.specs.Inner.Runs.{Going, Ran}
use Rattle.reports.specs.Inner.Turns.{Went}
use Rattle.reports.specs.declared.Event.{Event}
use Rattle.reports.specs.declared.Event.TheVariants.{Over, Paused, Report}
use Rattle.reports.proofs.RowLaws.{count-is, documents-long, scores-long}
use Rattle.reports.proofs.RunLaws.{run-begun, went-full, went-near, went-over, went-paused, went-reports}
use Rattle.term_scorer.specs.declared.score.Leg.{Leg}
use Rattle.term_scorer.specs.declared.score.Similarity.{Similarity}
use Rattle.machine.specs.Inner.Places.{Place, machine_from, over_in, turn_in}
use Rattle.machine.specs.Inner.Kept.{KeptIn}
use Rattle.machine.specs.Inner.Stands.{Tables, place_in, StandsIn}
use Rattle.notefile.specs.Header.{norm_reader}
use Rattle.machine.specs.Inner.Goes.{GoesOn}
use Rattle.reports.specs.declared.Gone.{Gone}
use Rattle.machine.specs.declared.Machine.{Machine}
use Rattle.machine.proofs.Nearing.{cost_in, machine-nears}
use Rattle.driver.specs.Inner.Drives.{leg_to, stopped_as, Drives}
use Rattle.driver.specs.declared.Driven.{Driven}
use Rattle.machine.specs.declared.Task.{Task}

-- a machine that stands can go on by a leg to its next report
pub for-leg : (file : List ℕ) (lists : List (List ℕ)) (norms : List (List Float)) (s : Similarity) (t : Float) {leg : Leg} → leg ≡ leg_to s t → (old : Tables) (m : Machine)
    → (s.norms ≡ norm_reader file) × StandsIn file s lists norms old m → (leg.similarity.norms ≡ norm_reader file) × StandsIn file leg.similarity lists norms old m
for-leg file lists norms s t e old m S =
    subst (λ (z : Leg). (z.similarity.norms ≡ norm_reader file) × StandsIn file z.similarity lists norms old m) (sym e) S

-- and went on by it
pub by-leg : (file : List ℕ) (lists : List (List ℕ)) (norms : List (List Float)) (s : Similarity) (t : Float) {leg : Leg} → leg ≡ leg_to s t → {old : Tables} {m : Machine} {new : Tables} {r : Gone Machine}
    → GoesOn file leg.similarity lists norms leg.threshold leg.turns old m new r → GoesOn file s lists norms t 18446744073709551615 old m new r
by-leg file lists norms s t e {old} {m} {new} {r} G =
    subst (λ (z : Leg). GoesOn file z.similarity lists norms z.threshold z.turns old m new r) e G

module _ (file : List ℕ) (script : List Float) (lists : List (List ℕ)) (norms : List (List Float)) (task : Task) (old : Tables)
    (documents₀ : List ℕ) (scores₀ : List Float) where
  abbrev at : Tables → Machine → Place
  at h m = place_in file task.similarity lists norms h m

  abbrev W : Route Float
  W = machine_from (at old task.machine)

  abbrev N : ℕ
  N = header.documents file

  -- a run on its way
  pub record Driving (t : Threshold) (best : List Float) (h : Tables) (m : Machine) (documents : List ℕ) (values : List Float) : Type 0 where
    pub stands : StandsIn file task.similarity lists norms h m
    pub going : Going W task.rule script documents₀ scores₀ t best documents values (at h m)
    pub kept : KeptIn N (at h m)

  pub driving-begun : StandsIn file task.similarity lists norms old task.machine → KeptIn N (at old task.machine)
      → {t : Threshold} {best : List Float} → Follows task.rule script [] t best → Driving t best old task.machine documents₀ scores₀
  driving-begun S k f = record { stands = S; going = run-begun W task.rule script documents₀ scores₀ f; kept = k }

  module _ {t : Threshold} {best : List Float} {h : Tables} {m : Machine} {documents : List ℕ} {values : List Float} (D : Driving t best h m documents values) where
    -- a row is left
    pub has-row : {room : ℕ} → (t.reports ≡ room → ⊥) → room ≡ rows_of documents₀ scores₀
        → (t.reports < rows_of documents₀ scores₀) × (t.reports < length documents) × (t.reports < length values)
    has-row ne g =
        let K = D.going.kept in
        let w = K.written in
        let l : t.reports < rows_of documents₀ scores₀ = lt_of_ne (omega (arith, w.fit, count-is K)) (λ e. ne (e ∙ sym g)) in
        (l, omega (arith, l, documents-long w), omega (arith, l, scores-long w))

    module _ {turns : ℕ} {h' : Tables} {r : Gone Machine} (G : GoesOn file task.similarity lists norms t.now turns h m h' r) where
      abbrev Turns : Event → Type 0
      Turns event = Went turn_in over_in t.now (at h m) turns r.taken (at h' r.to) event

      went-as : {event : Event} → r.event ≡ event → Turns event
      went-as e = subst Turns e G.went

      near : KeptIn N (at h' r.to) × (r.taken + cost_in N (at h' r.to) ≤ cost_in N (at h m))
      near = went-near (machine_from (at h m)) (machine-nears N (at h m) D.kept) t.now (at h m) r.event D.kept G.went

      -- a report that has a row
      pub reports-on : {doc : ℕ} {score : Float} → r.event ≡ Report doc score → {room : ℕ} → (t.reports ≡ room → ⊥) → room ≡ rows_of documents₀ scores₀
          → {t' : Threshold} {best' : List Float} {documents' : List ℕ} {values' : List Float}
          → Reported task.rule script doc score t best documents values t' best' documents' values' → Driving t' best' h' r.to documents' values'
      reports-on e ne g R = record {
        stands = G.stands;
        going = went-reports W task.rule script documents₀ scores₀ D.going (went-as e) (has-row ne g).0 R;
        kept = near.0;
      }

      pub reports-nearer : {doc : ℕ} {score : Float} → r.event ≡ Report doc score → cost_in N (at h' r.to) < cost_in N (at h m)
      reports-nearer e = let s = (went-as e).stood in omega (arith, near.1, s.1)

      -- one for which no row is left
      pub stops-full : {doc : ℕ} {score : Float} → r.event ≡ Report doc score → {room : ℕ} → t.reports ≡ room → room ≡ rows_of documents₀ scores₀
          → {x : Driven} → x ≡ stopped_as r.to true room → Drives file script lists norms task old documents₀ scores₀ h' documents values x
      stops-full e {room} f g x-is =
          subst (Drives file script lists norms task old documents₀ scores₀ h' documents values) (sym x-is)
          (record {
            stands = G.stands;
            ran = subst (λ (n : ℕ). Ran W task.rule script documents₀ scores₀ true n documents values (at h' r.to)) f
                (went-full W task.rule script documents₀ scores₀ D.going (went-as e) (f ∙ g));
          })

      -- the route's end
      pub stops-over : r.event ≡ Over → {x : Driven} → x ≡ stopped_as r.to false t.reports
          → Drives file script lists norms task old documents₀ scores₀ h' documents values x
      stops-over e x-is =
          subst (Drives file script lists norms task old documents₀ scores₀ h' documents values) (sym x-is)
          (record { stands = G.stands; ran = went-over W task.rule script documents₀ scores₀ D.going (went-as e) })

      -- turns that were taken without a report
      pub pauses-on : r.event ≡ Paused → Driving t best h' r.to documents values
      pauses-on e = record { stands = G.stands; going = went-paused W task.rule script documents₀ scores₀ D.going (went-as e); kept = near.0 }

      pub pauses-nearer : r.event ≡ Paused → 0 < turns → cost_in N (at h' r.to) < cost_in N (at h m)
      pauses-nearer e l = omega (arith, near.1, (went-as e).stood.2, l)
