-- Turns in a row: where a run stands after each, and its three ends.
use mathlib.Core.Bool.{Bool, false, not, true}
use mathlib.Core.List.{List, []}
use mathlib.Core.Path.{ap, refl, sym, ◌∙◌, ◌≡◌}
use Prim.Native.Nat.{ℕ, ◌+◌, ◌≤◌, ◌<◌}
use native.Mathlib.Numerals.{add-one}
use native.Mathlib.Omega.{arith}
use lib.Ieee.{Float}
use Rattle.route.specs.F32.{f32}
use Rattle.route.specs.Union.{UnionPlace, is_over, union_turn}
use Rattle.route.proofs.Union.Ends.{union-nears}
use Rattle.bm25.specs.declared.Scoring.{Scoring}
use Rattle.notefile.specs.Header.{documents}
use Rattle.reports.specs.Inner.Turns.{Went}
use Rattle.reports.specs.declared.Event.TheVariants as event
use Rattle.reports.proofs.TurnLaws.{Quietly, at-end, at_pause, at-report, none_yet, one_more}
use Rattle.term_scorer.specs.Inner.Slots.{Held}
use Rattle.union_moves.specs.Inner.Seats.{terms}
use Rattle.std.specs.Prelude.{Some, None}
use Rattle.union_turn.specs.Inner.Turns.{Turned, stage_of}
use Rattle.union_turn.specs.Inner.Runs.{Stands, place_of, union_ended}
use Rattle.union_turn.specs.declared.Union.{Union}
use Rattle.reports.specs.Inner.Due.{due_of}
use Rattle.reports.specs.declared.Step.{Step}
use Rattle.union_turn.proofs.Standing.{place_is}

-- a negated test
pub not-true : (b : Bool) → not b ≡ true → b ≡ false
not-true true e = sym e
not-true false e = refl

-- ---- the loop of `go`

-- from where a run stood, so many turns were taken, none with a report
pub record OnWay (file : List ℕ) (lists : List (List ℕ)) (scoring : Scoring) (norms : List (List Float)) (t : Float) (from : UnionPlace Float) (turns : ℕ)
    (h : Held) (floats : List (List Float)) (u : Union) (order : List ℕ) (taken : ℕ) : Type 0 where
  pub quietly : Quietly (union_turn 128 f32) union_ended t from taken (place_of file lists scoring u order h.places)
  pub stands : Stands file lists (terms scoring norms floats) u order h
  pub within : taken ≤ turns

-- no turn yet
pub begun : {file : List ℕ} {lists : List (List ℕ)} {scoring : Scoring} {norms : List (List Float)} {floats : List (List Float)} (t : Float) {h : Held} (u : Union) (order : List ℕ) (turns : ℕ)
    → Stands file lists (terms scoring norms floats) u order h
    → OnWay file lists scoring norms t (place_of file lists scoring u order h.places) turns h floats u order 0
begun t u order turns S = record { quietly = none_yet (union_turn 128 f32) union_ended t _; stands = S; within = omega arith }

module _ {file : List ℕ} {lists : List (List ℕ)} {scoring : Scoring} {norms : List (List Float)} {t : Float} {from : UnionPlace Float} {turns : ℕ}
    {h : Held} {floats : List (List Float)} {u : Union} {order : List ℕ} {taken : ℕ} (S : OnWay file lists scoring norms t from turns h floats u order taken) where
  -- its three ends: at the route's, after all turns that were allowed, and at a report
  pub over : is_over (stage_of u.stage) ≡ true → Went (union_turn 128 f32) union_ended t from turns taken (place_of file lists scoring u order h.places) event.Over
  over e = at-end (union_turn 128 f32) union_ended t S.quietly S.within e

  module _ (on : is_over (stage_of u.stage) ≡ false) where
    pub paused : taken ≡ turns → Went (union_turn 128 f32) union_ended t from turns taken (place_of file lists scoring u order h.places) event.Paused
    paused e = rw (sym e) (at_pause (union_turn 128 f32) union_ended t S.quietly on)

    module _ (room : taken < turns) {h' : Held} {order' : List ℕ} {floats' : List (List Float)} {r : Step Union}
        (D : Turned file lists (terms scoring norms floats) t u.stage h order u.len h' order' floats' r) where
      next-is : (union_turn 128 f32 t (place_of file lists scoring u order h.places)).next ≡ place_of file lists scoring r.to order' h'.places
      next-is =
          sym (ap (λ z. (union_turn 128 f32 t z).next) (place_is file lists scoring h.places u order)) ∙ D.does.next-is ∙ place_is file lists scoring h'.places r.to order'

      due-is : (union_turn 128 f32 t (place_of file lists scoring u order h.places)).due ≡ due_of r.due
      due-is = sym (ap (λ z. (union_turn 128 f32 t z).due) (place_is file lists scoring h.places u order)) ∙ D.does.due-is

      -- a turn leaves a run that can go on
      pub stands_on : Stands file lists (terms scoring norms floats') r.to order' h'
      stands_on =
          let a = D.few in
          let b = S.stands.few in
          record {
            few = omega arith;
            room = D.long;
            seated = D.left;
            kept = rw next-is at ((union-nears 128 (documents file) f32 [] tt).nears t (place_of file lists scoring u order h.places) on S.stands.kept).0;
          }

      -- a turn without a report
      pub quiet-turn : r.due ≡ None → OnWay file lists scoring norms t from turns h' floats' r.to order' (taken + 1)
      quiet-turn e = record {
        quietly = rw add-one (one_more (union_turn 128 f32) union_ended t S.quietly on (due-is ∙ rw e) next-is);
        stands = stands_on;
        within = omega arith;
      }

      pub reports : {doc : ℕ} {score : Float} → r.due ≡ Some (doc, score)
          → Went (union_turn 128 f32) union_ended t from turns (taken + 1) (place_of file lists scoring r.to order' h'.places) (event.Report doc score)
      reports e =
          rw add-one (at-report (union_turn 128 f32) union_ended t S.quietly room on (due-is ∙ rw e) next-is)
