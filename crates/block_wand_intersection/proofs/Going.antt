-- `go`'s loop: turns without a report lead to where the run stands.
use mathlib.Core.Bool.{Bool, false, true}
use mathlib.Core.List.{List, ◌∷◌}
use mathlib.Core.Path.{ap, refl, subst, sym, ◌∙◌, ◌≡◌}
use Prim.Native.Nat.{ℕ, ◌+◌, ◌<◌, ◌≤◌}
use native.Mathlib.Numerals.{add-one}
use native.Mathlib.Omega.{arith}
use lib.ListN.{drop, take}
use lib.Ieee.{Float}
use Rattle.arrays.specs.Every.{All}
use Rattle.route.specs.Intersection.{InterPlace, is_over}
use Rattle.route.proofs.Cases.{lt_of_ne}
use Rattle.route.proofs.Lists.{all-each}
use Rattle.reports.specs.Inner.Runs.{AtRest}
use Rattle.reports.specs.Inner.Turns.{Went}
use Rattle.reports.specs.declared.Event.TheVariants.{Over as Ended, Paused, Report}
use Rattle.reports.proofs.TurnLaws.{Quietly, at-end, at_pause, at-report, none_yet, one_more}
use Rattle.term_scorer.specs.Inner.Slots.{Held, cursor_at}
use Rattle.intersection_order.specs.Inner.Scorers.{Query, leader_in, scorer_at, secondaries_in}
use Rattle.intersection_stage.specs.Inner.Steps.{over_in}
use Rattle.reports.specs.Inner.Due.{due_of}
use Rattle.intersection_turn.specs.Inner.Stands.{Stands, place_of, stage_of}
use Rattle.intersection_turn.specs.Inner.Turns.{TakesTurn, inter_ended, inter_turn}
use Rattle.block_wand_intersection.specs.Inner.Runs.{Goes}
use Rattle.reports.specs.declared.Gone.{Gone}
use Rattle.intersection_stage.specs.declared.Intersection.{Intersection}
use Rattle.intersection_stage.specs.declared.Stage.{Stage}
use Rattle.intersection_stage.specs.declared.Stage.TheVariants.{Called, Early, Over, Window, Within}
use Rattle.std.specs.Prelude.{Some, None}
use Rattle.reports.specs.declared.Step.{Step}

-- the run has returned where its route has
over-is : (x : Query) (places : List (List ℕ)) (floats : List (List Float)) (s : Stage) → is_over (stage_of x places floats s) ≡ over_in s
over-is x places floats Early = refl
over-is x places floats Window = refl
over-is x places floats (Within c) = refl
over-is x places floats (Called c) = refl
over-is x places floats Over = refl

-- the route's scorers stand in their slots
pub at_rest : (x : Query) (places : List (List ℕ)) → All (AtRest (cursor_at places)) (leader_in x places ∷ secondaries_in x places)
at_rest x places = (refl, all-each (AtRest (cursor_at places)) (scorer_at x places) (drop 1 (take x.len x.order)) (λ q. refl))

-- the same query, its number of scorers as another says it
abbrev pub with_len : Query → ℕ → Query
with_len x n = record {
  reader = x.reader;
  scoring = x.scoring;
  file = x.file;
  lists = x.lists;
  norms = x.norms;
  len = n;
  order = x.order;
}

module _ (x : Query) (t : Float) (turns : ℕ) (v₀ : Intersection) (h₀ : Held) (floats₀ : List (List Float)) where
  abbrev from : InterPlace Float
  from = place_of x v₀ h₀.places floats₀

  pub record Going (taken : ℕ) (v : Intersection) (h : Held) (floats : List (List Float)) : Type 0 where
    pub stands : Stands x v h floats
    pub few : taken ≤ turns
    pub quiet : Quietly inter_turn inter_ended t from taken (place_of x v h.places floats)

  pub going : Stands x v₀ h₀ floats₀ → Going 0 v₀ h₀ floats₀
  going S = record { stands = S; few = omega arith; quiet = none_yet inter_turn inter_ended t from }

  pub stands_here : {taken : ℕ} {v : Intersection} {h : Held} {floats : List (List Float)} → Going taken v h floats → Stands (with_len x v.len) v h floats
  stands_here {v = v} {h = h} {floats = floats} G = subst (λ (n : ℕ). Stands (with_len x n) v h floats) (sym G.stands.len_is) G.stands

  abbrev Gone-to : Gone Intersection → Held → List (List Float) → Type 0
  Gone-to r h floats = Goes x t turns v₀ h₀ floats₀ r h floats

  module _ {taken : ℕ} {v : Intersection} {h : Held} {floats : List (List Float)} (G : Going taken v h floats) {ended : Bool} (eo : ended ≡ over_in v.stage) where
    ended_is : inter_ended (place_of x v h.places floats) ≡ ended
    ended_is = over-is x h.places floats v.stage ∙ sym eo

    pub ends : ended ≡ true → {r : Gone Intersection} → r ≡ record { to = v; taken = taken; event = Ended } → Gone-to r h floats
    ends e er =
        subst (λ (z : Gone Intersection). Gone-to z h floats) (sym er) (record { stands = G.stands; went = at-end inter_turn inter_ended t G.quiet G.few (ended_is ∙ e) })

    module _ (e : ended ≡ false) where
      pub pauses : taken ≡ turns → {r : Gone Intersection} → r ≡ record { to = v; taken = taken; event = Paused } → Gone-to r h floats
      pauses k er =
          subst (λ (z : Gone Intersection). Gone-to z h floats) (sym er)
          (record {
            stands = G.stands;
            went =
                subst (λ (n : ℕ). Went inter_turn inter_ended t from n taken (place_of x v h.places floats) Paused) k (at_pause inter_turn inter_ended t G.quiet (ended_is ∙ e));
          })

      module _ (n : taken ≡ turns → ⊥) where
        pub more : taken < turns
        more = lt_of_ne G.few n

        module _ {r : Step Intersection} {h' : Held} {floats' : List (List Float)} (T' : TakesTurn (with_len x v.len) t v h floats r h' floats') where
          T : TakesTurn x t v h floats r h' floats'
          T = subst (λ (n : ℕ). TakesTurn (with_len x n) t v h floats r h' floats') G.stands.len_is T'

          pub goes_on : r.due ≡ None → Going (taken + 1) r.to h' floats'
          goes_on d = record {
            stands = T.stands;
            few = omega (arith, more);
            quiet = rw add-one (one_more inter_turn inter_ended t G.quiet (ended_is ∙ e) (T.due-is ∙ ap due_of d) T.next-is);
          }

          pub reports : {doc : ℕ} {score : Float} → r.due ≡ Some (doc, score) → {z : Gone Intersection} → z ≡ record { to = r.to; taken = taken + 1; event = Report doc score } → Gone-to z h' floats'
          reports d ez =
              subst (λ (z : Gone Intersection). Gone-to z h' floats') (sym ez)
              (record { stands = T.stands; went = rw add-one (at-report inter_turn inter_ended t G.quiet more (ended_is ∙ e) (T.due-is ∙ ap due_of d) T.next-is) })
