-- What turns in a row leave, up to a report.
use Rattle.std.specs.Prelude.{◌≡◌, List, ℕ, ◌≤◌, ◌<◌, Float}
use Rattle.route.specs.Route.{Route}
use Rattle.reports.specs.Inner.Turns.{after_turns, Silent, Went}
use Rattle.reports.specs.declared.Event.{Event}
use Rattle.reports.specs.declared.Event.TheVariants.{Over, Paused, Report}
use Rattle.term_scorer.specs.Inner.Slots.{Held}
use Rattle.term_scorer.specs.declared.score.Similarity.{Similarity}
use Rattle.single_hunt.specs.Inner.Places.{place_of, single_route}
use Rattle.single_hunt.specs.Inner.Stands.{Stands}
use Rattle.single_hunt.specs.declared.Single.{Single}
use Rattle.reports.specs.declared.Gone.{Gone}

module _ (file : List ℕ) (similarity : Similarity) (lists : List (List ℕ)) (norms : List (List Float)) (t : Float) (turns : ℕ) where
  -- up to a report, or turns without one, and one at least: whether the scan is over is not asked
  abbrev pub Strode : (W : Route Float) → W.Place → ℕ → W.Place → Event → Type 0
  Strode W p taken q (Report doc score) = Went W.turn W.ended t p turns taken q (Report doc score)
  Strode W p taken q Over = ⊥
  Strode W p taken q Paused =
      (0 < taken) × (taken ≤ turns) × (q ≡ after_turns W.turn W.ended t p taken) × Silent W.turn W.ended t p taken

  -- what `stride` leaves
  pub record Steps (x : Single) (before : Held) (r : Gone Single) (after : Held) (floats : List (List Float)) : Type 0 where
    pub slot_is : r.to.slot ≡ x.slot
    pub stands : Stands file similarity lists norms r.to after floats
    pub strode : (ord : ℕ)
        → Strode (single_route similarity.scoring file lists x.slot ord) (place_of x before.places)
        r.taken (place_of r.to after.places) r.event
