-- What a scan's run leaves.
use Rattle.std.specs.Prelude.{◌≡◌, List, ℕ, Float}
use Rattle.reports.specs.Inner.Turns.{Went}
use Rattle.term_scorer.specs.Inner.Slots.{Held}
use Rattle.term_scorer.specs.declared.score.Similarity.{Similarity}
use Rattle.single_hunt.specs.Inner.Places.{place_of, single_route}
use Rattle.single_hunt.specs.Inner.Stands.{Stands}
use Rattle.single_hunt.specs.declared.Single.{Single}
use Rattle.reports.specs.declared.Gone.{Gone}

module _ (file : List ℕ) (similarity : Similarity) (lists : List (List ℕ)) (norms : List (List Float)) (t : Float) (turns : ℕ) where
  -- What `go` leaves: the scan stands where the route does after so many turns, and can go on.
  pub record Goes (x : Single) (before : Held) (r : Gone Single) (after : Held) (floats : List (List Float)) : Type 0 where
    pub slot_is : r.to.slot ≡ x.slot
    pub stands : Stands file similarity lists norms r.to after floats
    pub went : (ord : ℕ) → let W = single_route similarity.scoring file lists x.slot ord in
        Went W.turn W.ended t (place_of x before.places) turns
        r.taken (place_of r.to after.places) r.event
