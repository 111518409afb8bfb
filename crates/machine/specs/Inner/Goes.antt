-- What the machine leaves as it goes on.
use Rattle.std.specs.Prelude.{List, ℕ, Float}
use Rattle.reports.specs.Inner.Turns.{Went}
use Rattle.term_scorer.specs.declared.score.Similarity.{Similarity}
use Rattle.machine.specs.Inner.Places.{over_in, turn_in}
use Rattle.machine.specs.Inner.Stands.{Tables, place_in, StandsIn}
use Rattle.reports.specs.declared.Gone.{Gone}
use Rattle.machine.specs.declared.Machine.{Machine}

-- EACH STEP IS THE ROUTE'S: for every number of turns the machine stands where the route does after exactly those that were taken, and what
-- it tells is the route's
pub record GoesOn (file : List ℕ) (similarity : Similarity) (lists : List (List ℕ)) (norms : List (List Float)) (t : Float) (turns : ℕ)
    (old : Tables) (m : Machine) (new : Tables) (r : Gone Machine) : Type 0 where
  pub stands : StandsIn file similarity lists norms new r.to
  pub went : Went turn_in over_in t (place_in file similarity lists norms old m) turns r.taken
      (place_in file similarity lists norms new r.to) r.event
