-- Turns of the intersection's route, taken in the tables.
use Rattle.std.specs.Prelude.{◌≡◌, Bool, List, Float}
use Rattle.route.specs.F32.{f32}
use Rattle.route.specs.Route.{Turn}
use Rattle.route.specs.Intersection.{InterPlace, inter_by, is_over}
use Rattle.term_scorer.specs.Inner.Slots.{Held}
use Rattle.intersection_order.specs.Inner.Scorers.{Query}
use Rattle.reports.specs.Inner.Due.{due_of}
use Rattle.intersection_turn.specs.Inner.Stands.{Stands, place_of}
use Rattle.intersection_stage.specs.declared.Intersection.{Intersection}
use Rattle.reports.specs.declared.Step.{Step}

-- one turn of the route, and its end
abbrev pub inter_turn : Float → InterPlace Float → Turn (InterPlace Float) Float
inter_turn t u = inter_by 128 f32 u.stage t u.doc u.leader u.secs

abbrev pub inter_ended : InterPlace Float → Bool
inter_ended u = is_over u.stage

module _ (x : Query) (t : Float) where
  -- one turn, from what stood before
  pub record TakesTurn (v : Intersection) (h : Held) (floats : List (List Float))
      (r : Step Intersection) (h' : Held) (floats' : List (List Float)) : Type 0 where
    pub stands : Stands x r.to h' floats'
    pub next-is : (inter_turn t (place_of x v h.places floats)).next ≡ place_of x r.to h'.places floats'
    pub due-is : (inter_turn t (place_of x v h.places floats)).due ≡ due_of r.due
