-- Turns in a row, under one threshold.
use Rattle.std.specs.Prelude.{List, ℕ, Float}
use Rattle.reports.specs.Inner.Turns.{Went}
use Rattle.term_scorer.specs.Inner.Slots.{Held}
use Rattle.intersection_order.specs.Inner.Scorers.{Query}
use Rattle.intersection_stage.specs.declared.Intersection.{Intersection}
use Rattle.intersection_turn.specs.Inner.Stands.{Stands, place_of}
use Rattle.intersection_turn.specs.Inner.Turns.{inter_ended, inter_turn}
use Rattle.reports.specs.declared.Gone.{Gone}

module _ (x : Query) (t : Float) where
  -- `turns` turns at most: a run stands where the route does after those that were taken
  pub record Goes (turns : ℕ) (v : Intersection) (h : Held) (floats : List (List Float))
      (r : Gone Intersection) (h' : Held) (floats' : List (List Float)) : Type 0 where
    pub stands : Stands x r.to h' floats'
    pub went : Went inter_turn inter_ended t (place_of x v h.places floats) turns r.taken
        (place_of x r.to h'.places floats') r.event
