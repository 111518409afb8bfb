-- Where a run begins: what its slots hold, and the route's first place.
use Rattle.std.specs.Prelude.{◌≡◌, List, ◌∷◌, map, ℕ, ◌≤◌, ◌<◌, drop, get_or, take, Float}
use Rattle.route.specs.F32.{f32}
use Rattle.route.specs.Ordering.{sort_by}
use Rattle.route.specs.Score.{sum}
use Rattle.route.specs.Scorer.{scorers_from, size_hint}
use Rattle.route.specs.Intersection.{leader_route}
use Rattle.notefile.specs.Header.{norm_reader}
use Rattle.term_scorer.specs.Inner.Slots.{Held, Sixteen, lists_from}
use Rattle.term_scorer.specs.Inner.Weights.{FloatRows, FreshSlot, top_at}
use Rattle.intersection_order.specs.Inner.Scorers.{Query, leader_in, scorer_at, scorers_between, secondaries_in, slot_at}
use Rattle.intersection_turn.specs.Inner.Stands.{Stands, place_of}
use Rattle.intersection_stage.specs.declared.Intersection.{Intersection}

-- the first slot's list bound, and the sum of the others' before it
abbrev pub top_sum : List (List ℕ) → ℕ → List ℕ → Float
top_sum lists n order = f32.add (top_at lists (get_or order 0 0)) (sum f32 (map (top_at lists) (drop 1 (take n order))))

-- each of the slots holds its list, on the first posting, with its norms and its list bound, and keeps nothing; the order is not yet made
pub record FreshSlots (x : Query) (h : Held) : Type 0 where
  pub two : 2 ≤ x.len
  pub few : x.len ≤ 16
  pub long : Sixteen x.order
  pub norms-are : x.reader ≡ norm_reader x.file
  pub sixteen : Sixteen h.places × Sixteen h.blocks
  pub each : (q : ℕ) → q < x.len → FreshSlot x.scoring x.file x.lists x.norms h q

-- the run stands at the first place of the query's route, whatever the floats hold: that of the scorers by size
pub record Begins (x : Query) (h : Held) (v : Intersection) : Type 0 where
  pub len_is : v.len ≡ x.len
  pub stands : (floats : List (List Float)) → FloatRows floats → Stands x v h floats
  pub first-is : (floats : List (List Float))
      → place_of x v h.places floats ≡ (leader_route 128 f32 (leader_in x h.places) (secondaries_in x h.places)).first
  pub secs-are : secondaries_in x h.places ≡ scorer_at x h.places (slot_at x 1) ∷ scorers_between x h.places 2 x.len
  pub sorted-is : sort_by size_hint (scorers_from 0 (lists_from x.scoring x.file x.lists 0 x.len))
      ≡ leader_in x h.places ∷ secondaries_in x h.places
