-- A union's run as it stands in the tables.
use Rattle.std.specs.Prelude.{Bool, List, map, ℕ, ◌≤◌, take, Float}
use Rattle.route.specs.F32.{f32}
use Rattle.route.specs.Union.{UnionPlace, is_over}
use Rattle.route.specs.Inner.Unions.{UnionKept}
use Rattle.bm25.specs.declared.Scoring.{Scoring}
use Rattle.notefile.specs.Header.{documents}
use Rattle.term_scorer.specs.Inner.Slots.{Held, Sixteen}
use Rattle.union_moves.specs.Inner.Seats.{Seated, Terms, slot_scorer, terms_of}
use Rattle.union_turn.specs.Inner.Turns.{stage_of}
use Rattle.union_turn.specs.declared.Union.{Union}

-- the route's end
abbrev pub union_ended : UnionPlace Float → Bool
union_ended p = is_over p.stage

module _ (file : List ℕ) (lists : List (List ℕ)) where
  -- the route's place: the stage, and the scorers of the first slots in their order
  abbrev pub place_of : Scoring → Union → List ℕ → List (List ℕ) → UnionPlace Float
  place_of scoring u order places = record {
    stage = stage_of u.stage;
    scorers = map (slot_scorer file lists scoring places) (take u.len order);
  }

  -- a run stands in the tables, and can go on: each scorer is in a slot of its own, and the route keeps its place
  pub record Stands (T : Terms) (u : Union) (order : List ℕ) (h : Held) : Type 0 where
    pub few : u.len ≤ 16
    pub room : Sixteen order
    pub seated : Seated file lists T h (terms_of file lists T.scoring h.places (take u.len order))
    pub kept : UnionKept 128 (documents file) f32 (place_of T.scoring u order h.places)
