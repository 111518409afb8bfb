-- Where a run stands: the place of the route that its struct and its tables say.
use Rattle.std.specs.Prelude.{◌≡◌, List, map, ℕ, ◌≤◌, drop, take, Float}
use Rattle.route.specs.F32.{f32}
use Rattle.route.specs.Score.{sum}
use Rattle.route.specs.Report.{Report}
use Rattle.route.specs.Intersection.{InterPlace, Stage as RouteStage, called, early, over, window, within}
use Rattle.term_scorer.specs.Inner.Slots.{Held, cursor_at}
use Rattle.term_scorer.specs.Inner.Weights.{BlockScores, FloatRows}
use Rattle.intersection_order.specs.Inner.Scorers.{InOrder, Query, Ready, ScoredIn, list_in, place_at, slot_at, Rests}
use Rattle.intersection_candidate.specs.Inner.Candidates.{left_in}
use Rattle.intersection_window.specs.Inner.Windows.{bounds_of, bounds_row, rests_row, scores_row}
use Rattle.intersection_candidate.specs.declared.leader.Candidates.{Candidates}
use Rattle.intersection_stage.specs.declared.Intersection.{Intersection}
use Rattle.intersection_stage.specs.declared.Stage.{Stage}
use Rattle.intersection_stage.specs.declared.Stage.TheVariants.{Called, Early, Over, Window, Within}

-- `leader_max_score + secondaries_global_max_sum`, by the lists alone
abbrev pub max_sum : Query → Float
max_sum x = f32.add (list_in x (slot_at x 0)).top (sum f32 (map (λ q. (list_in x q).top) (drop 1 (take x.len x.order))))

-- before a window; before the candidates of one
abbrev pub AtWindow : Intersection → Type 0
AtWindow v = v.stage ≡ Window

abbrev pub AtCandidates : Intersection → Candidates → Type 0
AtCandidates v c = v.stage ≡ Within c

module _ (x : Query) where
  -- the candidates left, from the leader's decoded block
  abbrev pub left_at : List (List ℕ) → Candidates → List (Report Float)
  left_at places c = left_in (list_in x (slot_at x 0)) (cursor_at places (slot_at x 0)).dec c

  -- the route's stage and its place: the bounds of an open window stay in their row until the next
  abbrev pub stage_of : List (List ℕ) → List (List Float) → Stage → RouteStage Float
  stage_of places floats Early = early
  stage_of places floats Window = window
  stage_of places floats (Within c) = within (left_at places c) c.window_end (bounds_of x (bounds_row floats))
  stage_of places floats (Called c) = called (left_at places c) c.window_end (bounds_of x (bounds_row floats))
  stage_of places floats Over = over

  abbrev pub place_of : Intersection → List (List ℕ) → List (List Float) → InterPlace Float
  place_of v places floats = place_at x places (stage_of places floats v.stage) v.doc

  -- the scores of the block that the leader decoded last stand in its row
  abbrev pub Scored : List (List ℕ) → List (List Float) → Type 0
  Scored places floats = BlockScores (list_in x (slot_at x 0)) (cursor_at places (slot_at x 0)).dec (scores_row floats (slot_at x 0))

  -- in an open window the sums of the bounds that follow stand in theirs
  pub record Open (floats : List (List Float)) (c : Candidates) : Type 0 where
    pub inside : c.next ≤ 128
    pub small : c.window_end ≤ 2147483647
    pub rests : Rests x.len (bounds_of x (bounds_row floats)) (rests_row floats)

  abbrev pub StageKept : List (List ℕ) → List (List Float) → Stage → Type 0
  StageKept places floats Early = Unit {0}
  StageKept places floats Window = Unit {0}
  StageKept places floats (Within c) = Scored places floats × Open floats c
  StageKept places floats (Called c) = Scored places floats × Open floats c
  StageKept places floats Over = Unit {0}

  -- a run stands in its tables, and can go on
  pub record Stands (v : Intersection) (h : Held) (floats : List (List Float)) : Type 0 where
    pub order : InOrder x
    pub ready : Ready x h (bounds_row floats)
    pub rows : FloatRows floats
    pub scores : ScoredIn x (slot_at x 0) h.places floats
    pub len_is : v.len ≡ x.len
    pub max-is : v.max_sum ≡ max_sum x
    pub stage : StageKept h.places floats v.stage
