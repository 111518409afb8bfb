-- A window: where the first of the present blocks ends, and what all of them may add.
use Rattle.std.specs.Prelude.{◌≡◌, false, true, Option, Some, None, List, [], map, ℕ, suc, ◌+◌, ◌≤◌, drop, get_or, take, Float}
use Rattle.std.specs.Float.{nan}
use Rattle.route.specs.F32.{f32}
use Rattle.route.specs.Score.{sum}
use Rattle.route.specs.Scorer.{Scorer, block_max_score, last_doc_in_block, seek_block}
use Rattle.route.specs.Union.{least_last_doc}
use Rattle.route.specs.Intersection.{all_remain, candidates_in, over, seek_block_all, window, window_turn, within}
use Rattle.term_scorer.specs.Inner.Slots.{Held, cursor_at, held}
use Rattle.term_scorer.specs.Inner.Weights.{FloatRows}
use Rattle.intersection_order.specs.Inner.Scorers.{Query, Ready, StillScored, leader_in, list_in, place_at, secondaries_in, slot_at, Rests}
use Rattle.intersection_window.specs.declared.window.Secondaries.{Secondaries}
use Rattle.intersection_window.specs.declared.window.Window.{Window}
use Rattle.intersection_window.specs.declared.window.Window.TheVariants.{Low, Open, Over}

-- the secondaries' bounds, in their order
abbrev pub bounds_along : ℕ → List ℕ → List Float → List Float
bounds_along len order bounds = map (λ q. get_or bounds q nan) (drop 1 (take len order))

-- the rows of the run's floats: the bounds by slot, the sums of those that follow, and the scores of slot q's decoded block
abbrev pub bounds_row : List (List Float) → List Float
bounds_row floats = get_or floats 0 []

abbrev pub rests_row : List (List Float) → List Float
rests_row floats = get_or floats 1 []

abbrev pub scores_row : List (List Float) → ℕ → List Float
scores_row floats q = get_or floats (2 + q) []

-- behind each secondary the sum of the bounds that follow is written, and nothing else
pub record Sums (n : ℕ) (order : List ℕ) (floats floats' : List (List Float)) : Type 0 where
  pub rests : Rests n (bounds_along n order (bounds_row floats)) (rests_row floats')
  pub bounds : bounds_row floats' ≡ bounds_row floats
  pub scores : (q : ℕ) → scores_row floats' q ≡ scores_row floats q
  pub rows : FloatRows floats'

abbrev pub bounds_of : Query → List Float → List Float
bounds_of x bounds = bounds_along x.len x.order bounds

-- every secondary's skip reader has gone on to document d
pub record Gathered (x : Query) (d leader_end : ℕ) (h : Held)
    (places' : List (List ℕ)) (bounds' : List Float) (r : Secondaries) : Type 0 where
  pub ready : Ready x (held places' h.blocks) bounds'
  pub leader : get_or places' (slot_at x 0) [] ≡ get_or h.places (slot_at x 0) []
  pub secs-are : secondaries_in x places' ≡ map (seek_block 128 d) (secondaries_in x h.places)
  pub end_is : (s : Scorer Float) → last_doc_in_block 128 s ≡ leader_end → r.window_end ≡ least_last_doc 128 s (secondaries_in x places')
  pub bounds-are : bounds_of x bounds' ≡ map (block_max_score 128 f32) (secondaries_in x places')
  pub sum_is : r.block_max_sum ≡ sum f32 (bounds_of x bounds')
  pub small : r.window_end ≤ leader_end

-- or one of them has no document left: those up to it have gone on
pub record RunOut (x : Query) (d : ℕ) (h : Held) (places' : List (List ℕ)) (bounds' : List Float) : Type 0 where
  pub ready : Ready x (held places' h.blocks) bounds'
  pub leader : get_or places' (slot_at x 0) [] ≡ get_or h.places (slot_at x 0) []
  pub secs-are : secondaries_in x places' ≡ seek_block_all 128 d (secondaries_in x h.places)

-- by `gather`'s answer
abbrev pub GathersBy : Query → ℕ → ℕ → Held → List (List ℕ) → List Float → Option Secondaries → Type 0
GathersBy x d leader_end h places' bounds' None = (all_remain 128 d (secondaries_in x h.places) ≡ false) × RunOut x d h places' bounds'
GathersBy x d leader_end h places' bounds' (Some r) =
    (all_remain 128 d (secondaries_in x h.places) ≡ true) × Gathered x d leader_end h places' bounds' r

pub record Gathers (x : Query) (d leader_end : ℕ) (h : Held)
    (places' : List (List ℕ)) (bounds' : List Float) (r : Option Secondaries) : Type 0 where
  pub by : GathersBy x d leader_end h places' bounds' r

-- one turn of `while doc < TERMINATED`, up to the candidates, by its answer: a list has run out; the window up to document e is too low,
-- and the next begins behind it; or it is open, with the leader's block loaded
abbrev pub Windowed : Query → Float → ℕ → Held → Window → Held → List Float → Type 0
Windowed x t d h Over h' bounds' =
    window_turn 128 f32 t d (leader_in x h.places) (secondaries_in x h.places) ≡ place_at x h'.places over d
Windowed x t d h (Low e) h' bounds' =
    (window_turn 128 f32 t d (leader_in x h.places) (secondaries_in x h.places) ≡ place_at x h'.places window (suc e))
    × (e ≤ 2147483647)
Windowed x t d h (Open e total) h' bounds' =
    (window_turn 128 f32 t d (leader_in x h.places) (secondaries_in x h.places)
    ≡ place_at x h'.places (within (candidates_in 128 f32 (list_in x (slot_at x 0)) (f32.sub t total)
    (cursor_at h'.places (slot_at x 0)).dec d e) e (bounds_of x bounds')) d)
    × (e ≤ 2147483647)

-- `next_window` is that turn
pub record Turns (x : Query) (t : Float) (d : ℕ) (h : Held) (r : Window) (h' : Held) (bounds' : List Float) : Type 0 where
  pub ready : Ready x h' bounds'
  pub scores : StillScored x (slot_at x 0) h.places h'.places
  pub turned : Windowed x t d h r h' bounds'
