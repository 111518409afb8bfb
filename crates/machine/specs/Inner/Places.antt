-- The machine's route: a place of any mode, and that mode's turn from it.
use Rattle.std.specs.Prelude.{◌≡◌, Bool, List, [], ◌∷◌, ℕ, leb, Float}
use Rattle.std.proofs.Math.Option.{Option}
use Rattle.route.specs.F32.{f32}
use Rattle.route.specs.Postings.{TERMINATED}
use Rattle.route.specs.Scorer.{Scorer, on_cur}
use Rattle.route.specs.Route.{Route, Turn}
use Rattle.route.specs.Single as one
use Rattle.route.specs.Single.{SinglePlace, single_step}
use Rattle.route.specs.Union as any
use Rattle.route.specs.Union.{UnionPlace, union_turn}
use Rattle.route.specs.Intersection as all
use Rattle.route.specs.Intersection.{InterPlace, inter_by}
use Rattle.plain_scan.specs.Inner.Turns.{scan_turn}

-- A place of a union, of a single scan over a scorer's list, of an intersection, or of a plain scan with its matches.
pub data Place : Type 0 where
  union : UnionPlace Float → Place
  single : Scorer Float → SinglePlace → Place
  intersection : InterPlace Float → Place
  plain : (ℕ → Option Float) → ℕ → Place

-- a turn among other places
abbrev pub among : {P Q : Type 0} → (P → Q) → Turn P Float → Turn Q Float
among f u = record { next = f u.next; due = u.due; loads = u.loads }

-- the mode's turn
abbrev pub turn_in : Float → Place → Turn Place Float
turn_in t (union u) = among union (union_turn 128 f32 t u)
turn_in t (single s p) = among (single s) (single_step 128 f32 s t p)
turn_in t (intersection u) = among intersection (inter_by 128 f32 u.stage t u.doc u.leader u.secs)
turn_in t (plain hits d) = among (plain hits) (scan_turn hits t d)

-- whether the run has returned
abbrev pub over_in : Place → Bool
over_in (union u) = any.is_over u.stage
over_in (single s p) = one.is_over p.phase
over_in (intersection u) = all.is_over u.stage
over_in (plain hits d) = leb TERMINATED d

-- the scorers where they stand; those of a plain scan are not the route's
abbrev pub scorers_in : Place → List (Scorer Float)
scorers_in (union u) = u.scorers
scorers_in (single s p) = on_cur s p.cur ∷ []
scorers_in (intersection u) = u.leader ∷ u.secs
scorers_in (plain hits d) = []

-- the machine's route from a place
abbrev pub machine_from : Place → Route Float
machine_from p = record { Place = Place; first = p; ended = over_in; turn = turn_in; scorers = scorers_in }

-- the machine runs a route: its places are some of the machine's, and the turns are the same
pub record Runs (W : Route Float) (p : Place) : Type 0 where
  pub place : W.Place → Place
  pub first-is : p ≡ place W.first
  pub turn_is : (t : Float) (x : W.Place) → turn_in t (place x) ≡ among place (W.turn t x)
  pub over-is : (x : W.Place) → over_in (place x) ≡ W.ended x
