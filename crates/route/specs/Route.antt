-- A route, 01's word for the path of a skipping run: places, and turns from one to the next. A turn ends at its report, if it has one.
use Rattle.std.specs.Prelude.{Bool, true, cond, ◌≡◌, List, [], ◌∷◌, ◌++◌, ℕ, zero, suc, eqb}
use Rattle.std.proofs.Math.Option.{Option, none}
use Rattle.route.specs.Report.{Report, Callback, reported}
use Rattle.route.specs.Scorer.{Scorer}

-- A block that was decoded, by its list's position in the query and its number.
pub record Load : Type 0 where
  pub ord : ℕ
  pub block : ℕ

module _ {S : Type 0} where
  -- the load of a scorer's move: `load_block` is called where the skip reader has come to another block than the one decoded last
  abbrev pub load_of : Scorer S → Scorer S → List Load
  load_of s s' = cond (eqb s.cur.dec s'.cur.dec) [] (record { ord = s.ord; block = s'.cur.dec } ∷ [])

  -- of scorers that move one after the other, from the first on, or from the last
  abbrev pub loads_of : List (Scorer S) → List (Scorer S) → List Load
  loads_of [] ss' = []
  loads_of (s ∷ ss) [] = []
  loads_of (s ∷ ss) (s' ∷ ss') = load_of s s' ++ loads_of ss ss'

  abbrev pub loads_back : List (Scorer S) → List (Scorer S) → List Load
  loads_back [] ss' = []
  loads_back (s ∷ ss) [] = []
  loads_back (s ∷ ss) (s' ∷ ss') = loads_back ss ss' ++ load_of s s'

-- What a turn leaves: the next place, a report if one is due, and the blocks that it decoded, in order.
pub record Turn (P S : Type 0) : Type 0 where
  pub next : P
  pub due : Option (Report S)
  pub loads : List Load

-- a turn without a report
abbrev pub quiet : {P S : Type 0} → P → List Load → Turn P S
quiet p ls = record { next = p; due = none; loads = ls }

-- A turn is a function of the place before it and of the threshold of the moment. At its end a route stays.
pub record Route (S : Type 0) : Type 1 where
  pub Place : Type 0
  pub first : Place
  pub ended : Place → Bool
  pub turn : S → Place → Turn Place S
  pub scorers : Place → List (Scorer S)

-- a run on its way: where the route stands, and the callback's state
pub record Run (P R : Type 0) : Type 0 where
  pub place : P
  pub state : R

module _ {S : Type 0} (K : Callback S) (W : Route S) where
  -- one turn, and its report handed to the callback
  abbrev pub step : Run W.Place K.State → Run W.Place K.State
  step u =
      let t = W.turn (K.threshold u.state) u.place in
      record { place = t.next; state = reported K t.due u.state }

  -- the run after n steps from the callback's state r
  abbrev pub after : K.State → ℕ → Run W.Place K.State
  after r zero = record { place = W.first; state = r }
  after r (suc n) = step (after r n)

  -- The run from r ends, and leaves the callback in the state `total`.
  pub record Ends (r total : K.State) : Type 0 where
    pub steps : ℕ
    pub ended : W.ended (after r steps).place ≡ true
    pub leaves : (after r steps).state ≡ total
