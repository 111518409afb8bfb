-- The blocks that a run decodes.
use Rattle.std.specs.Prelude.{List, [], ◌∷◌, ◌++◌, ℕ, zero, suc}
use Rattle.route.specs.Score.{Ops}
use Rattle.route.specs.Report.{Callback}
use Rattle.route.specs.Rule.{Rule, ruled}
use Rattle.route.specs.Postings.{Postings}
use Rattle.route.specs.Scorer.{Scorer, scorers_from}
use Rattle.route.specs.Route.{Load, Route, after}
use Rattle.route.specs.Plain.{Mode}
use Rattle.route.specs.Skipping.{route}

-- a fresh scorer decodes its first block
abbrev pub open_loads : {S : Type 0} → List (Scorer S) → List Load
open_loads [] = []
open_loads (s ∷ ss) = record { ord = s.ord; block = 0 } ∷ open_loads ss

-- the loads of the first n steps, in order
abbrev pub loads_after : {S : Type 0} (K : Callback S) (W : Route S) → K.State → ℕ → List Load
loads_after K W r zero = []
loads_after K W r (suc n) = let u = after K W r n in loads_after K W r n ++ (W.turn (K.threshold u.state) u.place).loads

-- the blocks decoded in the first n steps of a run, behind the first block of every scorer, in query order
abbrev pub skipping_loads : (B : ℕ) (O : Ops) (m : Mode) (q : List (Postings O.S)) → Rule O.S → O.S → ℕ → List Load
skipping_loads B O m q rule start n = open_loads (scorers_from 0 q) ++ loads_after (ruled O rule start) (route B O m q) [] n
