-- A list of scored documents offered to a callback, one after another.
use Rattle.std.specs.Prelude.{List, [], ◌∷◌, ℕ, suc, ◌≤◌}
use Rattle.route.specs.Score.{Ops}
use Rattle.route.specs.Report.{Callback, Report, offer}

abbrev pub offered : (O : Ops) (K : Callback O.S) → List (Report O.S) → K.State → K.State
offered O K [] r = r
offered O K (x ∷ xs) r = offered O K xs (offer O K x.doc x.score r)

-- their documents rise, from d on
abbrev pub Rising : {S : Type 0} → ℕ → List (Report S) → Type 0
Rising d [] = Unit {0}
Rising d (x ∷ xs) = (d ≤ x.doc) × Rising (suc x.doc) xs
