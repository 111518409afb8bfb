-- The runs of 01's small file, over its decoded lists in blocks of 128 with f32 scores: cases (a) to (h).
use mathlib.Core.Bool.{true}
use mathlib.Core.List.{List, [], ◌∷◌}
use mathlib.Core.Path.{refl, ◌≡◌}
use Prim.Native.Nat.{ℕ}
use native.Mathlib.Omega.{arith}
use lib.Ieee.{Float, add, fin, lt, round, sub}
use lib.IntN.{pos}
use lib.ListN.{get_or, length}
use Rattle.floats.specs.Step.{grid_f}
use Rattle.route.specs.F32.{f32}
use Rattle.route.specs.Report.{Report}
use Rattle.route.specs.Rule.{Rule, best, limited, script}
use Rattle.route.specs.Postings.{Postings, start}
use Rattle.route.specs.Plain.{Mode, intersection, plain, union}
use Rattle.route.specs.Skipping.{Skips}
use Rattle.route.specs.Inner.Rules.{Takes}

-- a list of fewer than 128 documents: no full block
abbrev short : List ℕ → List ℕ → ℕ → Postings Float
short ds ss t = record { len = length ds; full = 0; doc = λ p. get_or ds p 0; score = λ p. grid_f (get_or ss p 0); bound = λ b. grid_f 0; top = grid_f t }

abbrev first : Postings Float
first = short (1 ∷ 3 ∷ []) (724955 ∷ 900219 ∷ []) 920449

abbrev second : Postings Float
second = short (0 ∷ 3 ∷ []) (362477 ∷ 362477 ∷ []) 460224

abbrev row : ℕ → ℕ → Report Float
row d n = record { doc = d; score = grid_f n }

-- the skipping run and the plain scan both give `rows`
abbrev Gives : Mode → List (Postings Float) → Rule Float → Float → List (Report Float) → Type 0
Gives m q rule s rows = Skips 128 f32 m q rule s rows × (plain f32 m q rule s 4 ≡ rows)

abbrev all : List (Report Float)
all = row 0 362477 ∷ row 1 724955 ∷ row 3 1262696 ∷ []

case-a : Gives union (first ∷ second ∷ []) (script []) (grid_f 0) all
unfolding grid_f round add sub lt start
case-a = (record { steps = 8; ended = refl; leaves = refl }, refl)

case-b : Gives union (first ∷ second ∷ []) (script []) (grid_f 362477) (row 1 724955 ∷ row 3 1262696 ∷ [])
unfolding grid_f round add sub lt start
case-b = (record { steps = 8; ended = refl; leaves = refl }, refl)

case-c : Gives intersection (first ∷ second ∷ []) (script []) (grid_f 0) (row 3 1262696 ∷ [])
unfolding grid_f round add sub lt start
case-c = (record { steps = 8; ended = refl; leaves = refl }, refl)

-- 800
case-d : Gives union (first ∷ second ∷ []) (script (grid_f 819200 ∷ [])) (grid_f 0) (row 0 362477 ∷ row 3 1262696 ∷ [])
unfolding grid_f round add sub lt start
case-d = (record { steps = 8; ended = refl; leaves = refl }, refl)

-- from -1
case-e : Gives union (first ∷ second ∷ []) (best 1) (fin true 1 (pos 0)) all
unfolding grid_f round add sub lt start
case-e = (record { steps = 8; ended = refl; leaves = refl }, refl)

case-f : Gives union [] (script []) (grid_f 0) []
unfolding grid_f round add sub lt start
case-f = (record { steps = 8; ended = refl; leaves = refl }, refl)

-- an intersection of one list is not taken
case-g : Takes intersection (length (first ∷ [])) → ⊥
case-g h = omega (arith, h)

-- case (a) with two rows
case-h : limited 2 all ≡ record { code = 12; rows = row 0 362477 ∷ row 1 724955 ∷ [] }
case-h = refl
