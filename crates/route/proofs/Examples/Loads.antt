-- The definitions compute: small lists with whole numbers as scores, in each mode, in blocks of 2 and of 128.
use mathlib.Core.List.{List, [], ◌∷◌}
use mathlib.Core.Path.{refl, ◌≡◌}
use Prim.Native.Nat.{ℕ, ◌%◌, ◌*◌, ◌+◌, ◌/◌, ◌-◌}
use lib.Dec.{ltb}
use lib.ListN.{get_or, length}
use Rattle.route.specs.Score.{Ops}
use Rattle.route.specs.Report.{Report}
use Rattle.route.specs.Rule.{Rule, best, ruled, script}
use Rattle.route.specs.Postings.{Postings, TERMINATED, start}
use Rattle.route.specs.Plain.{Mode, intersection, plain, single, union}
use Rattle.route.specs.Cursor.{block_max, doc_here, fresh, seek_block_in, seek_in}
use Rattle.route.specs.Ordering.{restore_ordering, sweep}
use Rattle.route.specs.Route.{Load, after}
use Rattle.route.specs.Skipping.{Skips, route}
use Rattle.route.specs.Inner.Loads.{skipping_loads}

abbrev nats : Ops
nats = record { S = ℕ; nil = 0; add = ◌+◌; sub = ◌-◌; above = λ x t. ltb t x }

abbrev load : ℕ → ℕ → Load
load i b = record { ord = i; block = b }

abbrev row : ℕ → ℕ → Report ℕ
row d x = record { doc = d; score = x }

-- the skipping run and the plain scan over the documents below N both give `rows`
abbrev Gives : ℕ → Mode → List (Postings ℕ) → Rule ℕ → ℕ → ℕ → List (Report ℕ) → Type 0
Gives B m q rule s N rows = Skips B nats m q rule s rows × (plain nats m q rule s N ≡ rows)

-- ---- blocks of 2

abbrev of_lists : List ℕ → List ℕ → List ℕ → ℕ → Postings ℕ
of_lists ds ss bs t = record {
  len = length ds;
  full = length ds / 2;
  doc = λ p. get_or ds p 0;
  score = λ p. get_or ss p 0;
  bound = λ b. get_or bs b 0;
  top = t;
}

abbrev l1 : Postings ℕ
l1 = of_lists (0 ∷ 2 ∷ 3 ∷ 5 ∷ 8 ∷ 9 ∷ 11 ∷ []) (4 ∷ 1 ∷ 7 ∷ 2 ∷ 1 ∷ 1 ∷ 9 ∷ []) (5 ∷ 7 ∷ 1 ∷ []) 10

abbrev l2 : Postings ℕ
l2 = of_lists (1 ∷ 3 ∷ 5 ∷ 6 ∷ 9 ∷ 11 ∷ []) (3 ∷ 3 ∷ 8 ∷ 1 ∷ 2 ∷ 5 ∷ []) (3 ∷ 8 ∷ 6 ∷ []) 8

abbrev l3 : Postings ℕ
l3 = of_lists (3 ∷ 4 ∷ 11 ∷ []) (1 ∷ 2 ∷ 6 ∷ []) (2 ∷ []) 6

abbrev empty : Postings ℕ
empty = of_lists [] [] [] 5

single-best : Gives 2 single (l1 ∷ []) (best 2) 0 12 (row 0 4 ∷ row 2 1 ∷ row 3 7 ∷ row 11 9 ∷ [])
unfolding start
single-best = (record { steps = 20; ended = refl; leaves = refl }, refl)

single-script : Gives 2 single (l1 ∷ []) (script (2 ∷ 6 ∷ [])) 1 12 (row 0 4 ∷ row 3 7 ∷ row 11 9 ∷ [])
unfolding start
single-script = (record { steps = 20; ended = refl; leaves = refl }, refl)

union-best : Gives 2 union (l1 ∷ l2 ∷ l3 ∷ l2 ∷ []) (best 2) 0 12 (row 0 4 ∷ row 1 6 ∷ row 3 14 ∷ row 5 18 ∷ row 11 25 ∷ [])
unfolding start
union-best = (record { steps = 30; ended = refl; leaves = refl }, refl)

union-script : Gives 2 union (l1 ∷ l2 ∷ l3 ∷ l2 ∷ []) (script (9 ∷ 10 ∷ [])) 5 12 (row 1 6 ∷ row 3 14 ∷ row 5 18 ∷ row 11 25 ∷ [])
unfolding start
union-script = (record { steps = 30; ended = refl; leaves = refl }, refl)

-- empty lists drop out: with one left the single route runs, with none nothing is reported
union-one-left : Gives 2 union (empty ∷ l1 ∷ empty ∷ []) (best 2) 0 12 (row 0 4 ∷ row 2 1 ∷ row 3 7 ∷ row 11 9 ∷ [])
unfolding start
union-one-left = (record { steps = 20; ended = refl; leaves = refl }, refl)

-- which is the single route's walk, block by block
one-left-loads : skipping_loads 2 nats union (empty ∷ l1 ∷ empty ∷ []) (script []) 6 30 ≡ load 0 0 ∷ load 1 0 ∷ load 2 0 ∷ load 1 1 ∷ load 1 3 ∷ []
unfolding start
one-left-loads = refl

union-none-left : Gives 2 union (empty ∷ empty ∷ []) (best 2) 0 12 []
unfolding start
union-none-left = (record { steps = 1; ended = refl; leaves = refl }, refl)

intersection-best : Gives 2 intersection (l1 ∷ l2 ∷ l2 ∷ []) (best 2) 0 12 (row 3 13 ∷ row 5 18 ∷ row 11 19 ∷ [])
unfolding start
intersection-best = (record { steps = 40; ended = refl; leaves = refl }, refl)

intersection-script : Gives 2 intersection (l1 ∷ l3 ∷ []) (script []) 8 12 (row 11 15 ∷ [])
unfolding start
intersection-script = (record { steps = 40; ended = refl; leaves = refl }, refl)

-- ---- what is read

-- position and block of the loads of a union over l1, l2, l3 above 9
union-loads : skipping_loads 2 nats union (l1 ∷ l2 ∷ l3 ∷ []) (script []) 9 30
    ≡ load 0 0 ∷ load 1 0 ∷ load 2 0 ∷ load 0 1 ∷ load 1 1 ∷ load 2 1 ∷ load 0 2 ∷ load 0 3 ∷ load 1 2 ∷ load 1 3 ∷ []
unfolding start
union-loads = refl

-- a report ends its turn: behind document 2 the next block is decoded in the turn after its report
report-ends-turn : ((after (ruled nats (script []) 0) (route 2 nats union (l1 ∷ l2 ∷ [])) [] 5).state ≡ row 0 4 ∷ row 1 3 ∷ row 2 1 ∷ [])
    × (skipping_loads 2 nats union (l1 ∷ l2 ∷ []) (script []) 0 5 ≡ load 0 0 ∷ load 1 0 ∷ [])
    × (skipping_loads 2 nats union (l1 ∷ l2 ∷ []) (script []) 0 6 ≡ load 0 0 ∷ load 1 0 ∷ load 0 1 ∷ [])
unfolding start
report-ends-turn = (refl, refl, refl)

single-loads : skipping_loads 2 nats single (l1 ∷ []) (script []) 6 30 ≡ load 0 0 ∷ load 0 1 ∷ load 0 3 ∷ []
unfolding start
single-loads = refl

intersection-loads : skipping_loads 2 nats intersection (l1 ∷ l2 ∷ []) (script []) 10 30
    ≡ load 0 0 ∷ load 1 0 ∷ load 1 1 ∷ load 0 1 ∷ load 1 2 ∷ load 0 3 ∷ load 1 3 ∷ []
unfolding start
intersection-loads = refl

-- after `seek_block` the documents are still those of the block decoded last
stale : doc_here l1 (seek_block_in l1 2 8 fresh) ≡ 0
unfolding start
stale = refl

-- an unloaded tail has the list bound, a loaded one its largest score
tail-unloaded : block_max 2 nats l1 (seek_block_in l1 2 10 fresh) ≡ 10
unfolding start
tail-unloaded = refl

tail-loaded : block_max 2 nats l1 (seek_in l1 2 10 fresh) ≡ 9
unfolding start
tail-loaded = refl

-- ---- blocks of 128

-- documents 0, 2, 4 .. 258: one full block and a tail of two
abbrev evens : Postings ℕ
evens = record { len = 130; full = 1; doc = λ p. 2 * p; score = λ p. 1 + p % 7; bound = λ b. 7; top = 8 }

-- documents 0, 3, 6 .. 57: a tail of twenty
abbrev threes : Postings ℕ
threes = record { len = 20; full = 0; doc = λ p. 3 * p; score = λ p. 1 + p % 5; bound = λ b. 0; top = 6 }

single-128 : Gives 128 single (evens ∷ []) (best 2) 5 260 (row 10 6 ∷ row 12 7 ∷ row 26 7 ∷ [])
unfolding start
single-128 = (record { steps = 140; ended = refl; leaves = refl }, refl)

union-128 : Gives 128 union (evens ∷ threes ∷ []) (best 1) 9 260 (row 12 12 ∷ [])
unfolding start
union-128 = (record { steps = 140; ended = refl; leaves = refl }, refl)

intersection-128 : Gives 128 intersection (evens ∷ threes ∷ []) (best 2) 8 260 (row 12 12 ∷ row 24 10 ∷ row 54 11 ∷ [])
unfolding start
intersection-128 = (record { steps = 200; ended = refl; leaves = refl }, refl)

-- ---- orders

-- `swap_remove` puts the last in the place of the one removed
swept : sweep (λ x. x) 4 (TERMINATED ∷ 5 ∷ 9 ∷ 7 ∷ []) ≡ 7 ∷ 5 ∷ 9 ∷ []
swept = refl

-- `restore_ordering` stops at an equal document
restored : restore_ordering {A = ℕ} (λ x. x / 10) 35 (12 ∷ 31 ∷ 40 ∷ []) ≡ 12 ∷ 35 ∷ 31 ∷ 40 ∷ []
restored = refl
