-- Unstepped f32 scores, where rounding shows: what 01 says of the intersection's difference and of the order of sums.
use mathlib.Core.Bool.{false}
use mathlib.Core.List.{List, [], ◌∷◌}
use mathlib.Core.Path.{refl, ◌≡◌}
use Prim.Native.Nat.{pred, ℕ}
use lib.Ieee.{Float, add, binary32, fin, lt, round, sub}
use lib.IntN.{negsuc}
use lib.ListN.{get_or, length}
use Rattle.route.specs.F32.{f32}
use Rattle.route.specs.Rule.{script}
use Rattle.route.specs.Postings.{Postings, start}
use Rattle.route.specs.Plain.{intersection, plain, union}
use Rattle.route.specs.Skipping.{Skips}

-- m · 2^-k, for an odd m
abbrev parts : ℕ → ℕ → Float
parts m k = fin false m (negsuc (pred k))

-- in units of 2^-14: 1.5 and 8,388,616
abbrev small : Float
small = parts 3 15

abbrev large : Float
large = parts 1048577 11

-- a list of fewer than 128 documents, all of one score, which is its bound
abbrev flat : List ℕ → Float → Postings Float
flat ds x = record { len = length ds; full = 0; doc = λ p. get_or ds p 0; score = λ p. x; bound = λ b. x; top = x }

-- ---- the intersection loses a hit, at threshold 8,388,617

-- the difference of threshold and secondary bound rounds to the leader's score
difference-rounds : sub binary32 (parts 8388617 14) small ≡ large
unfolding round sub
difference-rounds = refl

-- their sum rounds to 8,388,618
sum-rounds : add binary32 large small ≡ parts 4194309 13
unfolding round add
sum-rounds = refl

-- so the skipping run drops the leader, and the plain scan reports
hit-lost : Skips 128 f32 intersection (flat (0 ∷ []) large ∷ flat (0 ∷ []) small ∷ []) (script []) (parts 8388617 14) []
unfolding round add sub lt start
hit-lost = record { steps = 4; ended = refl; leaves = refl }

hit-scanned : plain f32 intersection (flat (0 ∷ []) large ∷ flat (0 ∷ []) small ∷ []) (script []) (parts 8388617 14) 1
    ≡ record { doc = 0; score = parts 4194309 13 } ∷ []
unfolding round add sub lt start
hit-scanned = refl

-- ---- the union adds in the scorers' order, at threshold 8,388,619

-- in query order document 1 has 8,388,619; in the scorers' order, the list with document 0 first, 8,388,620
abbrev three_lists : List (Postings Float)
three_lists = flat (1 ∷ []) small ∷ flat (1 ∷ []) small ∷ flat (0 ∷ 1 ∷ []) large ∷ []

scorers-order : Skips 128 f32 union three_lists (script []) (parts 8388619 14) (record { doc = 1; score = parts 2097155 12 } ∷ [])
unfolding round add sub lt start
scorers-order = record { steps = 3; ended = refl; leaves = refl }

query-order : plain f32 union three_lists (script []) (parts 8388619 14) 2 ≡ []
unfolding round add sub lt start
query-order = refl
