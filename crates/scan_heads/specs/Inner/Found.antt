-- A document's scores as the scan holds them, and whether they make a report.
use Rattle.std.specs.Prelude.{Bool, true, false, cond, List, [], ◌∷◌, ℕ, ◌+◌, eqb, length, Float}
use Rattle.std.proofs.Math.Option.{Option, none, some}
use Rattle.std.specs.Float.{binary32}
use Rattle.std.specs.Float.Ieee.{add, lt}
use Rattle.route.specs.F32.{f32}
use Rattle.route.specs.Score.{sum_from}
use Rattle.scan_heads.specs.declared.Found.{Found}

-- the first score, and one addition for each later one
abbrev pub sum_of : List Float → Float
sum_of [] = f32.nil
sum_of (x ∷ xs) = sum_from f32 x xs

-- a document's scores, counted and summed
abbrev pub found_of : List Float → Found
found_of xs = record { matched = length xs; total = sum_of xs }

-- one score more
abbrev pub with_score : Found → Float → Found
with_score f x = record { matched = f.matched + 1; total = cond (eqb f.matched 0) x (add binary32 f.total x) }

-- some list has the document, or where all must have it each of the n
abbrev pub matches_in : Bool → ℕ → ℕ → Bool
matches_in all n matched = cond (eqb matched 0) false (cond all (eqb matched n) true)

-- the sum of a document that matches
abbrev pub hit_in : Bool → ℕ → Found → Option Float
hit_in all n f = cond (matches_in all n f.matched) (some f.total) none

-- it matches, and its sum is above the threshold: an equal sum is not
abbrev pub due_in : Bool → ℕ → Found → Float → Bool
due_in all n f t = cond (matches_in all n f.matched) (lt t f.total) false
