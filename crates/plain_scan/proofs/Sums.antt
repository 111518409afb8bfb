-- Scores counted and summed as they are found, and the sum that a mode takes for a match.
use mathlib.Core.Path.{◌≡◌, refl, sym, ap, ◌∙◌}
use mathlib.Core.Bool.{true, false}
use mathlib.Core.List.{List, [], ◌∷◌, ◌++◌}
use mathlib.Core.Option.{none}
use Prim.Native.Nat.{ℕ, suc, ◌+◌, ◌<◌}
use native.Mathlib.Omega.{arith}
use lib.Dec.{eqb}
use lib.ListN.{length, length-append}
use lib.Ieee.{Float}
use borrow.Author.Tests.{eq-eqb, ne_eqb}
use Rattle.route.specs.F32.{f32}
use Rattle.route.specs.Score.{sum_from}
use Rattle.route.specs.Postings.{Postings}
use Rattle.route.specs.Plain.{Mode, union, intersection, single, present, total_of, all_of, hit}
use Rattle.route.proofs.Hits.{Every, e-all, e-not, every}
use Rattle.scan_heads.specs.Inner.Found.{found_of, with_score, hit_in}
use Rattle.plain_scan.specs.Inner.Turns.{needs_all}

sum-snoc : (acc : Float) (xs : List Float) (x : Float) → sum_from f32 acc (xs ++ (x ∷ [])) ≡ f32.add (sum_from f32 acc xs) x
sum-snoc acc [] x = refl
sum-snoc acc (y ∷ ys) x = sum-snoc (f32.add acc y) ys x

-- a score is there
not_none : (xs : List Float) → eqb (suc (length xs)) 0 ≡ false
not_none xs = ne_eqb (suc (length xs)) 0 (λ e. omega (arith, e))

-- one score more
pub found-snoc : (xs : List Float) (x : Float) → with_score (found_of xs) x ≡ found_of (xs ++ (x ∷ []))
found-snoc [] x = refl
found-snoc (y ∷ ys) x =
    let n : suc (length ys) + 1 ≡ suc (length (ys ++ (x ∷ []))) = omega (arith, length-append ys (x ∷ [])) in
    rw (not_none ys, n, sum-snoc y ys x)

-- ---- a match

-- in a mode that asks for no more, one list is enough
any-hit : (n : ℕ) (xs : List Float) → hit_in false n (found_of xs) ≡ total_of f32 xs
any-hit n [] = refl
any-hit n (x ∷ xs) = rw (not_none xs)

-- where each list has it, its scores are as many as the lists
all-hit : (xs : List Float) → hit_in true (length xs) (found_of xs) ≡ total_of f32 xs
all-hit [] = refl
all-hit (x ∷ xs) = rw (not_none xs, eq-eqb (suc (length xs)) (suc (length xs)) refl)

few-hit : (n : ℕ) (xs : List Float) → length xs < n → hit_in true n (found_of xs) ≡ none
few-hit n [] h = refl
few-hit n (x ∷ xs) h = rw (not_none xs, ne_eqb (suc (length xs)) n (λ e. omega (arith, e, h)))

-- what the scan takes for a match is the mode's
pub hit-is : (m : Mode) (q : List (Postings Float)) (d : ℕ) → hit f32 m q d ≡ hit_in (needs_all m) (length q) (found_of (present d q))
hit-is union q d = sym (any-hit (length q) (present d q))
hit-is single q d = sym (any-hit (length q) (present d q))
hit-is intersection q d = go (every d q)
  where
    go : Every d q → hit f32 intersection q d ≡ hit_in true (length q) (found_of (present d q))
    go (e-all a b) = ap (all_of f32) a ∙ sym (all-hit (present d q)) ∙ ap (λ (n : ℕ). hit_in true n (found_of (present d q))) b
    go (e-not a b) = ap (all_of f32) a ∙ sym (few-hit (length q) (present d q) b)
