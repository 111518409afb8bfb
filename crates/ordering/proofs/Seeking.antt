-- `scorer_to_seek`'s loop from the last scorer to the first, and `least_doc`'s over those behind the pivot.
use mathlib.Core.Bool.{false, true}
use mathlib.Core.List.{List, ◌∷◌}
use mathlib.Core.Path.{ap, sym, ◌∙◌, ◌≡◌}
use Prim.Native.Nat.{min, suc, ℕ, ◌+◌, ◌-◌, ◌<◌, ◌≤◌}
use native.Mathlib.Nat.{add-zero, zero-add}
use native.Mathlib.Numerals.{add-one}
use native.Mathlib.Omega.{arith}
use lib.ListN.{drop, get_or, length, take}
use lib.Ieee.{Float}
use Rattle.route.specs.F32.{f32}
use Rattle.ordering.specs.Inner.Scorers.{least_doc_of, no_scorer}
use Rattle.ordering.specs.Inner.Pivots.{highest, place_of_highest, place_to_seek}
use Rattle.term_scorer.specs.declared.TermScorer.{TermScorer}
use Rattle.ordering.proofs.Places.{drop-take-cons, drop-take-nil}

module _ (l : List TermScorer) (n : ℕ) where
  abbrev scorer : ℕ → TermScorer
  scorer i = get_or l i no_scorer

  abbrev behind : ℕ → List TermScorer
  behind i = drop (suc i) (take n l)

  -- of the scorers from place i on, `top` is the highest list bound and `at` its place
  pub record Seeking (at : ℕ) (top : Float) (i : ℕ) : Type 0 where
    pub inside : i < n
    pub top-is : top ≡ highest (scorer i) (behind i)
    pub at-is : at ≡ i + place_of_highest (scorer i) (behind i)

  module _ (long : n ≤ length l) where
    pub begun : 0 < n → Seeking (n - 1) (scorer (n - 1)).max_score (n - 1)
    begun h =
        let x = drop-take-nil l n (suc (n - 1)) (omega arith) in
        record { inside = omega arith; top-is = rw x; at-is = rw (x, add-zero) }

    module _ {at : ℕ} {top : Float} {i : ℕ} (S : Seeking at top i) (h : 0 < i) where
      abbrev j : ℕ
      j = i - 1

      next : behind j ≡ scorer i ∷ behind i
      next =
          let e : suc j ≡ i = omega arith in
          let k = S.inside in
          ap (λ (z : ℕ). drop z (take n l)) e ∙ drop-take-cons l n i no_scorer k long

      pub higher : f32.above (scorer j).max_score top ≡ true → Seeking j (scorer j).max_score j
      higher b =
          let k = S.inside in
          let b' = rw S.top-is at b in
          record { inside = omega arith; top-is = rw (next, b'); at-is = rw (next, b', add-zero) }

      pub lower : f32.above (scorer j).max_score top ≡ false → Seeking at top j
      lower b =
          let k = S.inside in
          let b' = rw S.top-is at b in
          record { inside = omega arith; top-is = rw (next, b') S.top-is; at-is = rw (next, b') (let q = S.at-is in omega arith) }

    pub ended : {at : ℕ} {top : Float} {i : ℕ} → Seeking at top i → i ≤ 0 → at ≡ place_to_seek (take n l)
    ended {i} S h =
        let k = S.inside in
        let z : i ≡ 0 = omega arith in
        let q : take n l ≡ scorer 0 ∷ behind 0 = drop-take-cons l n 0 no_scorer (omega arith) long in
        S.at-is ∙ ap (λ (j : ℕ). j + place_of_highest (scorer j) (behind j)) z ∙ zero-add (place_of_highest (scorer 0) (behind 0))
        ∙ sym (ap place_to_seek q)

module _ (l : List TermScorer) (n goal : ℕ) where
  -- the least of `least` and the documents from place i on is the goal
  pub record Lowering (least i : ℕ) : Type 0 where
    pub inside : i ≤ n
    pub whole : least_doc_of least (drop i (take n l)) ≡ goal

  module _ (long : n ≤ length l) {least i : ℕ} (S : Lowering least i) where
    pub lowers : {least' : ℕ} → i < n → least' ≡ min (get_or l i no_scorer).doc least → Lowering least' (i + 1)
    lowers {least'} h e =
        let q : least_doc_of least (drop i (take n l)) ≡ least_doc_of (min (get_or l i no_scorer).doc least) (drop (i + 1) (take n l)) =
        rw (drop-take-cons l n i no_scorer h long, add-one) in
        record { inside = omega arith; whole = ap (λ (z : ℕ). least_doc_of z (drop (i + 1) (take n l))) e ∙ sym q ∙ S.whole }

    pub lowest : n ≤ i → least ≡ goal
    lowest h = let x = drop-take-nil l n i h in sym (ap (least_doc_of least) x) ∙ S.whole
