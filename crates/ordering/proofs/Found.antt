-- What the places that are found tell of the scorers: the pivot's, and the place of the scorer to seek.
use mathlib.Core.List.{List, [], ◌∷◌}
use mathlib.Core.Path.{ap, refl, sym, subst, ◌∙◌, ◌≡◌}
use Prim.Native.Nat.{suc, ℕ, ◌+◌, ◌-◌, ◌<◌, ◌≤◌}
use native.Mathlib.Omega.{arith}
use lib.Dec.{eqb}
use Rattle.std.specs.Prelude.{Some, None}
use lib.ListN.{drop, length, length-drop, take}
use lib.Ieee.{Float}
use borrow.Author.Tests.{eqb-false, eqb-true}
use Rattle.arrays.specs.Every.{All}
use Rattle.route.specs.F32.{f32}
use Rattle.route.specs.Postings.{TERMINATED}
use Rattle.route.proofs.Cases.{on_test}
use Rattle.ordering.specs.Inner.Pivots.{Found, before_pivot, count_on, highest, pivot_at, pivot_of, place_of_highest, place_to_seek, pivot}
use Rattle.term_scorer.specs.declared.TermScorer.{TermScorer}
use Rattle.ordering.specs.declared.Pivot.{Pivot}
use Rattle.ordering.proofs.Places.{drop-take}

count-le : (d : ℕ) (xs : List TermScorer) → count_on d xs ≤ length xs
count-le d [] = omega arith
count-le d (x ∷ xs) = let ih = count-le d xs in on_test (eqb x.doc d) (λ t. rw t (omega arith)) (λ t. rw t (omega arith))

count-on : (d : ℕ) (xs : List TermScorer) → All (λ s. s.doc ≡ d) (take (count_on d xs) xs)
count-on d [] = tt
count-on d (x ∷ xs) = let ih = count-on d xs in on_test (eqb x.doc d) (λ t. rw t (eqb-true x.doc d t, ih)) (λ t. rw t tt)

found_at : (l : List TermScorer) (b₀ b k d : ℕ) (m : List TermScorer) → drop b₀ l ≡ m → Some (pivot b k d) ≡ pivot_at b₀ m → Found l b k d
found_at l b₀ b k d [] e q = let z : ◌≡◌ {A = ℕ} 0 1 = cc in absurd (omega arith)
found_at l b₀ b k d (s ∷ ss) e q =
    let c = count_on s.doc ss in
    on_test (eqb s.doc TERMINATED)
    (λ t. let n : Some (pivot b k d) ≡ None = rw t at q in let z : ◌≡◌ {A = ℕ} 0 1 = cc in absurd (omega arith))
    (λ t.
    let n : Some (pivot b k d) ≡ Some (pivot b₀ (b₀ + 1 + c) s.doc) = rw t at q in
    let same : pivot b k d ≡ pivot b₀ (b₀ + 1 + c) s.doc = cc in
    let nb : b ≡ b₀ = ap (λ (p : Pivot). p.before_pivot_len) same in
    let nk : k ≡ b₀ + 1 + c = ap (λ (p : Pivot). p.pivot_len) same in
    let nd : d ≡ s.doc = ap (λ (p : Pivot). p.pivot_doc) same in
    let kb : k - b₀ ≡ suc c = omega arith in
    let le = count-le s.doc ss in
    let len : length l - b₀ ≡ suc (length ss) = sym (length-drop b₀ l) ∙ ap length e in
    let piv : drop b (take k l) ≡ s ∷ take c ss = ap (λ (z : ℕ). drop z (take k l)) nb ∙ drop-take b₀ k l ∙ (rw (kb, e)) in
    record {
      first = omega arith;
      inside = omega arith;
      on = rw piv (subst (λ (z : ℕ). All (λ r. r.doc ≡ z) (s ∷ take c ss)) (sym nd) (refl, count-on s.doc ss));
      live = λ z. eqb-false s.doc TERMINATED t (sym nd ∙ z);
    })

pub pivot-found : (t : Float) (l : List TermScorer) {b k d : ℕ} → Some (pivot b k d) ≡ pivot_of t l → Found l b k d
unfolding pivot_of
pivot-found t l {b} {k} {d} e =
    let b₀ = before_pivot t f32.nil l in
    found_at l b₀ b k d (drop b₀ l) refl e

highest-in : (x : TermScorer) (xs : List TermScorer) → place_of_highest x xs < suc (length xs)
highest-in x [] = omega arith
highest-in x (y ∷ ys) =
    let ih = highest-in y ys in
    on_test (f32.above x.max_score (highest y ys)) (λ b. rw b (omega arith)) (λ b. rw b (omega arith))

pub seek-inside : (l : List TermScorer) → 0 < length l → place_to_seek l < length l
seek-inside [] h = h
seek-inside (x ∷ xs) h = highest-in x xs
