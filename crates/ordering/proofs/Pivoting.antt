-- `find_pivot_doc`: the loop up to the pivot, the loop over the scorers on it, and what the two find.
use mathlib.Core.Bool.{false, true}
use mathlib.Core.List.{List, ◌∷◌}
use mathlib.Core.Path.{ap, sym, ◌∙◌, ◌≡◌}
use Prim.Native.Nat.{suc, ℕ, ◌+◌, ◌<◌, ◌≤◌}
use native.Mathlib.Nat.{zero-add}
use native.Mathlib.Numerals.{add-one}
use native.Mathlib.Omega.{arith}
use lib.ListN.{drop, get_or, length, take}
use lib.Ieee.{Float}
use borrow.Author.Tests.{eq-eqb, ne_eqb}
use Rattle.route.specs.F32.{f32}
use Rattle.route.specs.Postings.{TERMINATED}
use Rattle.ordering.specs.Inner.Scorers.{no_scorer}
use Rattle.ordering.specs.Inner.Pivots.{before_pivot, count_on, pivot, pivot_at, pivot_of}
use Rattle.term_scorer.specs.declared.TermScorer.{TermScorer}
use Rattle.std.specs.Prelude.{Some, None}
use Rattle.ordering.proofs.Places.{drop-take-cons, drop-take-nil}

module _ (t : Float) (l : List TermScorer) (n : ℕ) where
  -- the first i, with their list bounds summed to acc, do not exceed t
  pub record Summing (i : ℕ) (acc : Float) : Type 0 where
    pub inside : i ≤ n
    pub whole : before_pivot t f32.nil (take n l) ≡ i + before_pivot t acc (drop i (take n l))

  pub summing : Summing 0 f32.nil
  summing = record { inside = omega arith; whole = rw zero-add }

  module _ (long : n ≤ length l) {i : ℕ} {acc : Float} (S : Summing i acc) where
    pub exceeds : i < n → f32.above (f32.add acc (get_or l i no_scorer).max_score) t ≡ true
        → i ≡ before_pivot t f32.nil (take n l)
    exceeds h b =
        let q : before_pivot t acc (drop i (take n l)) ≡ 0 = rw (drop-take-cons l n i no_scorer h long, b) in
        let w = S.whole in
        omega arith

    pub adds : i < n → f32.above (f32.add acc (get_or l i no_scorer).max_score) t ≡ false
        → Summing (i + 1) (f32.add acc (get_or l i no_scorer).max_score)
    adds h b =
        let w = S.whole in
        let q : before_pivot t acc (drop i (take n l))
        ≡ suc (before_pivot t (f32.add acc (get_or l i no_scorer).max_score) (drop (i + 1) (take n l))) =
        rw (drop-take-cons l n i no_scorer h long, b, add-one) in
        record { inside = omega arith; whole = omega arith }

    pub never : n ≤ i → i ≡ before_pivot t f32.nil (take n l)
    never h =
        let q : before_pivot t acc (drop i (take n l)) ≡ 0 = rw (drop-take-nil l n i h) in
        let w = S.whole in
        omega arith

module _ (d : ℕ) (l : List TermScorer) (n from : ℕ) where
  -- the scorers from `from` up to place i stand on d
  pub record Running (i : ℕ) : Type 0 where
    pub inside : i ≤ n
    pub whole : from + count_on d (drop from (take n l)) ≡ i + count_on d (drop i (take n l))

  module _ (long : n ≤ length l) {i : ℕ} (S : Running i) where
    pub leaves : i < n → ((get_or l i no_scorer).doc ≡ d → ⊥) → i ≡ from + count_on d (drop from (take n l))
    leaves h ne =
        let t = ne_eqb (get_or l i no_scorer).doc d ne in
        let q : count_on d (drop i (take n l)) ≡ 0 = rw (drop-take-cons l n i no_scorer h long, t) in
        let w = S.whole in
        omega arith

    pub runs : i < n → (get_or l i no_scorer).doc ≡ d → Running (i + 1)
    runs h e =
        let t = eq-eqb (get_or l i no_scorer).doc d e in
        let q : count_on d (drop i (take n l)) ≡ suc (count_on d (drop (i + 1) (take n l))) = rw (drop-take-cons l n i no_scorer h long, t, add-one) in
        let w = S.whole in
        record { inside = omega arith; whole = omega arith }

    pub runs-out : n ≤ i → i ≡ from + count_on d (drop from (take n l))
    runs-out h =
        let q : count_on d (drop i (take n l)) ≡ 0 = rw (drop-take-nil l n i h) in
        let w = S.whole in
        omega arith

module _ (t : Float) (l : List TermScorer) (n b : ℕ) (e : b ≡ before_pivot t f32.nil (take n l)) where
  there : pivot_at b (drop b (take n l)) ≡ pivot_of t (take n l)
  unfolding pivot_of
  there = ap (λ (k : ℕ). pivot_at k (drop k (take n l))) e

  pub none-exceeds : n ≤ b → None ≡ pivot_of t (take n l)
  none-exceeds h = sym (ap (pivot_at b) (drop-take-nil l n b h)) ∙ there

  module _ (h : b < n) (long : n ≤ length l) where
    here : pivot_at b (get_or l b no_scorer ∷ drop (suc b) (take n l)) ≡ pivot_of t (take n l)
    here = sym (ap (pivot_at b) (drop-take-cons l n b no_scorer h long)) ∙ there

    pub finished : (get_or l b no_scorer).doc ≡ TERMINATED → None ≡ pivot_of t (take n l)
    finished q = let z = eq-eqb (get_or l b no_scorer).doc TERMINATED q in (rw z) ∙ here

    pub found : {k : ℕ} → ((get_or l b no_scorer).doc ≡ TERMINATED → ⊥) → k ≡ b + 1 + count_on (get_or l b no_scorer).doc (drop (b + 1) (take n l))
        → Some (pivot b k (get_or l b no_scorer).doc) ≡ pivot_of t (take n l)
    found ne q = let z = ne_eqb (get_or l b no_scorer).doc TERMINATED ne in (rw (z, q, add-one)) ∙ here
