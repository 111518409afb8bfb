-- Tests over all numbers below a bound.
use mathlib.Core.Path.{◌≡◌, refl, sym, ap, ◌∙◌}
use mathlib.Core.Bool.{Bool, true, false, ◌&&◌, true≢false}
use mathlib.Core.Logic.{inl, inr, ⊎_elim}
use Prim.Native.Nat.{ℕ, zero, suc, ◌+◌, ◌<◌}
use native.Mathlib.Nat.{eq-or-lt_of_le, le_of_suc-le-suc, not-suc-le-zero}
use native.Mathlib.Numerals.{add-one}
use native.Mathlib.Omega.{arith}
use Rattle.arrays.specs.Every.{every}
use Rattle.arrays.proofs.Order.{lt-or-ge}

and-false : (a : Bool) → a && false ≡ false
and-false true = refl
and-false false = refl

and_one : (a : Bool) → a && true ≡ a
and_one true = refl
and_one false = refl

pub and-true : (a b : Bool) → a ≡ true → b ≡ true → a && b ≡ true
and-true true b p q = q
and-true false b p q = p

pub first-true : (a b : Bool) → a && b ≡ true → a ≡ true
first-true true b e = refl
first-true false b e = e

pub second-true : (a b : Bool) → a && b ≡ true → b ≡ true
second-true true b e = e
second-true false b e = absurd (true≢false (sym e))

-- two tests that hold together
pub same_test : (a b : Bool) → (a ≡ true → b ≡ true) → (b ≡ true → a ≡ true) → a ≡ b
same_test true b f g = sym (f refl)
same_test false true f g = g refl
same_test false false f g = refl

module _ (P : ℕ → Bool) where
  -- one that fails
  pub fails : (n k : ℕ) → k < n → P k ≡ false → every n P ≡ false
  fails zero k h e = absurd (not-suc-le-zero h)
  fails (suc n) k h e = elim (eq-or-lt_of_le (le_of_suc-le-suc h)) [
    | inl q ↦ ap (λ (b : Bool). every n P && b) (ap P (sym q) ∙ e) ∙ and-false (every n P)
    | inr l ↦ ap (λ (b : Bool). b && P n) (fails n k l e)
  ]

  -- one more that holds
  pub one_more : (i : ℕ) → every i P ≡ true → P i ≡ true → every (i + 1) P ≡ true
  one_more i p q = rw add-one (and-true (every i P) (P i) p q)

  -- a flag that a loop lowers where P fails: P holds at i, or it fails
  pub stays : (i : ℕ) {a b : Bool} → b ≡ every i P → P i ≡ true → a ≡ b → a ≡ every (i + 1) P
  stays i e p f = rw add-one (f ∙ e ∙ sym (ap (λ (b : Bool). every i P && b) p ∙ and_one (every i P)))

  pub lowered : (i : ℕ) {a : Bool} → P i ≡ false → a ≡ false → a ≡ every (i + 1) P
  lowered i p f = rw add-one (f ∙ sym (ap (λ (b : Bool). every i P && b) p ∙ and-false (every i P)))

  -- what holds of every number holds of each
  pub each : (n i : ℕ) → every n P ≡ true → i < n → P i ≡ true
  each zero i e h = absurd (not-suc-le-zero h)
  each (suc n) i e h = elim (eq-or-lt_of_le (le_of_suc-le-suc h)) [
    | inl q ↦ ap P q ∙ second-true (every n P) (P n) e
    | inr l ↦ each n i (first-true (every n P) (P n) e) l
  ]

  -- what holds of each holds of every one
  pub all : (n : ℕ) → ((i : ℕ) → i < n → P i ≡ true) → every n P ≡ true
  all zero h = refl
  all (suc n) h = and-true (every n P) (P n) (all n (λ i l. h i (omega arith))) (h n (omega arith))

  -- fewer that hold, where not all do
  pub stopped : (n k : ℕ) → every n P ≡ true → every k P ≡ false → n < k
  stopped n k e f = ⊎_elim (λ h. h) (λ h. absurd (true≢false (sym (all k (λ i l. each n i e (omega arith))) ∙ f))) (lt-or-ge n k)
