-- What an answer tells: its index is the count, and the value there is the target exactly when it is a hit.
use Rattle.std.specs.Prelude.{Result, Ok, Err, is_ok}
use mathlib.Core.Path.{◌≡◌, refl, sym, ap, ◌∙◌}
use mathlib.Core.Bool.{Bool, true, false, true≢false}
use mathlib.Core.List.{List}
use mathlib.Core.Logic.{inl, inr}
use Prim.Native.Nat.{ℕ, ◌<◌}
use lib.ListN.{get_or}
use borrow.Author.Tests.{lt-ltb, le-ltb, eq-eqb, eqb-true}
use Rattle.arrays.proofs.Order.{lt-or-ge}
use Rattle.block_search.specs.Search.{answer_if, count_below, holds_at, search_answer}
use Rattle.block_search.specs.Inner.Answers.{index_of}

pub index_is : (b : Bool) (i : ℕ) → index_of (answer_if b i) ≡ i
index_is true i = refl
index_is false i = refl

hit-is : (b : Bool) (i : ℕ) → is_ok (answer_if b i) ≡ b
hit-is true i = refl
hit-is false i = refl

-- an answer is that of its parts
pub answer_back : (a : Result ℕ ℕ) → answer_if (is_ok a) (index_of a) ≡ a
answer_back (Ok i) = refl
answer_back (Err n) = refl

pub hit-told : (b : Bool) (i : ℕ) {j : ℕ} → answer_if b i ≡ Ok j → (b ≡ true) × (i ≡ j)
hit-told b i e = (sym (hit-is b i) ∙ ap is_ok e, sym (index_is b i) ∙ ap index_of e)

pub miss-told : (b : Bool) (i : ℕ) {j : ℕ} → answer_if b i ≡ Err j → (b ≡ false) × (i ≡ j)
miss-told b i e = (sym (hit-is b i) ∙ ap is_ok e, sym (index_is b i) ∙ ap index_of e)

-- the search's answer, exactly
module _ (values : List ℕ) (target : ℕ) where
  abbrev count : ℕ
  count = count_below 128 values target

  holds-there : {n : ℕ} → n < 128 → get_or values n 0 ≡ target → holds_at values target n ≡ true
  holds-there {n} h e = rw (lt-ltb n 128 h, eq-eqb (get_or values n 0) target e)

  there-holds : (n : ℕ) → holds_at values target n ≡ true → (n < 128) × (get_or values n 0 ≡ target)
  there-holds n e = elim (lt-or-ge n 128) [
    | inl h ↦ (h, eqb-true (get_or values n 0) target (rw (lt-ltb n 128 h) at e))
    | inr h ↦ absurd (true≢false (sym (rw (le-ltb n 128 h) at e)))
  ]

  pub hit-when : count < 128 → get_or values count 0 ≡ target → search_answer values target ≡ Ok count
  hit-when h e = ap (λ (b : Bool). answer_if b count) (holds-there h e)

  pub hit-only : {i : ℕ} → search_answer values target ≡ Ok i → (count ≡ i) × (count < 128) × (get_or values count 0 ≡ target)
  hit-only e = let t = hit-told _ count e in let h = there-holds count t.0 in (t.1, h.0, h.1)

  pub miss-only : {n : ℕ} → search_answer values target ≡ Err n → (count ≡ n) × (count < 128 → get_or values count 0 ≡ target → ⊥)
  miss-only e = let t = miss-told _ count e in (t.1, λ h k. true≢false (sym (holds-there h k) ∙ t.0))
