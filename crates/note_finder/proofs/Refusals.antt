-- The table's order with 14 behind 11.
use mathlib.Core.Path.{ap, refl, sym, ◌∙◌, ◌≡◌}
use mathlib.Core.Bool.{Bool}
use mathlib.Core.List.{[], ◌∷◌}
use Prim.Native.Nat.{ℕ, suc, zero, ◌<◌, ◌≤◌}
use lib.Dec.{leb}
use borrow.Author.Tests.{le-leb, lt-leb}
use Rattle.notefile.specs.Refusal.{test, unless}
use Rattle.notefile.specs.Inner.Order.{or_else}
use Rattle.notefile.proofs.Order.{first-append}
use Rattle.request.specs.Request.{refusal_of, request_tests}
use Rattle.request.proofs.Requests.{request-numbered}
use Rattle.note_finder.specs.Found.{Sought, find_refusal, run_of}

module _ (s : Sought) (rows : ℕ) where
  pub find-or : find_refusal s rows ≡ or_else (refusal_of (run_of s)) (unless (leb s.k rows) 14 0)
  unfolding find_refusal refusal_of
  find-or = first-append 11 (request_tests (run_of s)) (test 14 (leb s.k rows) ∷ []) (request-numbered (run_of s))

  -- note rows enough: the run's refusal is the finder's
  pub enough : s.k ≤ rows → find_refusal s rows ≡ refusal_of (run_of s)
  enough h = find-or ∙ ap (λ (b : Bool). or_else (refusal_of (run_of s)) (unless b 14 0)) (le-leb s.k rows h) ∙ alone (refusal_of (run_of s))
    where
      alone : (r : ℕ) → or_else r 0 ≡ r
      alone zero = refl
      alone (suc r) = refl

  -- a refusal of the run comes first
  pub run-first : {number : ℕ} → number ≡ refusal_of (run_of s) → (number ≡ 0 → ⊥) → number ≡ find_refusal s rows
  run-first {number} e ne = first number ne ∙ ap (λ (r : ℕ). or_else r (unless (leb s.k rows) 14 0)) e ∙ sym find-or
    where
      first : (r : ℕ) → (r ≡ 0 → ⊥) → r ≡ or_else r (unless (leb s.k rows) 14 0)
      first zero h = absurd (h refl)
      first (suc r) h = refl

  -- without one, too few note rows are 14
  pub too_few : {number : ℕ} → number ≡ refusal_of (run_of s) → number ≡ 0 → rows < s.k → 14 ≡ find_refusal s rows
  too_few e z h =
      sym (find-or ∙ ap (λ (r : ℕ). or_else r (unless (leb s.k rows) 14 0)) (sym e ∙ z) ∙ ap (λ (b : Bool). unless b 14 0) (lt-leb s.k rows h))
