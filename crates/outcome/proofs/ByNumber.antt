-- A refusal is known by its number, which is neither 0 nor 12; so an answer is known by its number, and an outcome by its number and its count.
use mathlib.Core.Path.{◌≡◌, refl, sym, ap, ◌∙◌}
use mathlib.Core.Bool.{Bool, true, false, true≢false, cond}
use Prim.Native.Nat.{ℕ}
use native.Mathlib.Omega.{arith}
use lib.Dec.{eqb}
use denote.Enum.Bare.{sameb, same_true, same_false}
use borrow.Author.Rules.{rules}
use Rattle.std.specs.Result.{result_eq}
use Rattle.std.specs.Prelude.{Result, Ok, Err}
use Rattle.outcome.specs.Refusals as refusals
use Rattle.outcome.specs.Refusals.{refusal_number}
use Rattle.outcome.specs.Outcomes.{count_of, number_of}
use Rattle.outcome.specs.Inner.Finished.{finished}
use Rattle.outcome.specs.contracts.refusal.Refusal.{the_type}
use Rattle.outcome.specs.declared.refusal.Refusal.{Refusal}
use Rattle.outcome.specs.declared.refusal.Refusal.TheVariants.{Header, Average, Length, Entry, Skips, Postings, Documents, Frequencies, Bound, Query, Rule, Output, Notes}
use Rattle.outcome.specs.declared.Outcome.{Outcome}
use Rattle.outcome.specs.declared.Outcome.TheVariants.{Done, Full, Refused}

-- the refusal of a number
refusal_at : ℕ → Refusal
refusal_at n =
    cond (eqb n 1) Header (
    cond (eqb n 2) Average (
    cond (eqb n 3) Length (
    cond (eqb n 4) Entry (
    cond (eqb n 5) Skips (
    cond (eqb n 6) Postings (
    cond (eqb n 7) Documents (
    cond (eqb n 8) Frequencies (
    cond (eqb n 9) Bound (
    cond (eqb n 10) Query (
    cond (eqb n 11) Rule (
    cond (eqb n 13) Output (
    Notes))))))))))))

at-number : (r : Refusal) → refusal_at (refusals.number_of r) ≡ r
unfolding refusal_at
at-number Header = refl
at-number Average = refl
at-number Length = refl
at-number Entry = refl
at-number Skips = refl
at-number Postings = refl
at-number Documents = refl
at-number Frequencies = refl
at-number Bound = refl
at-number Query = refl
at-number Rule = refl
at-number Output = refl
at-number Notes = refl

pub number-injective : (r s : Refusal) → refusals.number_of r ≡ refusals.number_of s → r ≡ s
number-injective r s e = sym (at-number r) ∙ ap refusal_at e ∙ at-number s

pub no-refusal : (r : Refusal) → (refusals.number_of r ≡ 0 → ⊥) × (refusals.number_of r ≡ 12 → ⊥)
no-refusal Header = ((λ e. omega (arith, e)), (λ e. omega (arith, e)))
no-refusal Average = ((λ e. omega (arith, e)), (λ e. omega (arith, e)))
no-refusal Length = ((λ e. omega (arith, e)), (λ e. omega (arith, e)))
no-refusal Entry = ((λ e. omega (arith, e)), (λ e. omega (arith, e)))
no-refusal Skips = ((λ e. omega (arith, e)), (λ e. omega (arith, e)))
no-refusal Postings = ((λ e. omega (arith, e)), (λ e. omega (arith, e)))
no-refusal Documents = ((λ e. omega (arith, e)), (λ e. omega (arith, e)))
no-refusal Frequencies = ((λ e. omega (arith, e)), (λ e. omega (arith, e)))
no-refusal Bound = ((λ e. omega (arith, e)), (λ e. omega (arith, e)))
no-refusal Query = ((λ e. omega (arith, e)), (λ e. omega (arith, e)))
no-refusal Rule = ((λ e. omega (arith, e)), (λ e. omega (arith, e)))
no-refusal Output = ((λ e. omega (arith, e)), (λ e. omega (arith, e)))
no-refusal Notes = ((λ e. omega (arith, e)), (λ e. omega (arith, e)))

-- an answer is the one with its number
pub answer-injective : (r s : Result (Unit {0}) Refusal) → refusal_number r ≡ refusal_number s → r ≡ s
answer-injective (Ok a) (Ok b) e = refl
answer-injective (Ok a) (Err s) e = absurd ((no-refusal s).0 (sym e))
answer-injective (Err r) (Ok b) e = absurd ((no-refusal r).0 e)
answer-injective (Err r) (Err s) e = ap Err (number-injective r s e)

-- and an outcome the one with its number and its count
pub outcome-injective : (r s : Outcome) → number_of r ≡ number_of s → count_of r ≡ count_of s → r ≡ s
outcome-injective (Done n) (Done m) e k = ap Done k
outcome-injective (Done n) (Full m) e k = absurd (omega (arith, e))
outcome-injective (Done n) (Refused s) e k = absurd ((no-refusal s).0 (sym e))
outcome-injective (Full n) (Done m) e k = absurd (omega (arith, e))
outcome-injective (Full n) (Full m) e k = ap Full k
outcome-injective (Full n) (Refused s) e k = absurd ((no-refusal s).1 (sym e))
outcome-injective (Refused r) (Done m) e k = absurd ((no-refusal r).0 e)
outcome-injective (Refused r) (Full m) e k = absurd ((no-refusal r).1 e)
outcome-injective (Refused r) (Refused s) e k = ap Refused (number-injective r s e)

-- what the test of an answer against one refusal says
module _ {A : Type 0} (E : A → A → Bool) (s : Refusal) where
  pub is-refusal : (r : Result A Refusal) → true ≡ result_eq E (sameb the_type) r (Err s) → refusal_number r ≡ refusals.number_of s
  is-refusal (Ok a) e = absurd (true≢false e)
  is-refusal (Err r) e = ap refusals.number_of (same_true the_type (search rules) r s (sym e))

  pub other_refusal : (r : Result A Refusal) → false ≡ result_eq E (sameb the_type) r (Err s) → refusal_number r ≡ refusals.number_of s → ⊥
  other_refusal (Ok a) e k = (no-refusal s).0 (sym k)
  other_refusal (Err r) e k = same_false the_type r s (sym e) (number-injective r s k)

-- a run that was let through, in the table's numbers
pub number-finished : (full : Bool) (count : ℕ) → number_of (finished full count) ≡ cond full 12 0
number-finished true count = refl
number-finished false count = refl

pub count-finished : (full : Bool) (count : ℕ) → count_of (finished full count) ≡ count
count-finished true count = refl
count-finished false count = refl
