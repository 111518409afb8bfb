-- Outcomes as answers: refused, or let through.
use mathlib.Core.Path.{◌≡◌, refl, sym, ◌∙◌, subst}
use mathlib.Core.List.{List, []}
use Prim.Native.Nat.{ℕ, zero, suc}
use lib.ListN.{length}
use lib.Ieee.{Float}
use Rattle.route.specs.Report.{Report}
use Rattle.route.specs.Rule as rules
use Rattle.route.specs.Rule.{limited}
use Rattle.reports.specs.Rows.{Rows, rows_of}
use Rattle.reports.proofs.RowLaws.{none_written}
use Rattle.request.specs.Request.{Request, refusal_of}
use Rattle.request.specs.Lists.{plain_list}
use Rattle.beginning.specs.declared.Way.TheVariants.{Plain, Skipping}
use Rattle.outcome.specs.Refusals as refusals
use Rattle.outcome.specs.Outcomes.{number_of, count_of}
use Rattle.outcome.specs.declared.refusal.Refusal.{Refusal}
use Rattle.outcome.specs.declared.Outcome.{Outcome}
use Rattle.outcome.specs.declared.Outcome.TheVariants.{Refused}
use Rattle.outcome.proofs.ByNumber.{no-refusal, outcome-injective}
use Rattle.ranking.specs.Answers.{answer, Answered, RunIs, PlainIs}
use Rattle.ranking.specs.Inner.Runs.{Listed}

-- THE OUTCOME OF AN ANSWER IS THE ONLY ONE WITH ITS NUMBER AND ITS COUNT
pub outcome-is : {a : rules.Outcome Float} {old new : Rows} {r : Outcome} → Answered a old r new → (o : Outcome) → number_of o ≡ a.code → count_of o ≡ length a.rows → r ≡ o
outcome-is {r = r} A o e k = outcome-injective r o (A.number_is ∙ sym e) (A.count-is ∙ sym k)

-- a refusal has its number and touches no row
pub refused : (old : Rows) (n : ℕ) (list : List (Report Float)) (r : ℕ) (refusal : Refusal) → refusals.number_of refusal ≡ r → Answered (answer r n list) old (Refused refusal) old
refused old n list zero refusal e = absurd ((no-refusal refusal).0 e)
refused old n list (suc r) refusal e = record { number_is = e; count-is = refl; written = none_written old.documents old.scores }

-- a run that was let through has its list
let-answered : (r n : ℕ) (list : List (Report Float)) → r ≡ 0 → {old : Rows} {o : Outcome} {new : Rows} → Answered (limited n list) old o new → Answered (answer r n list) old o new
let-answered r n list e {old} {o} {new} A = subst (λ (z : ℕ). Answered (answer z n list) old o new) (sym e) A

module _ (q : Request) where
  -- a run that is refused, of either kind
  pub refused-plain : (old : Rows) (refusal : Refusal) → refusals.number_of refusal ≡ refusal_of q → PlainIs q old (Refused refusal) old
  refused-plain old refusal e = refused old (rows_of old.documents old.scores) (plain_list q) (refusal_of q) refusal e

  pub refused-run : (old : Rows) (refusal : Refusal) → refusals.number_of refusal ≡ refusal_of q → RunIs q old (Refused refusal) old
  refused-run old refusal e = record {
    list = [];
    by-route = λ z. absurd ((no-refusal refusal).0 (e ∙ z));
    answered = refused old (rows_of old.documents old.scores) [] (refusal_of q) refusal e;
  }

  -- one that was let through
  pub let-plain : refusal_of q ≡ 0 → {old : Rows} {r : Outcome} {new : Rows} → Listed Plain q old r new → PlainIs q old r new
  let-plain e {old} {r} {new} L =
      let-answered (refusal_of q) (rows_of old.documents old.scores) (plain_list q) e
      (subst (λ (list : List (Report Float)). Answered (limited (rows_of old.documents old.scores) list) old r new) L.list-for L.answered)

  pub let-run : refusal_of q ≡ 0 → {old : Rows} {r : Outcome} {new : Rows} → Listed Skipping q old r new → RunIs q old r new
  let-run e {old} L = record {
    list = L.list;
    by-route = λ _. L.list-for;
    answered = let-answered (refusal_of q) (rows_of old.documents old.scores) L.list e L.answered;
  }
