-- The first k of a run's rows are the finder's notes: unstepped by definition, stepped since best k leaves none of them out.
use mathlib.Core.Path.{ap, refl, subst, sym, ◌∙◌, ◌≡◌}
use mathlib.Core.List.{List, []}
use Prim.Native.Nat.{ℕ, suc, zero}
use native.Mathlib.Omega.{arith}
use lib.Dec.{T}
use lib.Ieee.{Float}
use Rattle.floats.specs.Inner.Sign.{clear}
use Rattle.route.specs.F32.{f32}
use Rattle.route.specs.Report.{Report}
use Rattle.route.proofs.Lists.{all-imp}
use Rattle.route.proofs.Rows.{all-rows}
use Rattle.route.proofs.Stepped.{stepped-order}
use Rattle.bm25.specs.declared.Scoring.{Scoring}
use Rattle.bm25.specs.declared.Scoring.TheVariants.{Stepped, Unstepped}
use Rattle.rule.specs.Rules.{rule_of}
use Rattle.rule.specs.declared.Rule.TheVariants.{BestK}
use Rattle.rulecheck.proofs.RightRules.{rule-ok}
use Rattle.notefile.specs.Header.{documents, list_count}
use Rattle.reports.specs.Rows.{Rows, rows_in, rows_of}
use Rattle.best_notes.specs.Best.{best_of}
use Rattle.best_notes.specs.Matches.{matches}
use Rattle.best_notes.specs.Inner.Kept.{Clear}
use Rattle.best_notes.proofs.Matches.{plain-best}
use Rattle.decoded.specs.Lists.{queried}
use Rattle.decoded.specs.Inner.Bytes.{Bytes}
use Rattle.decoded.proofs.Files.{file-hits}
use Rattle.decoded.proofs.Reported.{Number}
use Rattle.request.specs.Request.{mode_of, refusal_of}
use Rattle.request.specs.Lists.{plain_list}
use Rattle.request.proofs.Requests.{let_through}
use Rattle.outcome.specs.Outcomes.{count_of, number_of}
use Rattle.outcome.specs.declared.Outcome.{Outcome}
use Rattle.ranking.specs.Answers.{Answered, RunIs, answer}
use Rattle.ranking.specs.Demand.{result_of}
use Rattle.ranking.proofs.Counts.{run-numbers}
use Rattle.ranking.proofs.Demand.{all_named, given-of, rows_are, run-plain}
use Rattle.note_finder.specs.Found.{Sought, pool_of, run_of, sought}

-- with 0 nothing was refused, and the rows are the whole list
pub whole-list : (r n : ℕ) (list : List (Report Float)) → (answer r n list).code ≡ 0 → (r ≡ 0) × ((answer r n list).rows ≡ list)
whole-list (suc r) n list e = absurd (omega (arith, e))
whole-list zero n list e = (refl, all-rows n list e)

module _ (r : ℕ) (list : List (Report Float)) {old new : Rows} {o : Outcome} (A : Answered (answer r (rows_of old.documents old.scores) list) old o new) (z : number_of o ≡ 0) where
  -- what a run that returned 0 was let through with, and its rows
  pub let-in : r ≡ 0
  let-in = let n = rows_of old.documents old.scores in (whole-list r n list (sym (given-of r n list A).number_is ∙ z)).0

  pub rows-listed : rows_in (count_of o) new.documents new.scores ≡ list
  rows-listed =
      let n = rows_of old.documents old.scores in
      let G = given-of r n list A in
      rows_are (answer r n list) old (result_of o new) G ∙ (whole-list r n list (sym G.number_is ∙ z)).1

module _ (s : Sought) (bytes : Bytes s.file) where
  -- a run's scores are of clear sign
  pub run-clear : {old new : Rows} {o : Outcome} → RunIs (run_of s) old o new → Clear (rows_in (count_of o) new.documents new.scores)
  run-clear {old} {new} {o} R =
      all-imp (λ x. Number x.score) (λ x. T (clear x.score)) (rows_in (count_of o) new.documents new.scores) (λ x n. n.0) (run-numbers (run_of s) bytes R)

-- THE FIRST k OF A STEPPED RUN'S ROWS ARE THE FIRST k OF ALL MATCHING DOCUMENTS ABOVE THE START
pub run-best : (s : Sought) → Bytes s.file → s.scoring ≡ Stepped → {old new : Rows} {o : Outcome} → RunIs (run_of s) old o new → number_of o ≡ 0
    → best_of f32 s.k (rows_in (count_of o) new.documents new.scores)
    ≡ best_of f32 s.k (matches f32 (mode_of s.mode) (queried Stepped s.file s.query) s.start (documents s.file))
run-best s bytes e {old} {new} {o} R z =
    let t = sought s.file s.query s.mode Stepped s.start s.k in
    let q = run_of t in
    let S : RunIs q old o new = subst (λ (c : Scoring). RunIs (run_of (sought s.file s.query s.mode c s.start s.k)) old o new) e R in
    let P = run-plain s.file s.query bytes s.mode (BestK s.start s.k) [] S in
    let L = let_through q (let-in (refusal_of q) (plain_list q) P z) in
    let right = rule-ok (BestK s.start s.k) [] L.rule-right in
    ap (best_of f32 s.k) (rows-listed (refusal_of q) (plain_list q) P z)
    ∙ plain-best f32 stepped-order s.k s.start right.1 right.0 (mode_of s.mode) (queried Stepped s.file s.query) (documents s.file)
    (file-hits s.file bytes L.accepted s.query (all_named (list_count s.file) s.query L.named) L.few (mode_of s.mode) L.takes (rule_of (BestK s.start s.k) []))

-- in both scorings
pub run-notes : (s : Sought) → Bytes s.file → {old new : Rows} {o : Outcome} (R : RunIs (run_of s) old o new) → number_of o ≡ 0
    → best_of f32 s.k (rows_in (count_of o) new.documents new.scores) ≡ best_of f32 s.k (pool_of s s.scoring R.list)
run-notes s bytes {old} {new} {o} R z = go s.scoring refl
  where
    go : (c : Scoring) → s.scoring ≡ c → best_of f32 s.k (rows_in (count_of o) new.documents new.scores) ≡ best_of f32 s.k (pool_of s c R.list)
    go Stepped e = run-best s bytes e R z
    go Unstepped e = ap (best_of f32 s.k) (rows-listed (refusal_of (run_of s)) R.list R.answered z)
