-- Every report over an accepted file, stepped, scores a multiple of 1/1024 up to 16,000.
use mathlib.Core.Path.{◌≡◌, refl, ap}
use mathlib.Core.List.{List, [], ◌∷◌, ◌++◌}
use Prim.Native.Nat.{ℕ, zero, suc, ◌<◌}
use native.Mathlib.Omega.{arith}
use lib.Dec.{T, leb}
use lib.ListN.{length, get_or, take}
use lib.Ieee.{Float, nan}
use Rattle.floats.specs.Threshold.{threshold_ok}
use Rattle.arrays.specs.Every.{All}
use Rattle.route.specs.F32.{f32}
use Rattle.route.specs.Report.{Report}
use Rattle.route.specs.Rule as rules
use Rattle.route.specs.Rule.{scores}
use Rattle.route.proofs.Cases.{by-test}
use Rattle.route.proofs.Lists.{all_take}
use Rattle.route.proofs.Hits.{hit-fin}
use Rattle.route.proofs.Reports.{plain-sums}
use Rattle.route.proofs.Stepped.{stepped, SteppedList}
use Rattle.bm25.specs.declared.Scoring.TheVariants.{Stepped}
use Rattle.rule.specs.Rules.{rule_of, start_of}
use Rattle.rule.specs.declared.Rule.{Rule}
use Rattle.notefile.specs.Header.{list_count, documents}
use Rattle.decoded.specs.Lists.{queried}
use Rattle.decoded.specs.Inner.Bytes.{Bytes}
use Rattle.decoded.proofs.AcceptedLists.{accepted-list, queried-all}
use Rattle.request.specs.Request.{asked, mode_of, refusal_of}
use Rattle.request.specs.Lists.{plain_list}
use Rattle.request.specs.declared.Mode.{Mode}
use Rattle.request.proofs.Requests.{let_through}
use Rattle.ranking.specs.Answers.{answer}
use Rattle.ranking.proofs.Demand.{all_named}

abbrev pub OnGrid : Report Float → Type 0
OnGrid r = T (threshold_ok r.score)

as_many : (file query : List ℕ) → length (queried Stepped file query) ≡ length query
unfolding queried
as_many file [] = refl
as_many file (l ∷ ls) = ap suc (as_many file ls)

module _ (file query : List ℕ) (bytes : Bytes file) (mode : Mode) (rule : Rule) (script : List Float) where
  plain-on : refusal_of (asked file query mode Stepped rule script) ≡ 0 → All OnGrid (plain_list (asked file query mode Stepped rule script))
  plain-on e =
      let L = let_through (asked file query mode Stepped rule script) e in
      let few = L.few in
      let lists = queried Stepped file query in
      plain-sums f32 (mode_of mode) lists (rule_of rule script) (start_of rule) (documents file) (λ x. T (threshold_ok x))
      (hit-fin 128 (documents file) stepped.sums (mode_of mode) lists
      (queried-all Stepped file (SteppedList 128 (documents file)) (accepted-list file bytes L.accepted) query (all_named (list_count file) query L.named))
      (omega (arith, as_many file query)))

-- so do the rows of an answer
answer-on : (c n : ℕ) (list : List (Report Float)) → (c ≡ 0 → All OnGrid list) → All OnGrid (answer c n list).rows
answer-on zero n list a =
    by-test (λ (o : rules.Outcome Float). All OnGrid o.rows) (leb (length list) n) (record { code = 0; rows = list }) (record { code = 12; rows = take n list })
    (λ _. a refl) (λ _. all_take OnGrid n list (a refl))
answer-on (suc c) n list a = tt

pub answered-on : (file query : List ℕ) → Bytes file → (mode : Mode) (rule : Rule) (script : List Float) (n : ℕ)
    → let q = asked file query mode Stepped rule script in All OnGrid (answer (refusal_of q) n (plain_list q)).rows
answered-on file query bytes mode rule script n =
    let q = asked file query mode Stepped rule script in
    answer-on (refusal_of q) n (plain_list q) (plain-on file query bytes mode rule script)

-- row by row, with whatever stands behind the reports
pub each_on : (rs : List (Report Float)) (ss : List Float) → All OnGrid rs → (k : ℕ) → k < length rs → T (threshold_ok (get_or (scores rs ++ ss) k nan))
each_on [] ss a k h = absurd (omega arith)
each_on (r ∷ rs) ss a zero h = a.0
each_on (r ∷ rs) ss a (suc k) h = each_on rs ss a.1 k (omega arith)
