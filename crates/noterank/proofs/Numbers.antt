-- The table's order over the numbers of a call, and answers as numbers.
use mathlib.Core.Path.{◌≡◌, refl, sym, ap, ◌∙◌, subst}
use mathlib.Core.Bool.{Bool, true, false, cond, ◌&&◌}
use mathlib.Core.List.{List, [], ◌∷◌}
use Prim.Native.Nat.{ℕ, zero, suc, ◌<◌}
use native.Mathlib.Omega.{arith}
use lib.Dec.{leb}
use lib.Ieee.{Float}
use Rattle.route.specs.Report.{Report}
use Rattle.bm25.specs.declared.Scoring.{Scoring}
use Rattle.rulecheck.specs.Right.{rule_right}
use Rattle.rule.specs.declared.Rule.{Rule}
use Rattle.notefile.specs.Header.{list_count}
use Rattle.notefile.specs.Refusal.{test, unless, file_tests, file_refusal}
use Rattle.notefile.specs.Inner.Order.{or_else}
use Rattle.notefile.proofs.Order.{first-append, file-numbered}
use Rattle.reports.specs.Rows.{Rows, rows_of}
use Rattle.reports.proofs.RowLaws.{none_written}
use Rattle.decoded.specs.Inner.Bytes.{Bytes}
use Rattle.request.specs.Request.{Request, asked, query_right, refusal_of}
use Rattle.request.specs.Lists.{plain_list}
use Rattle.request.specs.declared.Mode.{Mode}
use Rattle.request.proofs.Requests.{query-or, request-or}
use Rattle.arguments.specs.Numbers.{mode_at, scoring_at, rule_at}
use Rattle.outcome.specs.Outcomes.{count_of, number_of}
use Rattle.outcome.specs.declared.Outcome.{Outcome}
use Rattle.ranking.specs.Answers.{answer, Answered, PlainIs, RunIs}
use Rattle.ranking.specs.Demand.{Given, result, Demand3}
use Rattle.ranking.proofs.Demand.{demand-3, given-of}
use Rattle.ranking.proofs.Counts.{run-few, plain-few}
use Rattle.noterank.specs.Interface.{Call, request_of, call_refusal, ListBy, Ranked}
use Rattle.noterank.specs.Inner.Calls.{numbers_refusal, OutcomeBy}

-- ---- the run of a walk

module _ (q : Request) (old new : Rows) (r : Outcome) where
  pub skipping-by : (walk : ℕ) → walk ≡ 0 → RunIs q old r new → OutcomeBy walk q old r new
  skipping-by zero e R = R
  skipping-by (suc n) e R = absurd (omega (arith, e))

  pub plain_by : (walk : ℕ) → (walk ≡ 0 → ⊥) → PlainIs q old r new → OutcomeBy walk q old r new
  plain_by zero e P = absurd (e refl)
  plain_by (suc n) e P = P

  -- a count fits 32 bits
  pub few-by : Bytes q.file → (walk : ℕ) → OutcomeBy walk q old r new → count_of r < 4294967296
  few-by bytes zero R = omega (arith, run-few q bytes R)
  few-by bytes (suc n) P = omega (arith, plain-few q bytes P)

-- ---- the table's order over a call

module _ (c : Call) where
  abbrev f : ℕ
  f = file_refusal c.file

  abbrev walk-in : Bool
  walk-in = leb c.walk 1 && leb c.mode 2

  abbrev mode-right : Bool
  mode-right = query_right (list_count c.file) (mode_at c.mode) c.query

  abbrev scoring-in : Bool
  scoring-in = leb c.scoring 1 && leb c.rule 1

  abbrev rule-in : Bool
  rule-in = rule_right (rule_at c.rule c.start c.k) (scoring_at c.scoring) c.script

  abbrev numbers : ℕ
  numbers = numbers_refusal c.file c.query c.walk c.mode c.scoring c.rule

  call-or : call_refusal c ≡ or_else f (unless walk-in 10 (unless mode-right 10 (unless scoring-in 11 (unless rule-in 11 0))))
  unfolding call_refusal file_refusal
  call-or =
      first-append 9 (file_tests c.file) (test 10 walk-in ∷ test 10 mode-right ∷ test 11 scoring-in ∷ test 11 rule-in ∷ []) (file-numbered c.file)

  -- whatever is tested last, a number outside its range refuses before it
  outside : (f : ℕ) (w m s r : Bool) (later : ℕ) → let n = cond w (cond s 0 (or_else (or_else f (unless m 10 0)) 11)) (or_else f 10) in (n ≡ 0 → ⊥)
      → or_else f (unless w 10 (unless m 10 (unless s 11 (unless r 11 later)))) ≡ n
  outside f true m true r l h = absurd (h refl)
  outside zero true true false r l h = refl
  outside zero true false false r l h = refl
  outside (suc f) true m false r l h = refl
  outside zero false m s r l h = refl
  outside (suc f) false m s r l h = refl

  -- and numbers that are in their ranges leave the request's refusal
  inside : (f : ℕ) (w m s r : Bool) (later : ℕ) → cond w (cond s 0 (or_else (or_else f (unless m 10 0)) 11)) (or_else f 10) ≡ 0
      → or_else f (unless w 10 (unless m 10 (unless s 11 (unless r 11 later)))) ≡ or_else (or_else (or_else f (unless m 10 0)) (unless r 11 0)) later
  inside zero true true true true l h = refl
  inside zero true true true false l h = refl
  inside zero true false true r l h = refl
  inside (suc f) true m true r l h = refl
  inside zero true true false r l h = absurd (omega (arith, h))
  inside zero true false false r l h = absurd (omega (arith, h))
  inside (suc f) true m false r l h = absurd (omega (arith, h))
  inside zero false m s r l h = absurd (omega (arith, h))
  inside (suc f) false m s r l h = absurd (omega (arith, h))

  numbers-is : numbers ≡ cond walk-in (cond scoring-in 0 (or_else (or_else f (unless mode-right 10 0)) 11)) (or_else f 10)
  numbers-is = rw (query-or c.file c.query (mode_at c.mode))

  abbrev tests-with : ℕ → ℕ
  tests-with later = or_else f (unless walk-in 10 (unless mode-right 10 (unless scoring-in 11 (unless rule-in 11 later))))

  pub tests-outside : (later : ℕ) → (numbers ≡ 0 → ⊥) → tests-with later ≡ numbers
  tests-outside l ne = outside f walk-in mode-right scoring-in rule-in l (λ e. ne (numbers-is ∙ e)) ∙ sym numbers-is

  pub tests-inside : (later : ℕ) → numbers ≡ 0 → tests-with later ≡ or_else (refusal_of (request_of c)) later
  tests-inside l e =
      inside f walk-in mode-right scoring-in rule-in l (sym numbers-is ∙ e)
      ∙ ap (λ (z : ℕ). or_else z l)
      (sym (request-or (request_of c) ∙ ap (λ (z : ℕ). or_else z (unless rule-in 11 0)) (query-or c.file c.query (mode_at c.mode))))

  call-outside : (numbers ≡ 0 → ⊥) → call_refusal c ≡ numbers
  call-outside ne = call-or ∙ tests-outside 0 ne

  call-inside : numbers ≡ 0 → call_refusal c ≡ refusal_of (request_of c)
  call-inside e = call-or ∙ tests-inside 0 e ∙ alone (refusal_of (request_of c))
    where
      alone : (r : ℕ) → or_else r 0 ≡ r
      alone zero = refl
      alone (suc r) = refl

  -- ---- what the call gives

  pub refused-ranked : (old : Rows) {number : ℕ} → number ≡ numbers → (number ≡ 0 → ⊥) → Ranked c old (result number 0 old)
  refused-ranked old {number} e ne =
      let k = call-outside (λ z. ne (e ∙ z)) in
      record {
        list = [];
        list-is = λ z. absurd (ne (e ∙ sym k ∙ z));
        given = by (call_refusal c) (λ z. ne (e ∙ sym k ∙ z)) (e ∙ sym k);
      }
    where
      by : (r : ℕ) → (r ≡ 0 → ⊥) → number ≡ r → Given (answer r (rows_of old.documents old.scores) []) old (result number 0 old)
      by zero h q = absurd (h refl)
      by (suc r) h q = record { number_is = q; count-is = refl; written = none_written old.documents old.scores }

  -- the run of a walk, ranked
  module _ {m : Mode} (em : m ≡ mode_at c.mode) {s : Scoring} (es : s ≡ scoring_at c.scoring) {u : Rule} (eu : u ≡ rule_at c.rule c.start c.k) where
    pub asked_is : asked c.file c.query m s u c.script ≡ request_of c
    asked_is =
        ap (λ (z : Mode). asked c.file c.query z s u c.script) em ∙ ap (λ (z : Scoring). asked c.file c.query (mode_at c.mode) z u c.script) es
        ∙ ap (λ (z : Rule). asked c.file c.query (mode_at c.mode) (scoring_at c.scoring) z c.script) eu

    pub walk-ranked : (old new : Rows) {refusal : ℕ} → refusal ≡ numbers → refusal ≡ 0 → (r : Outcome) → OutcomeBy c.walk (asked c.file c.query m s u c.script) old r new
        → {number count : ℕ} → number ≡ number_of r → count ≡ count_of r → Ranked c old (result number count new)
    walk-ranked old new is-numbers is_none r O {number} {count} en ec = go c.walk refl (subst (λ (q : Request). OutcomeBy c.walk q old r new) asked_is O)
      where
        e : numbers ≡ 0
        e = sym is-numbers ∙ is_none

        named : (list : List (Report Float)) → Answered (answer (refusal_of (request_of c)) (rows_of old.documents old.scores) list) old r new
            → Given (answer (call_refusal c) (rows_of old.documents old.scores) list) old (result number count new)
        named list A =
            let n = rows_of old.documents old.scores in
            let G = given-of (refusal_of (request_of c)) n list A in
            subst (λ (k : ℕ). Given (answer k n list) old (result number count new)) (sym (call-inside e))
            (record { number_is = en ∙ G.number_is; count-is = ec ∙ G.count-is; written = G.written })

        go : (w : ℕ) → c.walk ≡ w → OutcomeBy w (request_of c) old r new → Ranked c old (result number count new)
        go zero q R = record {
          list = R.list;
          list-is = λ z. subst (λ (w : ℕ). ListBy w (request_of c) R.list) (sym q) (R.by-route (sym (call-inside e) ∙ z));
          given = named R.list R.answered;
        }
        go (suc w) q P = record {
          list = plain_list (request_of c);
          list-is = λ z. subst (λ (v : ℕ). ListBy v (request_of c) (plain_list (request_of c))) (sym q) refl;
          given = named (plain_list (request_of c)) P;
        }

-- ---- demand 3 over two calls

-- a call that returned 0 had its request let through
let-zero : (c : Call) {old : Rows} {n k : ℕ} {new : Rows} (R : Ranked c old (result n k new)) → n ≡ 0 → call_refusal c ≡ 0
let-zero c {old} R e = by (call_refusal c) (rows_of old.documents old.scores) R.list (sym R.given.number_is ∙ e)
  where
    by : (r n : ℕ) (list : List (Report Float)) → (answer r n list).code ≡ 0 → r ≡ 0
    by zero n list e = refl
    by (suc r) n list e = absurd (omega (arith, e))

zero-inside : (c : Call) → call_refusal c ≡ 0 → call_refusal c ≡ refusal_of (request_of c)
zero-inside c e = on-zero (numbers_refusal c.file c.query c.walk c.mode c.scoring c.rule) refl
  where
    on-zero : (n : ℕ) → numbers_refusal c.file c.query c.walk c.mode c.scoring c.rule ≡ n → call_refusal c ≡ refusal_of (request_of c)
    on-zero zero q = call-inside c q
    on-zero (suc n) q = absurd (omega (arith, call-outside c (λ z. omega (arith, sym q ∙ z)) ∙ q, e))

-- DEMAND 3 of a skipping call and a plain one, by their contracts alone
pub calls-demand-3 : (c d : Call) → Bytes c.file → c.walk ≡ 0 → d.walk ≡ 1 → {old old' new new' : Rows} {n k m j : ℕ}
    → Ranked c old (result n k new) → Ranked d old' (result m j new') → Demand3 (request_of c) (request_of d) (result n k new) (result m j new')
calls-demand-3 c d bytes ec ed {old} {old'} {new} {new'} {n} {k} {m} {j} R P alike en em =
    let fc = let-zero c R en in
    let fd = let-zero d P em in
    let ic = zero-inside c fc in
    let id = zero-inside d fd in
    let scan : P.list ≡ plain_list (request_of d) = subst (λ (w : ℕ). ListBy w (request_of d) P.list) ed (P.list-is fd) in
    let size = rows_of old'.documents old'.scores in
    demand-3 (request_of c) (request_of d) bytes (λ _. subst (λ (w : ℕ). ListBy w (request_of c) R.list) ec (R.list-is fc))
    (subst (λ (z : ℕ). Given (answer z (rows_of old.documents old.scores) R.list) old (result n k new)) ic R.given)
    (subst (λ (l : List (Report Float)). Given (answer (refusal_of (request_of d)) size l) old' (result m j new')) scan
    (subst (λ (z : ℕ). Given (answer z size P.list) old' (result m j new')) id P.given))
    alike en em
