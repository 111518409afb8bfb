-- Demand 3 over the rows that any two runs wrote, from their contracts alone.
use mathlib.Core.Path.{◌≡◌, refl, sym, ap, ◌∙◌, subst}
use mathlib.Core.Bool.{true}
use mathlib.Core.List.{List, [], ◌∷◌}
use mathlib.Core.Logic.{◌↔◌}
use Prim.Native.Nat.{ℕ, zero, suc, ◌<◌}
use native.Mathlib.Omega.{arith}
use lib.Dec.{T}
use lib.ListN.{length, get_or}
use lib.Ieee.{Float, lt}
use Rattle.floats.specs.Threshold.{threshold_ok}
use Rattle.arrays.specs.Every.{All}
use Rattle.route.specs.Score.{larger, smaller}
use Rattle.route.specs.F32.{f32}
use Rattle.route.specs.Report.{Report}
use Rattle.route.specs.Rule as rules
use Rattle.route.specs.Rule.{limited}
use Rattle.route.specs.Plain.{plain}
use Rattle.route.specs.Inner.Rules.{RuleOk}
use Rattle.bm25.specs.declared.Scoring.{Scoring}
use Rattle.bm25.specs.declared.Scoring.TheVariants.{Stepped}
use Rattle.rule.specs.Rules.{rule_of, start_of}
use Rattle.rule.specs.declared.Rule.{Rule}
use Rattle.rule.specs.declared.Rule.TheVariants.{Script, BestK}
use Rattle.rulecheck.proofs.RightRules.{rule-ok}
use Rattle.notefile.specs.Header.{list_count, documents}
use Rattle.reports.specs.Rows.{Rows, rows_in, rows_of}
use Rattle.reports.proofs.RowLaws.{rows_written}
use Rattle.decoded.specs.Lists.{queried}
use Rattle.decoded.specs.Inner.Bytes.{Bytes}
use Rattle.decoded.proofs.Files.{file-plain, file-demand-3}
use Rattle.request.specs.Request.{Request, asked, mode_of, refusal_of}
use Rattle.request.specs.Lists.{plain_list, SkippingList}
use Rattle.request.specs.declared.Mode.{Mode}
use Rattle.request.proofs.Requests.{let_through}
use Rattle.outcome.specs.declared.Outcome.{Outcome}
use Rattle.ranking.specs.Answers.{answer, answer_of, Answered, RunIs, PlainIs}
use Rattle.ranking.specs.Demand.{Result, result_of, Given, list_of, OneRule, start_at, from, Demand3}

-- ---- an outcome's number, count and rows

pub given-of : (r n : ℕ) (list : List (Report Float)) {old new : Rows} {o : Outcome} → Answered (answer r n list) old o new → Given (answer r n list) old (result_of o new)
given-of r n list A = record { number_is = A.number_is; count-is = A.count-is; written = A.written }

-- the rows below the count are the reports written
pub rows_are : (a : rules.Outcome Float) (old : Rows) (x : Result) → Given a old x → list_of x ≡ a.rows
rows_are a old x G =
    ap (λ (n : ℕ). rows_in n x.rows.documents x.rows.scores) G.count-is ∙ rows_written G.written

-- 0 is no refusal
let-by-0 : (r n : ℕ) (list : List (Report Float)) → (answer r n list).code ≡ 0 → r ≡ 0
let-by-0 zero n list e = refl
let-by-0 (suc r) n list e = absurd (omega (arith, e))

-- ---- two rules that are one but for their start

same-rule : (a b : Rule) (l m : List Float) → OneRule a l b m → rule_of b m ≡ rule_of a l
same-rule (Script s) (Script t) l m e = ap rules.script (sym e)
same-rule (Script s) (BestK t j) l m e = absurd e
same-rule (BestK s k) (Script t) l m e = absurd e
same-rule (BestK s k) (BestK t j) l m e = ap rules.best (sym e)

-- a rule from another start is that rule but for its start
started : (rule : Rule) (t : Float) → start_of (start_at rule t) ≡ t
started (Script start) t = refl
started (BestK start k) t = refl

pub one-rule-from : (rule : Rule) (script : List Float) (t : Float) → OneRule rule script (start_at rule t) script
one-rule-from (Script start) script t = refl
one-rule-from (BestK start k) script t = refl

pub all_named : (n : ℕ) (query : List ℕ) → ((q : ℕ) → q < length query → get_or query q 0 < n) → All (λ l. l < n) query
all_named n [] h = tt
all_named n (l ∷ ls) h = (h 0 (omega arith), all_named n ls (λ q k. h (suc q) (omega arith)))

-- what demand 3 says of two lists
abbrev Same : Request → Request → Result → Result → Type 0
Same q p x y =
    let s = start_of q.rule in
    let t = start_of p.rule in
    (list_of x ≡ list_of y) ↔ All (λ report. lt (larger f32 s t) report.score ≡ true) (plain_list (from q (smaller f32 s t)))

module _ (file query : List ℕ) (bytes : Bytes file) (mode : Mode) (rule other : Rule) (script script' : List Float) (one : OneRule rule script other script') where
  abbrev q : Request
  q = asked file query mode Stepped rule script

  abbrev p : Request
  p = asked file query mode Stepped other script'

  abbrev Right : Float → Type 0
  Right s = RuleOk f32 (λ x. T (threshold_ok x)) (rule_of rule script) s

  stepped_same : {list : List (Report Float)} {old old' : Rows} {x y : Result} → (refusal_of q ≡ 0 → SkippingList q list)
      → Given (answer_of q list old) old x → Given (answer_of p (plain_list p) old') old' y → x.number ≡ 0 → y.number ≡ 0 → Same q p x y
  stepped_same {list} {old} {old'} {x} {y} by-route X Y ex ey =
      let n = rows_of old.documents old.scores in
      let m = rows_of old'.documents old'.scores in
      let s = start_of rule in
      let t = start_of other in
      let fq = let-by-0 (refusal_of q) n list (sym X.number_is ∙ ex) in
      let fp = let-by-0 (refusal_of p) m (plain_list p) (sym Y.number_is ∙ ey) in
      let L = let_through q fq in
      let K = let_through p fp in
      let ls = queried Stepped file query in
      let e = same-rule rule other script script' one in
      let scanned : plain_list p ≡ plain f32 (mode_of mode) ls (rule_of rule script) t (documents file) =
      ap (λ (z : rules.Rule Float). plain f32 (mode_of mode) ls z t (documents file)) e in
      let X' = subst (λ (c : ℕ). Given (answer c n list) old x) fq X in
      let Y' = subst (λ (l : List (Report Float)). Given (limited m l) old' y) scanned (subst (λ (c : ℕ). Given (answer c m (plain_list p)) old' y) fp Y) in
      let right-s : Right s = rule-ok rule script L.rule-right in
      let right-t : Right t = subst (λ (z : rules.Rule Float). RuleOk f32 (λ x. T (threshold_ok x)) z t) e (rule-ok other script' K.rule-right) in
      let d =
      file-demand-3 file bytes L.accepted query (all_named (list_count file) query L.named) L.few (mode_of mode) L.takes (rule_of rule script) s t right-s right-t list
      (by-route fq) n m (sym X'.number_is ∙ ex) (sym Y'.number_is ∙ ey) in
      let u = rows_are (limited n list) old x X' in
      let v = rows_are (limited m (plain f32 (mode_of mode) ls (rule_of rule script) t (documents file))) old' y Y' in
      let low = smaller f32 s t in
      let here : plain_list (from q low) ≡ plain f32 (mode_of mode) ls (rule_of rule script) low (documents file) =
      ap (λ (z : rules.Rule Float). plain f32 (mode_of mode) ls z (start_of (start_at rule low)) (documents file)) (same-rule rule (start_at rule low) script script (one-rule-from rule script low))
      ∙ ap (λ (z : Float). plain f32 (mode_of mode) ls (rule_of rule script) z (documents file)) (started rule low) in
      subst (λ (l : List (Report Float)). (list_of x ≡ list_of y) ↔ All (λ report. lt (larger f32 s t) report.score ≡ true) l) (sym here)
      ((λ k. d.0 (sym u ∙ k ∙ v)), (λ k. u ∙ d.1 k ∙ sym v))

-- DEMAND 3, of any two runs by number, count and rows: each is its request's answer, one by the route and one by the plain scan
pub demand-3 : (q p : Request) → Bytes q.file → {list : List (Report Float)} {old old' : Rows} {x y : Result} → (refusal_of q ≡ 0 → SkippingList q list)
    → Given (answer_of q list old) old x → Given (answer_of p (plain_list p) old') old' y → Demand3 q p x y
demand-3 q p bytes {list} {old} {old'} {x} {y} by-route X Y alike ex ey =
    let eq : q ≡ asked q.file q.query q.mode Stepped q.rule q.script = ap (λ (s : Scoring). asked q.file q.query q.mode s q.rule q.script) alike.stepped.0 in
    let ep : p ≡ asked q.file q.query q.mode Stepped p.rule p.script =
    ap (λ (z : List ℕ). asked z p.query p.mode p.scoring p.rule p.script) (sym alike.file-is)
    ∙ ap (λ (z : List ℕ). asked q.file z p.mode p.scoring p.rule p.script) (sym alike.query-is)
    ∙ ap (λ (z : Mode). asked q.file q.query z p.scoring p.rule p.script) (sym alike.mode-is)
    ∙ ap (λ (z : Scoring). asked q.file q.query q.mode z p.rule p.script) alike.stepped.1 in
    subst (λ (z : Request). Same z p x y) (sym eq)
    (subst (λ (z : Request). Same (asked q.file q.query q.mode Stepped q.rule q.script) z x y) (sym ep)
    (stepped_same q.file q.query bytes q.mode q.rule p.rule q.script p.script alike.one-rule
    (subst (λ (z : Request). refusal_of z ≡ 0 → SkippingList z list) eq by-route)
    (subst (λ (z : Request). Given (answer_of z list old) old x) eq X) (subst (λ (z : Request). Given (answer_of z (plain_list z) old') old' y) ep Y) ex ey))

-- the same of two runs by their outcomes
pub runs-demand-3 : (q p : Request) → Bytes q.file → {old old' new new' : Rows} {r r' : Outcome} → RunIs q old r new → PlainIs p old' r' new'
    → Demand3 q p (result_of r new) (result_of r' new')
runs-demand-3 q p bytes {old} {old'} R P =
    demand-3 q p bytes R.by-route (given-of (refusal_of q) (rows_of old.documents old.scores) R.list R.answered)
    (given-of (refusal_of p) (rows_of old'.documents old'.scores) (plain_list p) P)

-- a refused run has no list
no-list : (r n : ℕ) (a b : List (Report Float)) → (r ≡ 0 → a ≡ b) → answer r n a ≡ answer r n b
no-list zero n a b e = ap (limited n) (e refl)
no-list (suc r) n a b e = refl

-- THE ROWS OF A STEPPED SKIPPING RUN ARE THE PLAIN SCAN'S: all of them with 0, the first n with 12, none with a refusal
pub run-plain : (file query : List ℕ) → Bytes file → (mode : Mode) (rule : Rule) (script : List Float) {old new : Rows} {r : Outcome}
    → RunIs (asked file query mode Stepped rule script) old r new → PlainIs (asked file query mode Stepped rule script) old r new
run-plain file query bytes mode rule script {old} {new} {r} R =
    let q = asked file query mode Stepped rule script in
    subst (λ (a : rules.Outcome Float). Answered a old r new)
    (no-list (refusal_of q) (rows_of old.documents old.scores) R.list (plain_list q)
    (λ e.
    let L = let_through q e in
    file-plain file bytes L.accepted query (all_named (list_count file) query L.named) L.few (mode_of mode) L.takes (rule_of rule script) (start_of rule)
    (rule-ok rule script L.rule-right) R.list (R.by-route e)))
    R.answered

-- both runs together: each contract, and demand 3
pub both_hold : (q : Request) → Bytes q.file → (t : Float) {other : Rule} → other ≡ start_at q.rule t → {old old' new new' : Rows} {r r' : Outcome} → RunIs q old r new
    → PlainIs (asked q.file q.query q.mode q.scoring other q.script) old' r' new'
    → RunIs q old r new × PlainIs (from q t) old' r' new' × Demand3 q (from q t) (result_of r new) (result_of r' new')
both_hold q bytes t e {old} {old'} {new} {new'} {r} {r'} R P =
    let Q : PlainIs (from q t) old' r' new' = subst (λ (z : Rule). PlainIs (asked q.file q.query q.mode q.scoring z q.script) old' r' new') e P in
    (R, Q, runs-demand-3 q (from q t) bytes R Q)
