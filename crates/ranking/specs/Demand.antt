-- Demand 3, about the rows that two runs wrote.
use Rattle.std.specs.Prelude.{◌≡◌, true, List, ◌↔◌, ℕ, length, Float}
use Rattle.std.specs.Float.{binary32}
use Rattle.std.specs.Float.Ieee.{lt, to_bits}
use Rattle.arrays.specs.Every.{All}
use Rattle.route.specs.Score.{larger, smaller}
use Rattle.route.specs.F32.{f32}
use Rattle.route.specs.Report.{Report}
use Rattle.route.specs.Rule as rules
use Rattle.bm25.specs.declared.Scoring.TheVariants.{Stepped}
use Rattle.rule.specs.Rules.{start_of}
use Rattle.rule.specs.declared.Rule.{Rule}
use Rattle.rule.specs.declared.Rule.TheVariants.{Script, BestK}
use Rattle.reports.specs.Rows.{Rows}
pub use Rattle.reports.specs.Rows.{rows_in}
use Rattle.request.specs.Request.{Request, asked}
use Rattle.request.specs.Lists.{plain_list}
use Rattle.outcome.specs.Outcomes.{number_of, count_of}
use Rattle.outcome.specs.declared.Outcome.{Outcome}
use Rattle.ranking.specs.Answers.{WrittenIn}

-- what a run returned, and its rows as they stand then
pub record Result : Type 0 where
  pub number : ℕ
  pub count : ℕ
  pub rows : Rows

abbrev pub result : ℕ → ℕ → Rows → Result
result number count rows = record { number = number; count = count; rows = rows }

abbrev pub result_of : Outcome → Rows → Result
result_of r rows = result (number_of r) (count_of r) rows

-- a run has an answer, by its number, its count and its rows
pub record Given (a : rules.Outcome Float) (old : Rows) (x : Result) : Type 0 where
  pub number_is : x.number ≡ a.code
  pub count-is : x.count ≡ length a.rows
  pub written : WrittenIn a.rows old x.rows

-- a row by its score's bits; no score written is a NaN, so rows are the same exactly if these are
abbrev pub bits_of : Report Float → Report ℕ
bits_of r = record { doc = r.doc; score = to_bits binary32 r.score }

-- a run's list: its rows below the returned count
abbrev pub list_of : Result → List (Report Float)
list_of x = rows_in x.count x.rows.documents x.rows.scores

-- one rule but for its start threshold: the same script, entry by entry, or the same k
abbrev pub OneRule : Rule → List Float → Rule → List Float → Type 0
OneRule (Script start) l (Script start') l' = l ≡ l'
OneRule (Script start) l (BestK start' k') l' = ⊥
OneRule (BestK start k) l (Script start') l' = ⊥
OneRule (BestK start k) l (BestK start' k') l' = k ≡ k'

-- two stepped requests of one file, query and mode, under one rule but for its start
pub record Alike (q p : Request) : Type 0 where
  pub file-is : q.file ≡ p.file
  pub query-is : q.query ≡ p.query
  pub mode-is : q.mode ≡ p.mode
  pub stepped : (q.scoring ≡ Stepped) × (p.scoring ≡ Stepped)
  pub one-rule : OneRule q.rule q.script p.rule p.script

-- a request from another start
abbrev pub start_at : Rule → Float → Rule
start_at (Script start) t = Script t
start_at (BestK start k) t = BestK t k

abbrev pub from : Request → Float → Request
from q t = asked q.file q.query q.mode q.scoring (start_at q.rule t) q.script

-- Of a skipping run of q and a plain run of p that both returned 0: their lists are the same exactly when everything that the plain scan from the
-- lower of the two starts reports is above the higher. No limit on rows is in the scan.
abbrev pub Demand3 : Request → Request → Result → Result → Type 0
Demand3 q p x y =
    let s = start_of q.rule in
    let t = start_of p.rule in
    Alike q p → x.number ≡ 0 → y.number ≡ 0
    → (list_of x ≡ list_of y) ↔ All (λ report. lt (larger f32 s t) report.score ≡ true) (plain_list (from q (smaller f32 s t)))
