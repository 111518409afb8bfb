-- Cases (a) to (l): seven runs over the small file, two that are refused, one over a changed file, and figures of three definitions.
use Rattle.std.specs.Prelude.{◌≡◌, true, false, List, [], ◌∷◌, ℕ, pos, length, set, Some, Float}
use Rattle.std.specs.Float.{fin}
use Rattle.std.specs.Float.Ieee.Exact.{HasValue}
use Rattle.floats.specs.Step.{grid_f}
use Rattle.floats.specs.Whole.{whole_f32}
use Rattle.codec.specs.VInt.{vint_at}
use Rattle.route.specs.Report.{Report}
use Rattle.route.specs.Rule as rules
use Rattle.bm25.specs.Bound.{max_tf}
use Rattle.bm25.specs.declared.Scoring.TheVariants.{Stepped}
use Rattle.rule.specs.declared.Rule.{Rule}
use Rattle.rule.specs.declared.Rule.TheVariants.{Script, BestK}
use Rattle.reports.specs.Rows.{Rows, rows_of}
use Rattle.request.specs.Request.{Request, asked}
use Rattle.request.specs.declared.Mode.{Mode}
use Rattle.request.specs.declared.Mode.TheVariants.{Union, Intersection}
use Rattle.outcome.specs.declared.Outcome.{Outcome}
use Rattle.ranking.specs.Answers.{Answered, RunIs, PlainIs}

-- the small file, part by part
abbrev pub small : List ℕ
small =
    0x18 ∷ 0x80 ∷ 0x40 ∷ 0x00 ∷ 0x08 ∷ 0x41 ∷ 0x00 ∷ 0x00 ∷ 0x00
    ∷ 0x44 ∷ 0x7A ∷ 0x00 ∷ 0x00 ∷ 0x00 ∷ 0x00 ∷ 0x10 ∷ 0x00 ∷ 0x00 ∷ 0x00 ∷ 0x00 ∷ 0x00 ∷ 0x04
    ∷ 0x43 ∷ 0xFA ∷ 0x00 ∷ 0x00 ∷ 0x00 ∷ 0x00 ∷ 0x10 ∷ 0x00 ∷ 0x00 ∷ 0x00 ∷ 0x00 ∷ 0x00 ∷ 0x04
    ∷ 0x81 ∷ 0x82 ∷ 0x81 ∷ 0x83
    ∷ 0x80 ∷ 0x83 ∷ 0x81 ∷ 0x81 ∷ []

-- A request with its rows and its answer; a maximum-frequency code and its frequency; the bytes of a VInt and its value; a whole number and the
-- f32 nearest to it, a whole number too.
pub data Case : Type 0 where
  run : (q : Request) (rows : ℕ) (answer : rules.Outcome Float) → Case
  code : (code frequency : ℕ) → Case
  vint : (bytes : List ℕ) (value : ℕ) → Case
  whole : (n nearest : ℕ) → Case

-- every run of the request with so many rows, skipping or plain, has the answer
abbrev pub Runs : Request → ℕ → rules.Outcome Float → Type 0
Runs q n answer =
    (old : Rows) (r : Outcome) (new : Rows) → rows_of old.documents old.scores ≡ n
    → (RunIs q old r new → Answered answer old r new) × (PlainIs q old r new → Answered answer old r new)

-- what a case says
abbrev pub Holds : Case → Type 0
Holds (run q rows answer) = Runs q rows answer
Holds (code c frequency) = max_tf c ≡ frequency
Holds (vint bytes value) = vint_at bytes (length bytes) 0 ≡ Some (value, length bytes)
Holds (whole n nearest) = HasValue (whole_f32 n) false nearest 1

-- a report with its score in 1/1024
abbrev row : ℕ → ℕ → Report Float
row d n = record { doc = d; score = grid_f n }

abbrev list : List (Report Float) → rules.Outcome Float
list rs = record { code = 0; rows = rs }

abbrev refused : ℕ → rules.Outcome Float
refused n = record { code = n; rows = [] }

abbrev both : List ℕ
both = 0 ∷ 1 ∷ []

abbrev all : List (Report Float)
all = row 0 362477 ∷ row 1 724955 ∷ row 3 1262696 ∷ []

-- a fixed threshold, in 1/1024
abbrev fixed : ℕ → Rule
fixed n = Script (grid_f n)

-- best 1 from -1
abbrev best1 : Rule
best1 = BestK (fin true 1 (pos 0)) 1

-- a stepped request
abbrev stepped : List ℕ → List ℕ → Mode → Rule → List Float → Request
stepped file query mode rule script = asked file query mode Stepped rule script

-- the table
abbrev pub cases : List Case
cases =
    run (stepped small both Union (fixed 0) []) 4096 (list all)
    ∷ run (stepped small both Union (fixed 362477) []) 4096 (list (row 1 724955 ∷ row 3 1262696 ∷ []))
    ∷ run (stepped small both Intersection (fixed 0) []) 4096 (list (row 3 1262696 ∷ []))
    ∷ run (stepped small both Union (fixed 0) (grid_f 819200 ∷ [])) 4096 (list (row 0 362477 ∷ row 3 1262696 ∷ []))
    ∷ run (stepped small both Union best1 []) 4096 (list all)
    ∷ run (stepped small [] Union (fixed 0) []) 4096 (list [])
    ∷ run (stepped small (0 ∷ []) Intersection (fixed 0) []) 4096 (refused 10)
    ∷ run (stepped small both Union (fixed 0) []) 2 (record { code = 12; rows = row 0 362477 ∷ row 1 724955 ∷ [] })
    ∷ run (stepped (set small 38 0x84) both Union (fixed 0) []) 4096 (refused 9)
    ∷ code 254 254 ∷ code 255 4294967295
    ∷ vint (0x00 ∷ 0x81 ∷ []) 128
    ∷ whole 16777217 16777216 ∷ whole 16777219 16777220
    ∷ []
