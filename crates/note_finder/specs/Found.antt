-- What the note finder is asked for, what it returns, and what it leaves in its four buffers (02, order 4).
use Rattle.std.specs.Prelude.{◌≡◌, List, [], ◌∷◌, ◌++◌, ℕ, zero, suc, leb, Float}
use Rattle.route.specs.F32.{f32}
use Rattle.route.specs.Report.{Report}
use Rattle.route.specs.Rule as rules
use Rattle.bm25.specs.declared.Scoring.{Scoring}
use Rattle.bm25.specs.declared.Scoring.TheVariants.{Unstepped, Stepped}
use Rattle.rule.specs.declared.Rule.TheVariants.{BestK}
use Rattle.reports.specs.Rows.{Rows, rows_of}
use Rattle.best_notes.specs.Best.{best_of}
use Rattle.best_notes.specs.Matches.{matches}
use Rattle.notefile.specs.Header.{documents}
use Rattle.notefile.specs.Refusal.{Test, test, first_refusal}
use Rattle.decoded.specs.Lists.{queried}
use Rattle.request.specs.Request.{Request, asked, mode_of, request_tests}
use Rattle.request.specs.Lists.{SkippingList}
use Rattle.request.specs.declared.Mode.{Mode}
use Rattle.outcome.specs.declared.Outcome.{Outcome}
use Rattle.ranking.specs.Answers.{Answered, WrittenIn, answer}

pub record Sought : Type 0 where
  pub file : List ℕ
  pub query : List ℕ
  pub mode : Mode
  pub scoring : Scoring
  pub start : Float
  pub k : ℕ

abbrev pub sought : List ℕ → List ℕ → Mode → Scoring → Float → ℕ → Sought
sought file query mode scoring start k = record { file = file; query = query; mode = mode; scoring = scoring; start = start; k = k }

module _ (s : Sought) where
  -- 'It runs best k'
  abbrev pub run_of : Request
  run_of = asked s.file s.query s.mode s.scoring (BestK s.start s.k) []

  -- 'Errors: 14, fewer than k note rows lent, tested after 11'
  unfoldable pub find_tests : ℕ → List Test
  find_tests rows = request_tests run_of ++ (test 14 (leb s.k rows) ∷ [])

  unfoldable pub find_refusal : ℕ → ℕ
  unfolding find_tests
  find_refusal rows = first_refusal (find_tests rows)

  -- what the notes are the first of: 'all matching documents above the start threshold .. for stepped scores; unstepped .. the skipping
  -- run's reports'
  abbrev pub pool_of : Scoring → List (Report Float) → List (Report Float)
  pool_of Stepped list = matches f32 (mode_of s.mode) (queried Stepped s.file s.query) s.start (documents s.file)
  pool_of Unstepped list = list

  -- the notes beside a number: with 0 the first k, else none
  abbrev pub notes_for : ℕ → List (Report Float) → List (Report Float)
  notes_for zero list = best_of f32 s.k (pool_of s.scoring list)
  notes_for (suc n) list = []

  -- the run's answer in the report rows, refused for 14 too; and the finder's, its number with the notes
  abbrev pub reports_of : List (Report Float) → Rows → Rows → rules.Outcome Float
  reports_of list reports notes =
      answer (find_refusal (rows_of notes.documents notes.scores)) (rows_of reports.documents reports.scores) list

  abbrev pub notes_of : List (Report Float) → rules.Outcome Float → rules.Outcome Float
  notes_of list a = record { code = a.code; rows = notes_for a.code list }

  -- The finder: where it is not refused the run's list is the route's. With 0 the report rows hold that list and the note rows the notes;
  -- with 12 the report rows hold the first reports, and the note rows are as they were; with any other number all four buffers are.
  pub record FindIs (reports notes : Rows) (r : Outcome) (reports' notes' : Rows) : Type 0 where
    pub list : List (Report Float)
    pub by-route : find_refusal (rows_of notes.documents notes.scores) ≡ 0 → SkippingList run_of list
    pub reported : WrittenIn (reports_of list reports notes).rows reports reports'
    pub answered : Answered (notes_of list (reports_of list reports notes)) notes r notes'
