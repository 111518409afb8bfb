-- The C interface: the refusals of a call, and an answer as a number, a count and rows; the best notes; a file written.
use Rattle.std.specs.Prelude.{◌≡◌, ◌&&◌, List, [], ◌∷◌, ◌++◌, ℕ, zero, suc, leb, length, Float}
use Rattle.route.specs.Report.{Report}
use Rattle.route.specs.Rule as rules
use Rattle.rulecheck.specs.Right.{rule_right}
use Rattle.notefile.specs.Header.{list_count}
use Rattle.notefile.specs.Refusal.{Test, test, first_refusal, file_tests}
use Rattle.reports.specs.Rows.{Rows, rows_of}
use Rattle.contents.specs.Contents.{Contents}
use Rattle.house.specs.House.{house_file}
use Rattle.note_writer.specs.Writes.{write_refusal, length_for, output_for}
use Rattle.request.specs.Request.{Request, asked, query_right}
use Rattle.request.specs.Lists.{plain_list, SkippingList}
use Rattle.arguments.specs.Numbers.{mode_at, scoring_at, rule_at}
use Rattle.ranking.specs.Answers.{answer, WrittenIn}
use Rattle.ranking.specs.Demand.{Given, Result}
use Rattle.note_finder.specs.Found.{Sought, sought, notes_of}

-- the arguments of `noterank_run` but for its buffers
pub record Call : Type 0 where
  pub file : List ℕ
  pub query : List ℕ
  pub walk : ℕ
  pub mode : ℕ
  pub scoring : ℕ
  pub rule : ℕ
  pub start : Float
  pub k : ℕ
  pub script : List Float

-- what they ask for
abbrev pub request_of : Call → Request
request_of c = asked c.file c.query (mode_at c.mode) (scoring_at c.scoring) (rule_at c.rule c.start c.k) c.script

-- rows 1 to 11 in the table's order: a walk or a mode outside its numbers is 10, a scoring or a rule outside its numbers 11
unfoldable pub call_tests : Call → List Test
call_tests c =
    file_tests c.file
    ++ (test 10 (leb c.walk 1 && leb c.mode 2)
    ∷ test 10 (query_right (list_count c.file) (mode_at c.mode) c.query)
    ∷ test 11 (leb c.scoring 1 && leb c.rule 1)
    ∷ test 11 (rule_right (rule_at c.rule c.start c.k) (scoring_at c.scoring) c.script)
    ∷ [])

unfoldable pub call_refusal : Call → ℕ
unfolding call_tests
call_refusal c = first_refusal (call_tests c)

-- the list of a walk: 0 the route's, 1 the plain scan's
abbrev pub ListBy : ℕ → Request → List (Report Float) → Type 0
ListBy zero q list = SkippingList q list
ListBy (suc n) q list = list ≡ plain_list q

-- what `noterank_run` gives
pub record Ranked (c : Call) (old : Rows) (x : Result) : Type 0 where
  pub list : List (Report Float)
  pub list-is : call_refusal c ≡ 0 → ListBy c.walk (request_of c) list
  pub given : Given (answer (call_refusal c) (rows_of old.documents old.scores) list) old x

-- the arguments of `noterank_find` but for its buffers, as those of a skipping run under best k without a script; and what they seek
abbrev pub seeking : List ℕ → List ℕ → ℕ → ℕ → Float → ℕ → Call
seeking file query mode scoring start k = record {
  file = file;
  query = query;
  walk = 0;
  mode = mode;
  scoring = scoring;
  rule = 1;
  start = start;
  k = k;
  script = [];
}

abbrev pub sought_of : Call → Sought
sought_of c = sought c.file c.query (mode_at c.mode) (scoring_at c.scoring) c.start c.k

-- 14 after 11: fewer than k note rows
unfoldable pub find_refused : Call → ℕ → ℕ
unfolding call_tests
find_refused c rows = first_refusal (call_tests c ++ (test 14 (leb c.k rows) ∷ []))

-- what `noterank_find` gives: the run's answer in the report rows, and its number with the notes
pub record Found (c : Call) (reports notes reports' : Rows) (x : Result) : Type 0 where
  pub list : List (Report Float)
  pub run : rules.Outcome Float
  pub run_is : run ≡ answer (find_refused c (rows_of notes.documents notes.scores)) (rows_of reports.documents reports.scores) list
  pub list-is : find_refused c (rows_of notes.documents notes.scores) ≡ 0 → SkippingList (request_of c) list
  pub reported : WrittenIn run.rows reports reports'
  pub given : Given (notes_of (sought_of c) list run) notes x

-- what `noterank_write` gives: a number, the length beside it, and what the output holds
pub record WroteFile (c : Contents) (old : List ℕ) (number size : ℕ) (new : List ℕ) : Type 0 where
  pub number_is : number ≡ write_refusal c (length old)
  pub size_is : size ≡ length_for (write_refusal c (length old)) (house_file c)
  pub output-is : new ≡ output_for (write_refusal c (length old)) (house_file c) old
