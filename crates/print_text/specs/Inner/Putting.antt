-- Text that is put into a buffer.
use Rattle.std.specs.Prelude.{◌≡◌, ℕ, ◌+◌, ◌<◌, ◌≤◌, cond, T, List, ◌++◌, length, take, drop, ◌==◌, slice_index_or, Float}
use Rattle.std.specs.Float.{nan}
use Rattle.floats.specs.Threshold.{threshold_ok}
use Rattle.route.specs.Report.{Report}
use Rattle.reports.specs.Rows.{rows_in}
use Rattle.print_text.specs.Text.{first_line, reports_word, refused_word, lines}

-- the text stands from `at` on, up to `end`, and every other cell is as it was; it has `most` bytes at most
pub record Put (text : List ℕ) (most at : ℕ) (old : List ℕ) (end : ℕ) (new : List ℕ) : Type 0 where
  pub end_is : end ≡ at + length text
  pub short : length text ≤ most
  pub inside : end ≤ length old
  pub long : length new ≡ length old
  pub new_is : new ≡ (take at old ++ text) ++ drop (at + length text) old

-- a row's report
abbrev pub report : ℕ → Float → Report Float
report document score = record { doc = document; score = score }

-- there are n rows, and their scores are multiples of 1/1024 up to 16,000
pub record Ready (n : ℕ) (documents : List ℕ) (scores : List Float) : Type 0 where
  pub in-documents : n ≤ length documents
  pub in-scores : n ≤ length scores
  pub stepped : (k : ℕ) → k < n → T (threshold_ok (slice_index_or scores k nan))

-- a run's number, its count and its rows, as text
abbrev pub text_of : ℕ → ℕ → List ℕ → List Float → List ℕ
text_of number count documents scores =
    cond (number == 0) (first_line reports_word count ++ lines (rows_in count documents scores)) (first_line refused_word number)
