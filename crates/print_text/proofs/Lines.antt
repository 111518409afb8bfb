-- Rows as lines, one behind another.
use Rattle.std.proofs.Common.{◌≡◌, ℕ, suc, ◌+◌, ◌*◌, ◌<◌, ◌≤◌, List, [], ◌∷◌, ◌++◌, length, get_or, sym, ap, ◌∙◌, append_assoc, append-nil, add-one, arith, ne_eqb}
use lib.Ieee.{Float, nan}
use Rattle.route.specs.Report.{Report}
use Rattle.reports.specs.Rows.{rows_in}
use Rattle.reports.proofs.RowLaws.{rows_more}
use Rattle.print_text.specs.Text.{first_line, reports_word, refused_word, line, lines}
use Rattle.print_text.specs.Inner.Putting.{Put, report, text_of}
use Rattle.print_text.proofs.Putting.{put-none, put_as, put_then, put-wider}

lines_more : (rs : List (Report Float)) (r : Report Float) → lines rs ++ line r ≡ lines (rs ++ (r ∷ []))
lines_more [] r = sym (append-nil (line r))
lines_more (x ∷ rs) r = append_assoc (line x) (lines rs) (line r) ∙ ap (λ (l : List ℕ). line x ++ l) (lines_more rs r)

-- the loop over the rows
pub record Lining (documents : List ℕ) (scores : List Float) (count at : ℕ) (old : List ℕ) (i end : ℕ) (out : List ℕ) : Type 0 where
  pub upto : i ≤ count
  pub put : Put (lines (rows_in i documents scores)) (42 * i) at old end out

module _ (documents : List ℕ) (scores : List Float) (count at : ℕ) (old : List ℕ) where
  pub lines-begin : at ≤ length old → Lining documents scores count at old 0 at old
  lines-begin h = record { upto = omega arith; put = put-none at old h }

  pub line-put : (i end end' : ℕ) (out out' : List ℕ) → i < count → count ≤ length documents → count ≤ length scores → Lining documents scores count at old i end out
      → Put (line (report (get_or documents i 0) (get_or scores i nan))) 42 end out end' out' → Lining documents scores count at old (i + 1) end' out'
  line-put i end end' out out' h d s L P = record {
    upto = omega arith;
    put = rw (add-one i)
        (put_as (put-wider (put_then L.put P) (42 * suc i) (omega arith))
        (lines_more (rows_in i documents scores) _ ∙ ap lines (sym (rows_more i documents scores (omega arith) (omega arith)))));
  }

  pub lines_end : (i end : ℕ) (out : List ℕ) → count ≤ i → Lining documents scores count at old i end out → Put (lines (rows_in count documents scores)) (42 * count) at old end out
  lines_end i end out h L = let u = L.upto in let e : count ≡ i = omega arith in rw e L.put

-- ---- the two texts

module _ (number count : ℕ) (documents : List ℕ) (scores : List Float) where
  pub refused-text : (number ≡ 0 → ⊥) → first_line refused_word number ≡ text_of number count documents scores
  refused-text h = rw (ne_eqb number 0 h)

  pub reports-text : number ≡ 0 → first_line reports_word count ++ lines (rows_in count documents scores) ≡ text_of number count documents scores
  reports-text e = rw e
