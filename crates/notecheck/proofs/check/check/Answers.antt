-- `check::check` meets its contract: conditions 1 to 4 in number order, then the lists.
use mathlib.Core.Path.{◌≡◌, sym, ◌∙◌}
use mathlib.Core.Bool.{true}
use Prim.Native.Nat.{◌≤◌}
use native.Mathlib.Omega.{arith}
use Rattle.notefile.specs.Conditions.{header_right, average_right, length_right}
use Rattle.notefile.specs.Inner.Given.{HeaderIn}
use Rattle.notefile.proofs.Headers.{long-enough, few-lists, header-in}
use Rattle.notecheck.proofs.FileOrder.{lists-is, cut_short, wrong-sum, right-sum, average-is, one, two, three, four, lists}
use Rattle.notecheck.proofs.check.check.Goals as goal
use Rattle.notecheck.proofs.check.check.Goals.{After-read_header-h, Else-file-end, Else-file-h, Else-not-average_ok, Else-not-header_right}

-- what each test has shown
header_ok : (c : Else-not-header_right) → header_right c.args.file.now ≡ true
header_ok c = sym c.header_right.ensures ∙ c.if-not-header_right.false

average-right : (c : Else-not-average_ok) → average_right c.args.file.now ≡ true
average-right c = sym (average-is _ c.read_average-average.ensures c.average_ok.ensures) ∙ c.if-not-average_ok.false

few : (c : After-read_header-h) → c.read_header-h.result.lists ≤ 16
few c = omega (arith, lists-is _ c.read_header-h.result c.read_header-h.ensures, few-lists _ (sym c.header_right.ensures ∙ c.if-not-header_right.false))

header-here : (c : Else-file-h) → HeaderIn c.args.file.now c.read_header-h.result
header-here c = header-in _ (sym c.header_right.ensures ∙ c.if-not-header_right.false) c.read_header-h.result c.read_header-h.ensures c.if-file-h.false

sum-right : (c : Else-file-end) → length_right c.args.file.now ≡ true
sum-right c = right-sum _ c.read_header-h.result c.read_header-h.ensures c.if-file-h.false c.skips_at-end.ensures.0 c.if-file-end.false

pub returns-then-not-header_right : goal.returns-then-not-header_right
returns-then-not-header_right c = one _ (sym c.header_right.ensures ∙ c.if-not-header_right.true)

pub read_average-average-requires : goal.read_average-average-requires
read_average-average-requires c = long-enough _ (header_ok c)

pub returns-then-not-average_ok : goal.returns-then-not-average_ok
returns-then-not-average_ok c =
    two _ (header_ok (goal.at.returns-then-not-average_ok c).Else-not-header_right) (sym (average-is _ c.read_average-average.ensures c.average_ok.ensures) ∙ c.if-not-average_ok.true)

pub read_header-h-requires : goal.read_header-h-requires
read_header-h-requires c = long-enough _ (header_ok (goal.at.read_header-h-requires c).Else-not-header_right)

pub overflow_mul-h : goal.overflow_mul-h
overflow_mul-h c = omega (arith, few (goal.at.overflow_mul-h c).After-read_header-h)

pub overflow_add-h : goal.overflow_add-h
overflow_add-h c = omega (arith, few (goal.at.overflow_add-h c).After-read_header-h)

pub returns-then-file-h : goal.returns-then-file-h
returns-then-file-h c =
    three _ (header_ok (goal.at.returns-then-file-h c).Else-not-header_right) (average-right (goal.at.returns-then-file-h c).Else-not-average_ok) (cut_short _ c.read_header-h.result c.read_header-h.ensures c.if-file-h.true)

pub skips_at-end-requires : goal.skips_at-end-requires
skips_at-end-requires c = (header-here c, omega arith)

pub returns-then-file-end : goal.returns-then-file-end
returns-then-file-end c =
    three _ (header_ok (goal.at.returns-then-file-end c).Else-not-header_right) (average-right (goal.at.returns-then-file-end c).Else-not-average_ok) (wrong-sum _ c.read_header-h.result c.read_header-h.ensures c.if-file-h.false c.skips_at-end.ensures.0 c.if-file-end.true)

pub entries_right-requires : goal.entries_right-requires
entries_right-requires c = header-here (goal.at.entries_right-requires c).Else-file-h

pub returns-then-not-entries_right : goal.returns-then-not-entries_right
returns-then-not-entries_right c =
    four _ (header_ok (goal.at.returns-then-not-entries_right c).Else-not-header_right) (average-right (goal.at.returns-then-not-entries_right c).Else-not-average_ok) (sum-right (goal.at.returns-then-not-entries_right c).Else-file-end) (lists-is _ c.read_header-h.result c.read_header-h.ensures) (sym c.entries_right.ensures ∙ c.if-not-entries_right.true)

pub check_lists-requires : goal.check_lists-requires
check_lists-requires c =
    record {
      header = header-here (goal.at.check_lists-requires c).Else-file-h;
      average = average-right (goal.at.check_lists-requires c).Else-not-average_ok;
      exact = c.if-file-end.false ∙ c.skips_at-end.ensures.0;
      entries = sym c.entries_right.ensures ∙ c.if-not-entries_right.false;
    }

pub returns : goal.returns
returns c =
    lists _ (header_ok (goal.at.returns c).Else-not-header_right) (average-right (goal.at.returns c).Else-not-average_ok) (sum-right (goal.at.returns c).Else-file-end) (lists-is _ c.read_header-h.result c.read_header-h.ensures) (sym c.entries_right.ensures ∙ c.if-not-entries_right.false) c.check_lists.ensures
