-- `list::check_list` meets its contract: the conditions are tested in the table's order, and the tail's refusal joins the full blocks'.
use mathlib.Core.Path.{◌≡◌, ◌∙◌}
use native.Mathlib.Omega.{arith}
use borrow.Author.Rules.{rules}
use Rattle.notefile.specs.Lists.{full_blocks}
use Rattle.notefile.specs.Inner.Given.{Against}
use Rattle.notefile.proofs.FullBlocks.{previous-same}
use Rattle.notefile.proofs.Scores.{list-bound-by}
use Rattle.std.proofs.lemmas.Result.{err_from_is_err_and}
use Rattle.outcome.specs.Refusals.{refusal_number}
use Rattle.outcome.proofs.ByNumber.{is-refusal, other_refusal}
use Rattle.listcheck.proofs.ListOrder.{skips-wrong, tail-is, skipped, postings-wrong, blocks-in, full-seven, docs-before, with_tail}
use Rattle.listcheck.proofs.list.check_list.Goals as goal
use Rattle.listcheck.proofs.list.check_list.Goals.{After-max_score-max_score}

pub returns-in_err-at : goal.returns-in_err-at
returns-in_err-at c =
    let p = err_from_is_err_and c.from_residual.result c.from_residual.ensures.1 in
    rw (p.1, p.2) (skips-wrong c.args.file.now c.args.x c.tail_place.ensures c.in_err-at.was)

pub read_tail-requires : goal.read_tail-requires
read_tail-requires c =
    (skipped c.args.file.now c.args.x c.tail_place.ensures c.in_ok-at.was c.requires.0, tail-is c.args.file.now c.args.x c.tail_place.ensures c.in_ok-at.was, search rules)

pub returns-then-not-read_tail : goal.returns-then-not-read_tail
returns-then-not-read_tail c =
    postings-wrong c.args.file.now c.args.x c.tail_place.ensures c.in_ok-at.was c.read_tail.ensures c.if-not-read_tail.true

-- the blocks' limit, struct and bound are the list's
against : (c : After-max_score-max_score) → Against c.args.file.now c.args.x c.args.limit c.args.reader c.weight_of-w.result c.max_score-max_score.result
against c =
    let w = c.weight_of-w in
    record {
      limit_is = c.requires.3;
      few = c.requires.4;
      reader-is = c.requires.5;
      limits = c.requires.1;
      weighed = w.ensures;
      max-score-is = c.max_score-max_score.ensures ∙ list-bound-by c.args.x w.result w.ensures;
    }

pub check_blocks-full-requires : goal.check_blocks-full-requires
check_blocks-full-requires c =
    (against (goal.at.check_blocks-full-requires c).After-max_score-max_score, blocks-in c.args.file.now c.args.x c.tail_place.ensures c.in_ok-at.was c.read_tail.ensures c.if-not-read_tail.false c.requires.0)

pub returns-then-eq : goal.returns-then-eq
returns-then-eq c =
    let e : refusal_number c.check_blocks-full.result ≡ 7 = is-refusal _ _ _ c.if-eq.ensures in
    e ∙ full-seven c.args.file.now c.args.x c.tail_place.ensures c.in_ok-at.was c.read_tail.ensures c.if-not-read_tail.false c.check_blocks-full.ensures e

pub check_tail-requires : goal.check_tail-requires
check_tail-requires c =
    let x = c.args.x in
    let right = c.if-not-read_tail.false in (
      against (goal.at.check_tail-requires c).After-max_score-max_score,
      skipped c.args.file.now c.args.x c.tail_place.ensures c.in_ok-at.was c.requires.0,
      c.read_tail.ensures.values right,
      previous-same c.args.file.now x (full_blocks x) (omega arith)
          (docs-before c.args.file.now x c.tail_place.ensures c.in_ok-at.was c.read_tail.ensures right c.check_blocks-full.ensures (other_refusal _ _ _ c.if-eq.ensures)),
    )

pub returns : goal.returns
returns c =
    with_tail c.args.file.now c.args.x c.tail_place.ensures c.in_ok-at.was c.read_tail.ensures c.if-not-read_tail.false c.check_blocks-full.ensures c.check_tail.ensures c.lower_of.ensures
