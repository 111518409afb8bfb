-- `check::check_lists` meets its contract: it stops at the first list that is refused. The norms at hand are those of the average at hand.
use mathlib.Core.Path.{◌≡◌, refl, sym, ap, ◌∙◌, subst}
use native.Mathlib.Omega.{arith}
use borrow.Author.Rules.{rules}
use Rattle.bm25.proofs.Numbers.{average-number}
use Rattle.notefile.specs.Conditions.{average_right}
use Rattle.notefile.specs.Inner.Given.{Limits, Parted}
use Rattle.notefile.specs.Inner.Order.{list_refusal, lists_refusal}
use Rattle.notefile.proofs.Entries.{parted, limits}
use Rattle.std.proofs.lemmas.Result.{err_from_is_err_and}
use Rattle.outcome.specs.Refusals.{number_of, refusal_number}
use Rattle.outcome.proofs.ByNumber.{no-refusal}
use Rattle.notecheck.proofs.FileOrder.{list-refused, list-clear, documents-is}
use Rattle.notecheck.proofs.check.check_lists.Goals as goal
use Rattle.notecheck.proofs.check.check_lists.Goals.{After-read_part-x}

pub read_average-average-requires : goal.read_average-average-requires
read_average-average-requires c = let entries = c.requires.header.entries in omega arith

pub float_from_bits-average : goal.float_from_bits-average
unfolding average_right
float_from_bits-average c =
    rw c.read_average-average.ensures (average-number _ c.requires.average)

pub loop-l-init : goal.loop-l-init
unfolding lists_refusal
loop-l-init c = (omega arith, (refl, c.compute_tf_cache-norms.ensures))

pub read_part-x-requires : goal.read_part-x-requires
read_part-x-requires c = (c.requires.header, c.loop-l-test.true)

-- the list's weight and average are within their limits
part-limits : (c : After-read_part-x) → Limits c.read_part-x.result
part-limits c =
    subst Limits (sym c.read_part-x.ensures) (limits c.args.file.now c.loop-l.l c.args.h.lists c.loop-l-test.true c.requires.average c.requires.entries)

pub renew_tf_cache-requires : goal.renew_tf_cache-requires
renew_tf_cache-requires c = (average-number c.read_part-x.result.average (part-limits (goal.at.renew_tf_cache-requires c).After-read_part-x).average, c.loop-l.invariant.1.1)

pub check_list-requires : goal.check_list-requires
check_list-requires c =
    let s = c.args.file.now in (
      subst (Parted s) (sym c.read_part-x.ensures) (parted s c.loop-l.l c.args.h.lists c.loop-l-test.true c.requires.exact),
      part-limits (goal.at.check_list-requires c).After-read_part-x,
      c.renew_tf_cache.ensures,
      documents-is s c.args.h c.requires.header.same,
      c.requires.header.documents,
      search rules,
    )

pub returns-in_err-check_list : goal.returns-in_err-check_list
returns-in_err-check_list c =
    let s = c.args.file.now in
    let p = err_from_is_err_and c.from_residual.result c.from_residual.ensures.1 in
    let r = c.in_err-check_list.field-0.0 in
    let e : number_of r ≡ list_refusal s c.read_part-x.result = ap refusal_number (sym c.in_err-check_list.was) ∙ c.check_list.ensures in
    rw (p.1, p.2)
    (list-refused s c.loop-l.l c.args.h.lists c.loop-l-test.true c.loop-l.invariant.1.0 (e ∙ ap (list_refusal s) c.read_part-x.ensures) (no-refusal r).0)

pub loop-l-preserved : goal.loop-l-preserved
loop-l-preserved c =
    let s = c.args.file.now in
    let e : 0 ≡ list_refusal s c.read_part-x.result = ap refusal_number (sym c.in_ok-check_list.was) ∙ c.check_list.ensures in
    (omega arith, (list-clear s c.loop-l.l c.loop-l.invariant.1.0 (e ∙ ap (list_refusal s) c.read_part-x.ensures) refl, c.renew_tf_cache.ensures))

pub returns : goal.returns
returns c =
    let e : c.loop-l.l ≡ c.args.h.lists = omega arith in
    sym c.loop-l.invariant.1.0 ∙ ap (lists_refusal c.args.file.now) e
