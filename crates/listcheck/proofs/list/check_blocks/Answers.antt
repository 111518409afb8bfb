-- `list::check_blocks` meets its contract: each turn joins one block's refusal to those before it.
use mathlib.Core.Path.{◌≡◌, refl, ◌∙◌}
use native.Mathlib.Omega.{arith}
use Rattle.notefile.proofs.FullBlocks.{docs-in, freqs-in, previous-same, previous-low, packed-in}
use Rattle.outcome.specs.Refusals.{refusal_number}
use Rattle.outcome.proofs.ByNumber.{is-refusal, other_refusal}
use Rattle.listcheck.proofs.Judged.{judging-begun, all-judged, seven-found, one-judged}
use Rattle.listcheck.proofs.list.check_blocks.Goals as goal

pub loop-b-init : goal.loop-b-init
loop-b-init c = judging-begun c.args.file.now c.args.x

pub read_skip_entry-e-requires : goal.read_skip_entry-e-requires
read_skip_entry-e-requires c = (c.requires.1.skipped, c.loop-b-test.true)

pub check_packed-found-requires : goal.check_packed-found-requires
check_packed-found-requires c =
    let s = c.args.file.now in
    let x = c.args.x in
    let same = previous-same s x c.loop-b.b c.loop-b.invariant.within c.loop-b.invariant.right in
    let low = previous-low s x c.loop-b.b c.loop-b.invariant.within c.loop-b.invariant.right in (
      packed-in s x c.requires.1 c.loop-b-test.true c.loop-b.invariant.place,
      c.read_skip_entry-e.ensures,
      c.requires.0.limit_is,
      c.requires.0.few,
      same,
      omega (arith, same, low, c.requires.0.limit_is, c.requires.0.few),
    )

pub returns-then-eq : goal.returns-then-eq
returns-then-eq c =
    let a = c.args in
    let e : refusal_number c.check_packed-found.result ≡ 7 = is-refusal _ _ _ c.if-eq.ensures in
    e ∙ seven-found a.file.now a.x c.loop-b.invariant c.loop-b-test.true c.check_packed-found.ensures.same e

pub check_block-r-requires : goal.check_block-r-requires
check_block-r-requires c =
    (c.requires.0, packed-in c.args.file.now c.args.x c.requires.1 c.loop-b-test.true refl, c.read_skip_entry-e.ensures, c.check_packed-found.ensures)

pub overflow_add-at : goal.overflow_add-at
overflow_add-at c =
    let p = packed-in c.args.file.now c.args.x c.requires.1 c.loop-b-test.true c.loop-b.invariant.place in
    let e = c.read_skip_entry-e in
    omega (arith, (docs-in p e.result e.ensures).0, (freqs-in p e.result e.ensures).0)

pub overflow_add-at-in-loop-b : goal.overflow_add-at-in-loop-b
overflow_add-at-in-loop-b c =
    let p = packed-in c.args.file.now c.args.x c.requires.1 c.loop-b-test.true c.loop-b.invariant.place in
    let e = c.read_skip_entry-e in
    omega (arith, (freqs-in p e.result e.ensures).1)

pub loop-b-preserved : goal.loop-b-preserved
loop-b-preserved c =
    let e = c.read_skip_entry-e in
    one-judged c.args.file.now c.args.x c.loop-b.invariant c.loop-b-test.true c.check_packed-found.ensures.same (other_refusal _ _ _ c.if-eq.ensures) c.check_block-r.ensures e.result e.ensures c.lower_of-lowest.ensures

pub returns : goal.returns
returns c = let a = c.args in all-judged a.file.now a.x c.loop-b.invariant c.loop-b-test.false
