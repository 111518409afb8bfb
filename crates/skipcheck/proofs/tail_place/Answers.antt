-- `skipcheck::tail_place` meets its contract: each turn tests one entry and steps over its block.
use native.Mathlib.Omega.{arith}
use Rattle.skipcheck.proofs.SkipTests.{skips-small, wrong-length, begun, all-passed, one-wrong, one_right}
use Rattle.skipcheck.proofs.tail_place.Goals as goal

pub overflow_mul-x : goal.overflow_mul-x
overflow_mul-x c = omega (arith, skips-small c.args.x.skip_entry_len c.args.x.count c.requires.most c.requires.few)

pub overflow_add-x : goal.overflow_add-x
overflow_add-x c = omega (arith, skips-small c.args.x.skip_entry_len c.args.x.count c.requires.most c.requires.few, c.requires)

pub returns-then-x-blocks : goal.returns-then-x-blocks
returns-then-x-blocks c = wrong-length c.args.file.now c.args.x c.if-x-blocks.true

pub loop-b-init : goal.loop-b-init
loop-b-init c = begun c.args.file.now c.args.x c.if-x-blocks.false

pub skip_entry_at-e-requires : goal.skip_entry_at-e-requires
skip_entry_at-e-requires c = (record { parted = c.requires; exact = c.if-x-blocks.false }, c.loop-b-test.true)

pub returns-then-not-widths_right : goal.returns-then-not-widths_right
returns-then-not-widths_right c =
    one-wrong c.args.file.now c.args.x c.if-x-blocks.false c.loop-b.invariant c.loop-b-test.true c.skip_entry_at-e.result _ _ c.skip_entry_at-e.ensures.0
    c.wide-byte.ensures.0 c.wide-freq_bits.ensures.0 _ c.widths_right.ensures c.if-not-widths_right.true

pub overflow_add-at-in-loop-b : goal.overflow_add-at-in-loop-b
overflow_add-at-in-loop-b c =
    omega (arith, c.loop-b.invariant.near, c.loop-b.invariant.within, c.requires, c.wide-byte.ensures, c.wide-freq_bits.ensures)

pub loop-b-preserved : goal.loop-b-preserved
loop-b-preserved c =
    one_right c.args.file.now c.args.x c.if-x-blocks.false c.loop-b.invariant c.loop-b-test.true c.skip_entry_at-e.result _ _ c.skip_entry_at-e.ensures.0
    c.wide-byte.ensures.0 c.wide-freq_bits.ensures.0 _ c.widths_right.ensures (omega (arith, c.wide-freq_bits.ensures)) c.if-not-widths_right.false

pub returns : goal.returns
returns c = all-passed c.args.file.now c.args.x c.if-x-blocks.false c.loop-b.invariant c.loop-b-test.false
