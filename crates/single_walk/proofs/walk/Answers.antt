-- `single_walk::walk` meets its contract: no posting that it passes is due, and the one that it reports is.
use mathlib.Core.Path.{refl}
use Prim.Native.Nat.{◌<◌}
use native.Mathlib.Omega.{arith}
use Rattle.route.proofs.Cases.{lt_of_ne}
use Rattle.single_walk.proofs.Walking.{cur-in, cur-inside, low, room, short, starts, walk-due, walk-on}
use Rattle.single_walk.proofs.walk.Goals as goal
use Rattle.single_walk.proofs.walk.Goals.{Else-place-end}

pub block_len-n-requires : goal.block_len-n-requires
block_len-n-requires c = starts c.requires.0.tables

pub reach-end-requires : goal.reach-end-requires
reach-end-requires c = omega (arith, cur-in c.requires.0.tables c.block_len-n.ensures)

pub first_asked-from-requires : goal.first_asked-from-requires
first_asked-from-requires c = cur-inside c.requires.0.tables

pub first_above-place-requires : goal.first_above-place-requires
first_above-place-requires c =
    room c.requires.0.tables c.block_len-n.ensures c.args.threshold c.requires.1 c.reach-end.ensures c.first_asked-from.ensures

pub overflow_sub-taken : goal.overflow_sub-taken
overflow_sub-taken c =
    low c.requires.0.tables c.block_len-n.ensures c.args.threshold c.requires.1 c.reach-end.ensures c.first_asked-from.ensures c.first_above-place.ensures

pub to_place-single-requires : goal.to_place-single-requires
to_place-single-requires c =
    let S = c.requires.0.tables.stands.ready.kept in
    (S.slot-in, short c.requires.0.tables c.block_len-n.ensures, S.slot)

pub returns-then-place-end : goal.returns-then-place-end
returns-then-place-end c =
    record {
      steps = λ similarity norms floats T.
          rw c.new.ensures (walk-on T c.block_len-n.ensures c.args.threshold c.requires.1 c.reach-end.ensures c.first_asked-from.ensures c.first_above-place.ensures c.if-place-end.true c.to_place-single.ensures);
    }

-- the place found is one of the block's
found_in : (c : Else-place-end) → c.first_above-place.result < 128
found_in c =
    let h = room c.requires.0.tables c.block_len-n.ensures c.args.threshold c.requires.1 c.reach-end.ensures c.first_asked-from.ensures in
    let e = lt_of_ne c.first_above-place.ensures.high c.if-place-end.false in
    omega (arith, h.1)

pub overflow_add-taken : goal.overflow_add-taken
overflow_add-taken c = omega (arith, found_in (goal.at.overflow_add-taken c).Else-place-end)

pub offset_bounds-blocks-place : goal.offset_bounds-blocks-place
offset_bounds-blocks-place c = omega (arith, found_in c)

pub bounds-blocks-place : goal.bounds-blocks-place
bounds-blocks-place c = found_in c

pub offset_bounds-values-place : goal.offset_bounds-values-place
offset_bounds-values-place c = omega (arith, found_in (goal.at.offset_bounds-values-place c).Else-place-end)

pub bounds-values-place : goal.bounds-values-place
bounds-values-place c = found_in (goal.at.bounds-values-place c).Else-place-end

pub returns : goal.returns
returns c =
    record {
      steps = λ similarity norms floats T.
          rw c.new-2.ensures (walk-due T c.block_len-n.ensures c.args.threshold c.requires.1 c.reach-end.ensures c.first_asked-from.ensures c.first_above-place.ensures c.if-place-end.false refl);
    }
