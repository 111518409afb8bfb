-- `slot::step` meets its contract: within its block a scorer goes to the next place, as `row::advance` does.
use mathlib.Core.Logic.{inl, inr}
use mathlib.Core.List.{[]}
use Prim.Native.Nat.{◌+◌, ◌<◌}
use native.Mathlib.Omega.{arith}
use lib.ListN.{get_or}
use Rattle.arrays.proofs.Order.{lt-or-ge}
use Rattle.route.specs.Cursor.{advance_in}
use Rattle.slot_rows.proofs.Rows.{cur-inside}
use Rattle.slot_moves.proofs.Moves.{advances-in}
use Rattle.term_scorer.specs.Inner.Slots.{cursor_at, list_at}
use Rattle.term_scorer.proofs.Slots.{moved-within}
use Rattle.term_scorer.proofs.slot.step.Goals as goal
use Rattle.term_scorer.proofs.slot.step.Goals.{Then-cur-ne127}

next-inside : (c : Then-cur-ne127) → let a = c.args in get_or (get_or a.places.now a.q []) 6 0 + 1 < 128
next-inside c =
    let row = get_or c.args.places.now c.args.q [] in
    let k = cur-inside c.args.file.now (get_or c.args.lists.now c.args.q []) row c.requires.1.list c.requires.1.place in
    elim (lt-or-ge (get_or row 6 0) 127) [
      | inl h ↦ omega arith
      | inr h ↦ absurd (c.if-cur-ne127.true (omega arith))
    ]

pub overflow_add-places : goal.overflow_add-places
overflow_add-places c = omega (arith, next-inside c)

pub overflow_add-result : goal.overflow_add-result
overflow_add-result c = omega (arith, next-inside c)

pub offset_bounds-blocks-cur : goal.offset_bounds-blocks-cur
offset_bounds-blocks-cur c = omega (arith, next-inside c)

pub bounds-blocks-cur : goal.bounds-blocks-cur
bounds-blocks-cur c = next-inside c

pub returns-then-cur-ne127 : goal.returns-then-cur-ne127
returns-then-cur-ne127 c =
    let S = c.requires.1 in
    let file = c.args.file.now in
    let lists = c.args.lists.now in
    let q = c.args.q in
    let places = c.args.places.now in
    moved-within file lists q c.requires.0 (λ s. advance_in (list_at s file lists q) 128 (cursor_at places q)) S.sixteen.0
    (advances-in file (get_or lists q []) (get_or places q []) S.list S.place c.if-cur-ne127.true)

pub returns : goal.returns
returns c = c.advance.ensures
