-- `advance` meets its contract: the next place of the block, or the next block.
use mathlib.Core.Logic.{inl, inr}
use Prim.Native.Nat.{◌+◌, ◌<◌}
use native.Mathlib.Omega.{arith}
use lib.ListN.{get_or}
use Rattle.arrays.proofs.Order.{lt-or-ge}
use Rattle.slot_rows.proofs.Rows.{cur-inside}
use Rattle.slot_moves.proofs.Moves.{advances-in}
use Rattle.slot_moves.proofs.advance.Goals as goal
use Rattle.slot_moves.proofs.advance.Goals.{Then-cur-ne127}

next-inside : (c : Then-cur-ne127) → get_or c.args.place.now 6 0 + 1 < 128
next-inside c =
    let k = cur-inside c.args.file.now c.args.list.now c.args.place.now c.requires.1 c.requires.2 in
    elim (lt-or-ge (get_or c.args.place.now 6 0) 127) [
      | inl h ↦ omega arith
      | inr h ↦ absurd (c.if-cur-ne127.true (omega arith))
    ]

pub returns-then-cur-ne127 : goal.returns-then-cur-ne127
returns-then-cur-ne127 c =
    advances-in c.args.file.now c.args.list.now c.args.place.now c.requires.1 c.requires.2 c.if-cur-ne127.true
