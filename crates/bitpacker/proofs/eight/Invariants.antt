-- `bitpacker::eight` meets its contract. The loop keeps `Rows`: the values so far are the block's, and what is carried to the next row
-- is its place by 01 (`Carried`). A row ends in the words read (`whole-more`) or in the next ones (`across-more`).
use Prim.Native.Nat.{◌+◌, ◌*◌}
use Rattle.bitpacker.proofs.Rows.{Rows}
use Rattle.bitpacker.proofs.eight.Given as goal

abbrev pub invariant-loop-n : goal.invariant-loop-n
invariant-loop-n l = Rows l.s l.at l.width l.out l.place (l.i + 4 * l.n)
