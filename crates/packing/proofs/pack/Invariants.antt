-- `packing::pack` meets its contract. The loop's invariant (`Packing`): of each lane, `word` words are written and `shift` bits are kept,
-- which are `row` values.
use Prim.Native.Nat.{◌*◌}
use Rattle.packing.proofs.Lanes.{Packing}
use Rattle.packing.proofs.pack.Given as goal

abbrev pub invariant-loop-row : goal.invariant-loop-row
invariant-loop-row l =
    Packing l.values l.width l.initial.out l.at l.out l.a l.b l.c l.d l.word l.shift (4 * l.row)
