-- `packing::num_bits` meets its contract. The loop's invariant (`Gathering`): a width holds the bits gathered if and only if it
-- holds the values passed.
use Rattle.packing.proofs.Widths.{Gathering}
use Rattle.packing.proofs.num_bits.Given as goal

abbrev pub invariant-loop-value : goal.invariant-loop-value
invariant-loop-value l = Gathering l.values l.all l.value-index
