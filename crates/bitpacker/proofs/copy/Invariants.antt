-- `bitpacker::copy` meets its contract: of width 32 a value is a word (`word_value`), 4 bytes after the one before it.
use Rattle.arrays.proofs.Filling.{Filling}
use Rattle.bitpacker.specs.Packed.{packed_at}
use Rattle.bitpacker.proofs.copy.Given as goal

abbrev pub invariant-loop-i : goal.invariant-loop-i
invariant-loop-i l = Filling 0 128 (packed_at l.s l.at 32) l.initial.out l.i l.out
