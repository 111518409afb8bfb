-- `lengths::field_lengths` meets its contract: one comparison of the whole constant with the rounded table, which the checker computes.
use mathlib.Core.Path.{refl}
use lib.Ieee.{of_bits, of_int, round}
use Rattle.fieldnorm.specs.Code.{field_norms_table}
use Rattle.bm25.proofs.Nearest.{lengths-of}
use Rattle.bm25.proofs.lengths.field_lengths.Goals as goal

pub returns : goal.returns
unfolding field_norms_table of_bits of_int round
returns c = lengths-of refl
