-- `block_cover::covered_by` meets its contract: the flag is the test over the scores passed.
use mathlib.Core.Path.{◌≡◌}
use Rattle.bm25.specs.Bound.{all_covered}
use Rattle.bm25_block.specs.Inner.Block.{weighed_at}
use Rattle.block_cover.proofs.covered_by.Given as goal

abbrev pub invariant-loop-i : goal.invariant-loop-i
invariant-loop-i g l = l.right ≡ all_covered l.bound l.i (weighed_at l.weight l.freqs l.norms)
