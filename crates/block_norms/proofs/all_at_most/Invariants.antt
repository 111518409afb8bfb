-- `block_norms::all_at_most` meets its contract: after each turn the flag is the test over the numbers passed.
use mathlib.Core.Path.{◌≡◌}
use lib.Dec.{leb}
use lib.ListN.{get_or}
use Rattle.arrays.specs.Every.{every}
use Rattle.block_norms.proofs.all_at_most.Given as goal

abbrev pub invariant-loop-x : goal.invariant-loop-x
invariant-loop-x l = l.ok ≡ every l.x-index (λ k. leb (get_or l.xs k 0) l.limit)
