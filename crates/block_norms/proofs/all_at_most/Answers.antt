-- `block_norms::all_at_most` meets its contract: after each turn the flag is the test over the numbers passed.
use mathlib.Core.Path.{◌≡◌, ap, ◌∙◌}
use Prim.Native.Nat.{ℕ}
use native.Mathlib.Omega.{arith}
use lib.Dec.{leb}
use lib.ListN.{get_or}
use Rattle.arrays.specs.Every.{every}
use Rattle.block_norms.specs.Inner.Block.{all_at_most}
use Rattle.block_norms.proofs.all_at_most.Goals as goal

pub returns : goal.returns
unfolding all_at_most
returns c = let l = c.loop-x in let e : l.x-index ≡ 128 = omega arith in l.invariant ∙ ap (λ (n : ℕ). every n (λ k. leb (get_or c.args.xs.now k 0) c.args.limit)) e
