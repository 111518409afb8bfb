-- `block_norms::gather` meets its contract: each turn puts the norm at one document's place.
use mathlib.Core.Path.{ap}
use Prim.Native.Nat.{ℕ}
use native.Mathlib.Omega.{arith}
use lib.ListN.{get_or}
use lib.Ieee.{nan}
use Rattle.arrays.proofs.Filling.{goes_on}
use Rattle.block_norms.proofs.gather.Goals as goal

pub loop-i-preserved : goal.loop-i-preserved
loop-i-preserved g c =
    λ code h. let l = c.loop-i in
    goes_on nan 128 _ _ l.i l.norms _ (omega arith) (ap (λ (z : ℕ). get_or c.args.cache.now z nan) (h l.i (omega arith) _ c.place_of-id.ensures)) (l.invariant code h)
