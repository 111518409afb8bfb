-- `bm25::compute_tf_cache` meets its contract: each turn puts one code's norm.
use Prim.Native.Nat.{◌≤◌}
use lib.Ieee.{nan}
use Rattle.arrays.proofs.Filling.{Filling}
use Rattle.fieldnorm.specs.Code.{fieldnorm}
use Rattle.bm25.specs.Score.{norm_of}
use Rattle.bm25.proofs.compute_tf_cache.Given as goal

abbrev pub invariant-loop-i : goal.invariant-loop-i
invariant-loop-i l = (l.i ≤ 256) × Filling nan 256 (λ k. norm_of (fieldnorm k) l.average) l.initial.cache l.i l.cache
