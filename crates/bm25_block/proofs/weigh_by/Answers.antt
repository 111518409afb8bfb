-- `bm25_block::weigh_by` meets its contract: each turn makes one frequency an f32 and puts its score in place of its norm.
use native.Mathlib.Omega.{arith}
use lib.Ieee.{nan}
use Rattle.arrays.proofs.Filling.{goes_on}
use Rattle.bm25_block.proofs.BlockScores.{weighed-one}
use Rattle.bm25_block.proofs.weigh_by.Goals as goal

pub loop-i-preserved : goal.loop-i-preserved
loop-i-preserved g c =
    let l = c.loop-i in
    let e = weighed-one _ _ (c.requires.gives l.i (omega arith) _ c.to_f32-tf.ensures) (l.invariant.rest l.i (omega arith)) c.score_at.ensures in
    goes_on nan 128 _ _ l.i l.scores _ (omega arith) e l.invariant
