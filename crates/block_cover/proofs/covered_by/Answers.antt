-- `block_cover::covered_by` meets its contract: the flag is the test over the scores passed.
use mathlib.Core.Logic.{inl, inr}
use Rattle.block_cover.proofs.BoundTests.{compared}
use Rattle.block_cover.proofs.covered_by.Goals as goal

pub loop-i-preserved : goal.loop-i-preserved
loop-i-preserved g c =
    let a = c.args in
    let l = c.loop-i in
    compared a.weight a.bound a.freqs.now a.norms.now l.i (c.requires.1.gives l.i c.loop-i-test.true _ c.to_f32-tf.ensures) c.score_at.ensures l.invariant
    (elim c.if-bound-score_at.branch [ goal.then-bound-score_at w ↦ inl (w.if-bound-score_at.true, w.right-is) | goal.else-bound-score_at w ↦ inr (w.if-bound-score_at.false, w.right-is) ])
