-- `next_candidate` meets its contract: each place of the leader's block is left out, or its posting is the first candidate.
use mathlib.Core.Path.{refl}
use Rattle.intersection_candidate.proofs.Finding.{begun, block-ends, ends, hits, list-ends, skips, window-ends}
use Rattle.intersection_candidate.proofs.leader.next_candidate.Goals as goal

pub loop-i-init : goal.loop-i-init
loop-i-init c = λ l b R. begun l b _ c.requires

pub returns-then-doc-window_end : goal.returns-then-doc-window_end
returns-then-doc-window_end c = λ l b R. ends l b _ (c.loop-i.invariant l b R) (window-ends R _ _ _ c.loop-i-test.true refl c.if-doc-window_end.true)

pub returns-then-doc-eq-TERMINATED : goal.returns-then-doc-eq-TERMINATED
returns-then-doc-eq-TERMINATED c = λ l b R. ends l b _ (c.loop-i.invariant l b R) (list-ends R _ _ _ c.loop-i-test.true refl c.if-doc-eq-TERMINATED.true)

pub returns-then-score-score_threshold : goal.returns-then-score-score_threshold
returns-then-score-score_threshold c =
    λ l b R. hits R c.args.left (c.loop-i.invariant l b R) c.loop-i-test.true refl c.if-doc-window_end.false c.if-doc-eq-TERMINATED.false refl c.if-score-score_threshold.true

pub loop-i-preserved : goal.loop-i-preserved
loop-i-preserved c =
    λ l b R. skips R c.args.left (c.loop-i.invariant l b R) c.loop-i-test.true refl c.if-doc-window_end.false c.if-doc-eq-TERMINATED.false refl c.if-score-score_threshold.false

pub returns : goal.returns
returns c = λ l b R. ends l b _ (c.loop-i.invariant l b R) (block-ends R _ _ _ c.loop-i-test.false)
