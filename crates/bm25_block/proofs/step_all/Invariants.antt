-- `bm25_block::step_all` meets its contract: each turn steps one score, which no earlier turn has touched.
use lib.ListN.{get_or}
use lib.Ieee.{nan}
use Rattle.arrays.proofs.Filling.{Filling}
use Rattle.floats.specs.Step.{step_down}
use Rattle.bm25_block.proofs.step_all.Given as goal

abbrev pub invariant-loop-score : goal.invariant-loop-score
invariant-loop-score l = Filling nan 128 (λ k. step_down (get_or l.initial.scores k nan)) l.initial.scores l.score-index l.scores
