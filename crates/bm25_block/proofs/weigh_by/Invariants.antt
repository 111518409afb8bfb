-- `bm25_block::weigh_by` meets its contract: each turn makes one frequency an f32 and puts its score in place of its norm.
use lib.ListN.{get_or}
use lib.Ieee.{nan}
use Rattle.arrays.proofs.Filling.{Filling}
use Rattle.bm25.specs.Score.{score_at}
use Rattle.bm25_block.proofs.weigh_by.Given as goal

abbrev pub invariant-loop-i : goal.invariant-loop-i
invariant-loop-i g l =
    Filling nan 128 (λ k. score_at l.weight (get_or l.initial.scores k nan) (get_or l.term_freqs k 0)) l.initial.scores l.i l.scores
