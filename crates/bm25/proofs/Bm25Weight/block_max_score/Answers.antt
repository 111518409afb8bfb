-- `Bm25Weight::block_max_score` meets its contract: the bound at the norm of the code is the score of the decoded pair.
use Rattle.bm25.specs.Inner.Weight.{score_in}
use Rattle.bm25.specs.Inner.Bound.{block_bound_in}
use Rattle.bm25.proofs.Bm25Weight.block_max_score.Goals as goal

pub returns : goal.returns
unfolding block_bound_in score_in
returns c = c.bound_at.ensures
