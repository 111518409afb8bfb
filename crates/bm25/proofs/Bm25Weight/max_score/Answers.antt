-- `Bm25Weight::max_score` meets its contract: it is the score of the definition's pair.
use Rattle.bm25.specs.Inner.Bound.{list_bound_in}
use Rattle.bm25.proofs.Bm25Weight.max_score.Goals as goal

pub returns : goal.returns
unfolding list_bound_in
returns c = c.score.ensures
