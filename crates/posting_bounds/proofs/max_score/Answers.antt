-- `max_score` meets its contract: each turn compares one score.
use Rattle.posting_bounds.proofs.BlockBounds.{goes_on}
use Rattle.posting_bounds.proofs.max_score.Goals as goal

pub loop-i-preserved : goal.loop-i-preserved
loop-i-preserved c = goes_on _ c.loop-i.invariant c.loop-i-test.true c.larger-most.ensures
