-- `max_score` meets its contract: each turn compares one score.
use lib.ListN.{get_or}
use lib.Ieee.{nan}
use Rattle.posting_bounds.proofs.BlockBounds.{Finding}
use Rattle.posting_bounds.proofs.max_score.Given as goal

abbrev pub invariant-loop-i : goal.invariant-loop-i
invariant-loop-i l = Finding (λ k. get_or l.scores k nan) l.n l.i l.most
