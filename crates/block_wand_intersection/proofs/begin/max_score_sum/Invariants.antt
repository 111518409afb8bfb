-- `max_score_sum` meets its contract: the secondaries' list bounds are added from the first on, then the leader's before them.
use Rattle.block_wand_intersection.proofs.Beginning.{Adding}
use Rattle.block_wand_intersection.proofs.begin.max_score_sum.Given as goal

abbrev pub invariant-loop-i : goal.invariant-loop-i
invariant-loop-i l = Adding l.lists l.n l.order l.i l.sum
