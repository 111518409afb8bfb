-- `single_walk::first_above` meets its contract: no score that the loop has passed is above the threshold.
use Rattle.single_walk.proofs.Seeking.{Seeking}
use Rattle.single_walk.proofs.first_above.Given as goal

abbrev pub invariant-loop-i : goal.invariant-loop-i
invariant-loop-i l = Seeking l.values l.from l.n l.threshold l.i
