-- `sum_rests` meets its contract: each turn writes the sum so far and adds one bound to it.
use Rattle.intersection_window.proofs.Summing.{Summing}
use Rattle.intersection_window.proofs.window.sum_rests.Given as goal

abbrev pub invariant-loop-i : goal.invariant-loop-i
invariant-loop-i l = Summing l.n l.order l.initial.floats l.i l.running l.floats
