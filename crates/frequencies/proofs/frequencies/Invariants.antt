-- `frequencies::frequencies` meets its contract. The loop's invariant (`Counting`): i frequencies are in their places, the other values as
-- they were, and `right` says whether those i are right.
use Rattle.frequencies.proofs.Counts.{Counting}
use Rattle.frequencies.proofs.frequencies.Given as goal

abbrev pub invariant-loop-i : goal.invariant-loop-i
invariant-loop-i l = Counting l.initial.values l.n l.strict l.values l.right l.i
