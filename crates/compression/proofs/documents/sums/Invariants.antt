-- `compression::documents::sums` meets its contract. The loop's invariant (`Summing`): the documents of `row` rows are in their places, the other
-- values as they were, and p is the document before the next.
use Rattle.std.proofs.Common.{◌*◌}
use Rattle.compression.proofs.Differences.{Summing}
use Rattle.compression.proofs.documents.sums.Given as goal

abbrev pub invariant-loop-row : goal.invariant-loop-row
invariant-loop-row l = Summing l.initial.values l.strict l.first l.previous l.values l.p (4 * l.row)
