-- `compression::documents::sums` meets its contract. The loop's invariant (`Summing`): the documents of `row` rows are in their places, the other
-- values as they were, and p is the document before the next.
use Rattle.std.proofs.Common.{◌≡◌, ℕ, ◌+◌, ◌*◌, arith}
use Rattle.compression.proofs.Differences.{begun, row_more}
use Rattle.compression.proofs.documents.sums.Goals as goal

pub loop-row-init : goal.loop-row-init
loop-row-init c = begun c.args.values.now c.args.strict c.args.first c.args.previous c.requires c.before-p.ensures

next : (n : ℕ) → 4 * (n + 1) ≡ 4 * n + 4
next n = omega arith

pub loop-row-preserved : goal.loop-row-preserved
loop-row-preserved c =
    rw (next c.loop-row.row) (row_more c.loop-row.invariant (omega arith) c.gap-add.ensures c.four_sums-x.result c.four_sums-x.ensures)
