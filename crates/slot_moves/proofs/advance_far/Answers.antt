-- `advance_far` meets its contract: the advance of the place that the row stands for, kept.
use Rattle.route.specs.Cursor.{advance_in}
use Rattle.slot_rows.proofs.Rows.{moves}
use Rattle.slot_moves.proofs.advance_far.Goals as goal

pub returns : goal.returns
returns c =
    moves c.args.file.now c.args.list.now c.args.place.now (λ l k. advance_in l 128 k) c.part_of-x.ensures c.postings_of-p.ensures c.advance-r.result c.advance-r.ensures c.keep.ensures c.doc.ensures
