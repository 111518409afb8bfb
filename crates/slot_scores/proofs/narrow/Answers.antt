-- `narrow` meets its contract: the skip entry's frequency width is compared.
use mathlib.Core.Path.{refl}
use Rattle.slot_rows.proofs.Rows.{list-for}
use Rattle.slot_scores.proofs.Scores.{full-in, narrow-full, narrow-tail}
use Rattle.slot_scores.proofs.narrow.Goals as goal

pub read_skip_entry-e-requires : goal.read_skip_entry-e-requires
read_skip_entry-e-requires c =
    ((list-for c.args.file.now c.args.list.now c.part_of-x.ensures c.requires.1).blocks.skipped, full-in c.args.file.now c.args.list.now c.part_of-x.ensures c.args.b c.if-b-list.true)

pub returns-then-b-list : goal.returns-then-b-list
returns-then-b-list c =
    narrow-full c.args.file.now c.args.list.now c.part_of-x.ensures c.args.b c.if-b-list.true c.read_skip_entry-e.ensures

pub returns : goal.returns
returns c =
    narrow-tail c.args.file.now c.args.list.now refl c.args.b c.if-b-list.false
