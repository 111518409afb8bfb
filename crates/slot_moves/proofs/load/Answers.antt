-- `load` meets its contract: a loaded block's place is put on its first posting, another block is loaded and kept so.
use Rattle.slot_moves.proofs.Moves.{first-in, first-loaded}
use Rattle.slot_moves.proofs.load.Goals as goal

pub returns-then-place-eq1 : goal.returns-then-place-eq1
returns-then-place-eq1 c =
    first-in c.args.file.now c.args.list.now c.args.place.now c.requires.2 c.if-place-eq1.true

pub returns : goal.returns
returns c =
    first-loaded c.args.file.now c.args.list.now c.args.place.now c.part_of-x.ensures c.postings_of-p.ensures c.requires.2 c.load_block.ensures c.keep.ensures
