-- `reach` meets its contract: by the skip reader and a load, by a load alone, or as it stands.
use Rattle.slot_moves.proofs.Moves.{reached-by, reached-here, stays-shallow}
use Rattle.slot_moves.proofs.reach.Goals as goal

pub returns-then-place-target : goal.returns-then-place-target
returns-then-place-target c =
    reached-by c.args.file.now c.args.list.now c.args.place.now c.requires.1 c.requires.2 c.args.target c.seek_block.ensures c.load.ensures

pub returns-then-place-ne1 : goal.returns-then-place-ne1
returns-then-place-ne1 c =
    reached-by c.args.file.now c.args.list.now c.args.place.now c.requires.1 c.requires.2 c.args.target
    (stays-shallow c.args.file.now c.args.list.now c.args.place.now c.requires.1 c.requires.2.standing c.args.target c.if-place-target.false) c.load-then-place-ne1.ensures

pub returns-else-place-ne1 : goal.returns-else-place-ne1
returns-else-place-ne1 c =
    reached-here c.args.file.now c.args.list.now c.args.place.now c.requires.1 c.requires.2 c.args.target c.if-place-target.false c.if-place-ne1.false
