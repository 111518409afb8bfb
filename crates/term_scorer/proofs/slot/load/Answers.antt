-- `slot::load` meets its contract: the row of its slot moves, and the other slots stay.
use Rattle.term_scorer.proofs.Slots.{moved-slot}
use Rattle.term_scorer.proofs.slot.load.Goals as goal

pub returns : goal.returns
returns c =
    moved-slot c.args.file.now c.args.lists.now c.args.q c.requires.0 _ c.requires.1.sixteen c.load.ensures
