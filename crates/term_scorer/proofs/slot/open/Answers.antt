-- `slot::open` meets its contract: the part is kept, then the place opened.
use Rattle.term_scorer.proofs.Slots.{opened}
use Rattle.term_scorer.proofs.slot.open.Goals as goal

pub returns : goal.returns
returns c =
    opened c.args.file.now c.args.x c.args.max_score c.args.q c.requires.0 c.args.lists.now c.requires.2 c.keep_part.ensures (c.requires.3, c.requires.4) c.open.ensures
