-- `slot::shallow_seek` meets its contract: within its block nothing moves, else it is `seek_block`.
use Rattle.term_scorer.proofs.Slots.{stayed}
use Rattle.term_scorer.proofs.slot.shallow_seek.Goals as goal

pub returns-then-target-last : goal.returns-then-target-last
returns-then-target-last c =
    stayed c.args.file.now c.args.lists.now c.args.q c.requires.1 c.args.target c.if-target-last.true

pub returns : goal.returns
returns c = c.seek_block.ensures
