-- `slot::seek_block` meets its contract: the row of its slot moves, and the other slots stay.
use Rattle.route.specs.Cursor.{seek_block_in}
use Rattle.term_scorer.specs.Inner.Slots.{cursor_at, list_at}
use Rattle.term_scorer.proofs.Slots.{shallowed}
use Rattle.term_scorer.proofs.slot.seek_block.Goals as goal

pub returns : goal.returns
returns c =
    shallowed c.args.file.now c.args.lists.now c.args.q c.requires.0 (λ s. seek_block_in (list_at s c.args.file.now c.args.lists.now c.args.q) 128 c.args.target (cursor_at c.args.places.now c.args.q)) c.requires.1.sixteen c.seek_block.ensures
