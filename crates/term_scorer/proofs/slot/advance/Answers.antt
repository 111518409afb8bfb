-- `slot::advance` meets its contract: the row of its slot moves, and the other slots stay.
use Rattle.route.specs.Cursor.{advance_in}
use Rattle.term_scorer.specs.Inner.Slots.{cursor_at, list_at}
use Rattle.term_scorer.proofs.Slots.{moved-slot, block_at}
use Rattle.term_scorer.proofs.slot.advance.Goals as goal

pub advance-requires : goal.advance-requires
advance-requires c = (c.requires.1.part-row, c.requires.1.list, c.requires.1.place, block_at c.args.places.now c.args.q _ c.requires.2)

pub returns : goal.returns
returns c =
    moved-slot c.args.file.now c.args.lists.now c.args.q c.requires.0 (λ s. advance_in (list_at s c.args.file.now c.args.lists.now c.args.q) 128 (cursor_at c.args.places.now c.args.q)) c.requires.1.sixteen c.advance.ensures
