-- `seek_on` meets its contract: in the block that may hold the target, loaded, the search ends on the route's place.
use Rattle.skip_reader.proofs.Blocks.{decoded-sorted}
use Rattle.slot_moves.proofs.Moves.{told-on}
use Rattle.slot_moves.proofs.seek_on.Goals as goal

pub search_block-found-requires : goal.search_block-found-requires
search_block-found-requires c =
    decoded-sorted c.requires.1 c.reach.ensures.moved.place.placed.holds

pub returns : goal.returns
returns c =
    told-on c.args.file.now c.args.list.now c.args.place.now c.requires.1 c.requires.2 c.args.target c.requires.3 c.requires.4 c.reach.ensures
    c.search_block-found.ensures c.index_of.ensures c.is_ok.ensures.value
