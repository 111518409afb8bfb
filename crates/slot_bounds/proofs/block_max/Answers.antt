-- `block_max` meets its contract: a known bound is the one kept, another is worked out.
use Rattle.slot_bounds.proofs.Bounds.{bound-cached}
use Rattle.slot_bounds.proofs.block_max.Goals as goal

pub returns-in-Some : goal.returns-in-Some
returns-in-Some c =
    bound-cached c.args.similarity.scoring c.args.file.now c.args.lists.now c.args.q c.args.places.now c.args.bounds.now c.requires.4 c.cached-known.ensures c.in-Some.is

pub returns-in-None : goal.returns-in-None
returns-in-None c = c.new_block_max.ensures
