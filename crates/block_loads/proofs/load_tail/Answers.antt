-- `load_tail` meets its contract: in a right tail the sums fit, and a VInt is its frequency.
use mathlib.Core.Path.{◌∙◌}
use Rattle.note_blocks.proofs.TailBlocks.{tail-block}
use Rattle.block_loads.proofs.load_tail.Goals as goal

pub returns : goal.returns
returns c =
    tail-block (c.read_tail.ensures.values (c.read_tail.ensures.same ∙ c.requires.2)) c.sized-2.ensures.1 c.sums.ensures c.requires.3 c.pad.ensures c.pad-2.ensures
