-- `SegmentPostings::open` meets its contract: the first block is loaded, and its first place is the list's.
use Rattle.skip_reader.proofs.Readers.{stands_on}
use Rattle.postings.proofs.Moves.{opened}
use Rattle.postings.proofs.cursor.SegmentPostings.open.Goals as goal

pub new-skip_reader-requires : goal.new-skip_reader-requires
new-skip_reader-requires c = c.requires.blocks

pub load_block-requires : goal.load_block-requires
load_block-requires c = (c.requires, stands_on c.args.file.now c.args.x 0 c.new-skip_reader.ensures)

pub returns : goal.returns
returns c = opened c.args.file.now c.args.x c.new-skip_reader.ensures c.load_block.ensures
