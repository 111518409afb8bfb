-- `SegmentPostings::advance` meets its contract: the next place, or the first of the next block.
use native.Mathlib.Omega.{arith}
use Rattle.skip_reader.proofs.Readers.{stands_on}
use Rattle.postings.proofs.Moves.{advanced-in, advanced-on}
use Rattle.postings.proofs.cursor.SegmentPostings.advance.Goals as goal

pub returns-then-self-ne127 : goal.returns-then-self-ne127
returns-then-self-ne127 c = advanced-in c.requires.0 c.args.self c.requires.1 c.if-self-ne127.true

pub advance-skip_reader-requires : goal.advance-skip_reader-requires
advance-skip_reader-requires c = (c.requires.0.blocks, c.requires.1.stands, omega (arith, c.requires.2, c.requires.0.blocks.skipped.parted.few))

pub load_block-requires : goal.load_block-requires
load_block-requires c = (c.requires.0, stands_on c.args.file.now c.args.x _ c.advance-skip_reader.ensures)

pub returns : goal.returns
returns c =
    advanced-on c.requires.0 c.args.self c.requires.1 c.if-self-ne127.false c.requires.2 c.advance-skip_reader.ensures c.load_block.ensures
