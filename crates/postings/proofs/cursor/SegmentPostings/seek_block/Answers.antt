-- `SegmentPostings::seek_block` meets its contract: only the skip reader moves, and what it comes to is not loaded.
use native.Mathlib.Omega.{arith}
use Rattle.postings.proofs.Moves.{skips}
use Rattle.postings.proofs.cursor.SegmentPostings.seek_block.Goals as goal

pub seek-skip_reader-requires : goal.seek-skip_reader-requires
seek-skip_reader-requires c = (c.requires.0, c.requires.1, omega (arith, c.requires.2, c.requires.0.blocks.skipped.parted.few), c.requires.3)

pub returns : goal.returns
returns c = skips c.args.file.now c.args.x c.requires.0 c.args.self c.requires.1 c.args.target c.requires.3 c.seek-skip_reader.ensures
