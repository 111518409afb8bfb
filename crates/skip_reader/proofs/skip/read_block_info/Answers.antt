-- `skip::read_block_info` meets its contract: the tail or a block behind it where fewer than 128 documents are left, else the entry's block.
use native.Mathlib.Omega.{arith}
use Rattle.skip_reader.proofs.Readers.{still_full, tail-reader, full-reader}
use Rattle.skip_reader.proofs.skip.read_block_info.Goals as goal

pub returns-then-remaining_docs-lt128 : goal.returns-then-remaining_docs-lt128
returns-then-remaining_docs-lt128 c = tail-reader c.args.file.now c.args.x c.args.b c.requires.1 c.requires.2 c.requires.3 c.if-remaining_docs-lt128.true

pub returns : goal.returns
returns c =
    full-reader c.args.file.now c.args.x c.args.b c.requires.1 c.requires.2 c.requires.3 (still_full c.args.x c.args.b (omega (arith, c.requires.3))) c.read_skip_entry-e.result c.read_skip_entry-e.ensures
