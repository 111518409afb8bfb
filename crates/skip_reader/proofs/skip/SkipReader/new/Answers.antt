-- `SkipReader::new` meets its contract: the first block stands where the postings start, and no document is before it.
use Rattle.skip_reader.proofs.Readers.{first-place, first-previous, first-left}
use Rattle.skip_reader.proofs.skip.SkipReader.new.Goals as goal

pub read_block_info-requires : goal.read_block_info-requires
read_block_info-requires c = (c.requires, first-place c.args.file.now c.args.x, first-previous c.args.file.now c.args.x, first-left c.args.x)
