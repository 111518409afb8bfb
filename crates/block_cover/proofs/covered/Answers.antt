-- `block_cover::covered` meets its contract: the scores at the norms that were read are the postings'.
use Rattle.block_cover.proofs.BoundTests.{norms-read}
use Rattle.block_cover.proofs.covered.Goals as goal

pub returns : goal.returns
returns c =
    norms-read c.args.reader c.args.file.now c.args.w c.args.docs.now c.args.freqs.now c.read_norms.ensures c.args.bound c.args.n c.requires c.norms_covered.ensures
