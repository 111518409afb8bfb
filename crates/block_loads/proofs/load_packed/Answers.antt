-- `load_packed` meets its contract: in a right block the sums and the counts fit.
use Rattle.notefile.proofs.FullBlocks.{docs-in, packed-block}
use Rattle.block_loads.proofs.load_packed.Goals as goal

pub unpack-requires : goal.unpack-requires
unpack-requires c =
    let i = docs-in c.requires.0 c.args.e c.requires.1 in
    (i.0, i.1, c.sized.ensures.1.long-docs)

pub returns : goal.returns
returns c =
    packed-block c.requires.0 c.args.e c.requires.1 c.sized.ensures.1 c.unpack.ensures c.sums.ensures c.packed_freqs.ensures c.requires.2
