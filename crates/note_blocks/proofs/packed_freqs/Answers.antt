-- `packed_freqs` meets its contract: the unpacked values, counted, are the block's frequencies.
use native.Mathlib.Omega.{arith}
use Rattle.notefile.proofs.FullBlocks.{freqs-in, small, freqs-counted}
use Rattle.note_blocks.proofs.packed_freqs.Goals as goal

pub unpack-requires : goal.unpack-requires
unpack-requires c = let i = freqs-in c.requires.0 c.args.e c.requires.1 in (i.0, i.1, c.requires.2)

pub frequencies-requires : goal.frequencies-requires
frequencies-requires c = (omega arith, c.unpack.ensures.long, λ k l. small c.requires.0 c.args.e c.requires.1 32 (freqs-in c.requires.0 c.args.e c.requires.1).0 c.unpack.ensures k (omega arith))

pub returns : goal.returns
returns c = freqs-counted c.requires.0 c.args.e c.requires.1 c.unpack.ensures c.frequencies.ensures
