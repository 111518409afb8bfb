-- `write_block` meets its contract: the skip entry, and at its own place the block.
use mathlib.Core.Path.{refl}
use native.Mathlib.Omega.{arith}
use Rattle.list_writer.proofs.Values.{number_same}
use Rattle.list_writer.proofs.Blocks.{docs-fit, freqs-fit, block-length, block_written}
use Rattle.list_writer.proofs.write_block.Goals as goal

pub write_skip_entry-requires : goal.write_skip_entry-requires
write_skip_entry-requires c =
    let d = docs-fit c.args.b c.requires.0.sound c.fill.ensures c.num_bits-doc_bits.ensures in
    let g = freqs-fit c.args.b c.requires.0.sound c.fill.ensures c.num_bits-freq_bits.ensures in
    (omega (arith, d.1), omega (arith, g.1), omega (arith, c.requires.1, c.requires.2))

pub pack-requires : goal.pack-requires
pack-requires c =
    let b = c.args.b in
    let d = c.num_bits-doc_bits.ensures in
    let long = block-length b c.requires.0.sound c.fill.ensures d c.num_bits-freq_bits.ensures in
    ((docs-fit b c.requires.0.sound c.fill.ensures d).0, omega (arith, long, c.requires.2, c.write_skip_entry.ensures.written.long))

pub pack-requires-2 : goal.pack-requires-2
pack-requires-2 c =
    let b = c.args.b in
    let g = c.num_bits-freq_bits.ensures in
    let long = block-length b c.requires.0.sound c.fill.ensures c.num_bits-doc_bits.ensures g in (
      (freqs-fit b c.requires.0.sound c.fill.ensures g).0,
      omega (arith, long, c.requires.2, c.write_skip_entry.ensures.written.long, c.pack.ensures.written.long),
    )

pub returns : goal.returns
returns c =
    let a = c.args in
    block_written a.b c.requires.0.sound c.fill.ensures c.num_bits-doc_bits.ensures c.num_bits-freq_bits.ensures c.requires.1
    refl refl (number_same a.docs.now a.from a.b 127) c.write_skip_entry.ensures c.pack.ensures c.pack-2.ensures
