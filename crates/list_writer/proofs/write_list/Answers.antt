-- `write_list` meets its contract. The loop's invariant (`Writing`): b blocks are written with their entries, and the next comes to p.
use Prim.Native.Nat.{◌+◌, ◌*◌, ◌/◌, ◌%◌}
use native.Mathlib.Omega.{arith}
use Rattle.list_writer.specs.Inner.Skips.{numbers_from}
use Rattle.list_writer.proofs.Listing.{postings-less, begun, goes_on, all-written}
use Rattle.list_writer.proofs.Listing.{entry-room, block_room, tail-room}
use Rattle.list_writer.proofs.write_list.Goals as goal

pub loop-b-init : goal.loop-b-init
loop-b-init c =
    let a = c.args in
    let d = numbers_from a.docs.now a.from in
    let f = numbers_from a.freqs.now a.from in
    begun a.norms.now a.reader d f a.tops.now a.start (a.n / 128) a.out.now a.place

pub write_block-p-requires : goal.write_block-p-requires
write_block-p-requires c =
    let n = c.args.n in
    let h = c.loop-b-test.true in (
      postings-less (128 * c.loop-b.b + 128) (omega arith) c.requires.1 c.requires.2 c.requires.0,
      entry-room n c.loop-b.invariant h,
      block_room n c.loop-b.invariant c.requires.5 h,
    )

pub loop-b-preserved : goal.loop-b-preserved
loop-b-preserved c =
    let q = c.pair_at-pair.ensures in
    let e = c.write_block-p.ensures in
    goes_on c.args.n c.loop-b.invariant c.loop-b-test.true q.0 q.1 e.0 e.1

pub write_tail-requires : goal.write_tail-requires
write_tail-requires c =
    let n = c.args.n in (
      omega arith,
      postings-less (128 * (n / 128) + n % 128) (omega arith) c.requires.1 c.requires.2 c.requires.0,
      tail-room n c.loop-b.invariant c.requires.5 c.loop-b-test.false,
    )

pub returns : goal.returns
returns c =
    let e = c.write_tail.ensures in
    all-written c.args.n c.loop-b.invariant c.loop-b-test.false e.0 e.1
