-- `seek_block` meets its contract: within the block the row stays, else the reader that moved is kept.
use native.Mathlib.Omega.{arith}
use Rattle.route.specs.Cursor.{seek_block_in}
use Rattle.decoded.specs.Lists.{list_of}
use Rattle.slot_rows.specs.Inner.Rows.{cursor_in, part_in}
use Rattle.slot_rows.proofs.Rows.{moves-shallow, list-for, stands-for, block-for}
use Rattle.slot_moves.proofs.Moves.{keeps-at, last-for, stays-shallow}
use Rattle.slot_moves.proofs.seek_block.Goals as goal

pub returns-then-target-place : goal.returns-then-target-place
returns-then-target-place c = stays-shallow c.args.file.now c.args.list.now c.args.place.now c.requires.1 c.requires.2 c.args.target c.if-target-place.true

pub seek_block-r-requires : goal.seek_block-r-requires
seek_block-r-requires c =
    let file = c.args.file.now in (
      list-for file c.args.list.now c.part_of-x.ensures c.requires.1,
      stands-for file c.args.list.now c.args.place.now (λ l k. k) c.part_of-x.ensures c.postings_of-p.ensures,
      omega (arith, block-for file c.args.list.now c.args.place.now (λ l k. k) c.part_of-x.ensures c.postings_of-p.ensures, c.requires.2.low),
      omega (arith, c.if-target-place.false, last-for file c.args.list.now c.args.place.now c.part_of-x.ensures c.postings_of-p.ensures c.requires.2),
    )

pub returns : goal.returns
returns c =
    let t = c.args.target in
    moves-shallow c.args.file.now c.args.list.now c.args.place.now (λ l k. seek_block_in l 128 t k) c.part_of-x.ensures c.postings_of-p.ensures
    (λ s. keeps-at c.args.file.now c.args.list.now c.args.place.now c.requires.1 c.requires.2 t (list_of s c.args.file.now (part_in c.args.list.now)) (cursor_in c.args.place.now))
    c.seek_block-r.result c.seek_block-r.ensures c.keep.ensures
