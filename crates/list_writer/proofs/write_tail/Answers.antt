-- `write_tail` meets its contract: the documents' VInts, and behind them the frequencies'.
use Rattle.list_writer.proofs.Tails.{docs-room, tail-room, tail_written}
use Rattle.list_writer.proofs.write_tail.Goals as goal

pub write_vints-middle-requires : goal.write_vints-middle-requires
write_vints-middle-requires c =
    (c.requires.0, c.fill.ensures.sized.long-docs, docs-room c.fill.ensures c.args.place c.args.out.now c.requires.2)

pub write_vints-requires : goal.write_vints-requires
write_vints-requires c =
    let e = c.write_vints-middle.ensures in
    let room = tail-room c.fill.ensures c.args.place c.args.out.now c.requires.2 e.0 e.1 in
    (c.requires.0, c.fill.ensures.sized.long-freqs, room)

pub returns : goal.returns
returns c =
    let e = c.write_vints-middle.ensures in
    let g = c.write_vints.ensures in
    tail_written c.fill.ensures c.args.place c.args.out.now c.requires.2 e.0 e.1 g.0 g.1
