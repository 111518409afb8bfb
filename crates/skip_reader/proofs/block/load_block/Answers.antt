-- `block::load_block` meets its contract: the skip entry's last document is the previous one, and what is past the list's end is TERMINATED.
use mathlib.Core.Path.{sym, ◌∙◌}
use native.Mathlib.Nat.{le_refl}
use native.Mathlib.Omega.{arith}
use Rattle.skip_reader.proofs.Readers.{packed-info, tail-info, entry_here}
use Rattle.skip_reader.proofs.Blocks.{right-here, tail-here, full-here, on-tail, loaded-is, empty-is}
use Rattle.skip_reader.proofs.block.load_block.Goals as goal

pub load_packed-requires : goal.load_packed-requires
load_packed-requires c =
    let P = packed-info c.args.file.now c.args.x c.args.reader c.requires.1 c.in-BitPacked.is in
    (full-here c.requires.0 c.args.reader c.requires.1 P.full, entry_here c.args.file.now c.args.x c.args.reader c.requires.1 P, right-here c.requires.0 c.args.reader c.requires.1 (omega (arith, P.full)))

pub load_tail-requires : goal.load_tail-requires
load_tail-requires c =
    let s = c.args.file.now in let x = c.args.x in let r = c.args.reader in
    let e = on-tail x r (tail-info s x r c.requires.1 c.in-VInt.is) c.if-num_docs-eq0.false in
    let h = tail-here c.requires.0 r c.requires.1 e in
    (c.requires.0.blocks.skipped, h.0, c.requires.0.right.postings, h.1)

pub returns-in-BitPacked : goal.returns-in-BitPacked
returns-in-BitPacked c =
    let P = packed-info c.args.file.now c.args.x c.args.reader c.requires.1 c.in-BitPacked.is in
    loaded-is _ (omega (arith, P.full)) c.load_packed.ensures

pub returns-then-num_docs-eq0 : goal.returns-then-num_docs-eq0
returns-then-num_docs-eq0 c =
    let s = c.args.file.now in let x = c.args.x in let r = c.args.reader in
    empty-is s x r.block c.sized.ensures.1 (sym (tail-info s x r c.requires.1 c.in-VInt.is).1 ∙ c.if-num_docs-eq0.true) c.pad.ensures c.pad-then-num_docs-eq0.ensures

pub returns-else-num_docs-eq0 : goal.returns-else-num_docs-eq0
returns-else-num_docs-eq0 c =
    let s = c.args.file.now in let x = c.args.x in let r = c.args.reader in
    let e = on-tail x r (tail-info s x r c.requires.1 c.in-VInt.is) c.if-num_docs-eq0.false in
    rw e (loaded-is _ (le_refl _) c.load_tail.ensures)
