-- `block_max_score` meets its contract: the pair of a full block, the scores of a loaded tail, the list bound of one that is not loaded.
use native.Mathlib.Omega.{arith}
use Rattle.skip_reader.proofs.Blocks.{decoded-small}
use Rattle.skip_reader.proofs.Readers.{packed-info, tail-info}
use Rattle.posting_bounds.proofs.BlockBounds.{full-bound, unloaded-bound, loaded-bound}
use Rattle.posting_bounds.proofs.block_max_score.Goals as goal

pub tail_max_score-requires : goal.tail_max_score-requires
tail_max_score-requires c =
    let s = c.args.file.now in let x = c.args.x in let r = c.args.p.skip_reader in
    (c.requires.1, c.requires.2, omega (arith, tail-info s x r c.requires.3.stands c.in-VInt.is), decoded-small c.requires.0 c.requires.3.holds)

pub returns-then-p : goal.returns-then-p
returns-then-p c =
    let s = c.args.file.now in let x = c.args.x in let r = c.args.p.skip_reader in
    let i = tail-info s x r c.requires.3.stands c.in-VInt.is in
    loaded-bound s x c.args.w c.requires.2 (λ n. (c.type_inv.file n).fits) c.args.scoring c.args.p i.0 c.if-p.true
    (rw (c.requires.3.loaded-is c.if-p.true) at c.requires.3.holds) i.1 c.tail_max_score.ensures

pub returns-in-BitPacked : goal.returns-in-BitPacked
returns-in-BitPacked c =
    let s = c.args.file.now in let x = c.args.x in let r = c.args.p.skip_reader in
    full-bound s x c.args.w c.requires.2 (λ k. (c.type_inv.file k).fits) c.args.scoring c.args.p (packed-info s x r c.requires.3.stands c.in-BitPacked.is) c.block_max_score.ensures

pub returns-else-p : goal.returns-else-p
returns-else-p c =
    let s = c.args.file.now in let x = c.args.x in let r = c.args.p.skip_reader in
    unloaded-bound s x c.args.w c.requires.2 (λ k. (c.type_inv.file k).fits) c.args.scoring c.args.p (tail-info s x r c.requires.3.stands c.in-VInt.is).0 c.if-p.false c.max_score.ensures
