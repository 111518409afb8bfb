-- `bounds_ahead` meets its contract: each turn writes one block's bound.
use borrow.Author.Rules.{rules}
use Prim.Native.Nat.{◌+◌}
use Rattle.decoded.specs.Lists.{list_of}
use Rattle.posting_bounds.proofs.Ahead.{goes_on, ended, bound_of}
use Rattle.posting_bounds.proofs.bounds_ahead.Goals as goal

pub loop-k-preserved : goal.loop-k-preserved
loop-k-preserved c =
    goes_on _ _ _ _ _ c.loop-k.invariant c.loop-k-test.true (search rules)
    (bound_of c.args.file.now c.args.x c.args.w c.requires.1 (λ n. (c.type_inv.file n).fits) c.args.scoring (c.args.b + c.loop-k.k)
    c.read_skip_entry-e.ensures c.bound_at-bound.ensures)

pub returns : goal.returns
unfolding list_of
returns c = ended _ _ _ _ _ c.loop-k.invariant c.full_ahead-n.ensures c.loop-k-test.false
