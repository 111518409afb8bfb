-- `heads_of` meets its contract: after q turns the first q documents are in.
use mathlib.Core.Path.{◌≡◌, subst}
use Prim.Native.Nat.{ℕ}
use native.Mathlib.Omega.{arith}
use lib.ListN.{get_or-replicate}
use borrow.Author.Rules.{rules}
use Rattle.scan_heads.specs.Inner.Heads.{HeadsOf}
use Rattle.scan_heads.proofs.Heading.{no-heads, one-more-head}
use Rattle.scan_heads.proofs.heads_of.Goals as goal

pub loop-q-init : goal.loop-q-init
loop-q-init c = (no-heads _ _ _ (search rules) (record { blank = λ q h k. get_or-replicate 16 q 2147483647 2147483647 k }), omega arith)

pub doc-requires : goal.doc-requires
doc-requires c =
    (omega (arith, c.loop-q-test.true, c.requires.0), c.requires.1 c.loop-q.q c.loop-q-test.true)

pub loop-q-preserved : goal.loop-q-preserved
loop-q-preserved c =
    (one-more-head c.args.places.now c.args.blocks.now c.loop-q.heads c.loop-q.q (omega (arith, c.loop-q-test.true, c.requires.0)) c.loop-q.invariant.0 c.doc.ensures, omega (arith, c.loop-q-test.true))

pub returns : goal.returns
returns c =
    let e : c.loop-q.q ≡ c.args.n = omega (arith, c.loop-q.invariant.1, c.loop-q-test.false) in
    subst (λ (k : ℕ). HeadsOf c.args.places.now c.args.blocks.now k c.loop-q.heads) e c.loop-q.invariant.0
