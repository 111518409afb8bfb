-- `structs::in_order` meets its contract: each turn reads the next slot's scorer off the tables.
use mathlib.Core.Path.{refl, ◌∙◌, ◌≡◌}
use native.Mathlib.Omega.{arith}
use lib.ListN.{get_or, length-set}
use borrow.Author.Rules.{rules}
use Rattle.term_scorer.specs.Inner.Weights.{TopRead}
use Rattle.ordering.proofs.Places.{all_first}
use Rattle.ordering.specs.Inner.Rows.{Readable}
use Rattle.slot_pivot.specs.Inner.Terms.{term_in}
use Rattle.ordering.proofs.Rows.{fills, read_at, reading}
use Rattle.slot_pivot.proofs.Terms.{scorer-is}
use Rattle.slot_pivot.proofs.structs.in_order.Goals as goal
use Rattle.slot_pivot.proofs.structs.in_order.Goals.{In-loop-i}

read : (c : In-loop-i) → Readable c.args.places.now (get_or c.args.order.now c.loop-i.i 0)
read c = read_at c.requires.0 (reading c.requires.2 c.told-order) c.loop-i.i (omega arith)

pub loop-i-init : goal.loop-i-init
loop-i-init c = (omega arith, search rules, refl)

pub doc-doc-requires : goal.doc-doc-requires
doc-doc-requires c = let R = read (goal.at.doc-doc-requires c).In-loop-i in (R.slot-in, R.inside)

pub max_score-requires : goal.max_score-requires
max_score-requires c =
    all_first (TopRead c.args.lists.now) c.args.order.now c.args.n c.loop-i.i 0 (omega arith) (omega (arith, c.told-order)) c.requires.1

pub loop-i-preserved : goal.loop-i-preserved
loop-i-preserved c =
    let q = get_or c.args.order.now c.loop-i.i 0 in (
      omega arith,
      length-set c.loop-i.out c.loop-i.i _ ∙ c.loop-i.invariant.1,
      fills (term_in c.args.lists.now c.args.places.now c.args.blocks.now) c.args.order.now c.loop-i.out c.loop-i.i 0 (omega (arith, c.told-order)) (omega (arith, c.loop-i.invariant.1)) c.loop-i.invariant.2
          (scorer-is c.args.lists.now c.args.places.now c.args.blocks.now q c.doc-doc.ensures c.max_score.ensures),
    )

pub returns : goal.returns
returns c =
    let e : c.loop-i.i ≡ c.args.n = omega arith in
    (refl, rw e at c.loop-i.invariant.2)
