-- `low::least_last_doc` meets its contract: the least of what was found and of the last documents from place i on stays the same.
use mathlib.Core.Path.{refl}
use Prim.Native.Nat.{◌≤◌}
use native.Mathlib.Omega.{arith}
use lib.ListN.{get_or, length}
use Rattle.ordering.proofs.Places.{all_first}
use Rattle.union_moves.specs.Inner.Moves.{LastRead}
use Rattle.union_moves.proofs.Lowest.{lowers, lowest}
use Rattle.union_moves.proofs.low.least_last_doc.Goals as goal
use Rattle.union_moves.proofs.low.least_last_doc.Goals.{In-loop-i}

long : (c : In-loop-i) → c.args.pivot_len ≤ length c.args.order.now
long c = omega (arith, c.told-order)

read : (c : In-loop-i) → LastRead c.args.places.now (get_or c.args.order.now c.loop-i.i 0)
read c = all_first (LastRead c.args.places.now) c.args.order.now c.args.pivot_len c.loop-i.i 0 (omega arith) (long c) c.requires.1

pub loop-i-init : goal.loop-i-init
loop-i-init c = record { inside = omega arith; whole = refl }

pub last_doc_in_block-requires : goal.last_doc_in_block-requires
last_doc_in_block-requires c = read (goal.at.last_doc_in_block-requires c).In-loop-i

pub loop-i-preserved : goal.loop-i-preserved
loop-i-preserved c =
    lowers _ _ _ _ (long (goal.at.loop-i-preserved c).In-loop-i) c.loop-i.invariant (omega arith) (omega (arith, c.last_doc_in_block.ensures))

pub returns : goal.returns
returns c =
    lowest _ _ _ _ (omega (arith, c.told-order)) c.loop-i.invariant (omega arith)
