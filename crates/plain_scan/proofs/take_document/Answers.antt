-- `take_document` meets its contract: after q turns the first q slots have been asked.
use Prim.Native.Nat.{◌-◌}
use native.Mathlib.Omega.{arith}
use lib.Ieee.{of_bits}
use Rattle.term_scorer.specs.Inner.Slots.{held}
use Rattle.plain_scan.proofs.Slots.{in_list}
use Rattle.plain_scan.proofs.Taking.{taking-begun, taking-passes, taking-takes, this}
use Rattle.plain_scan.proofs.take_document.Goals as goal
use Rattle.plain_scan.proofs.take_document.Goals.{then-heads-q, else-heads-q}

pub loop-q-init : goal.loop-q-init
unfolding of_bits
loop-q-init c = taking-begun _ _ _ _ _ c.requires.3

pub advance-requires : goal.advance-requires
advance-requires c =
    let S = this _ _ _ _ _ c.loop-q.invariant c.loop-q-test.true in
    (omega (arith, c.loop-q-test.true, c.requires.0), S.slot, in_list _ _ _ S)

pub loop-q-preserved : goal.loop-q-preserved
loop-q-preserved c =
    elim c.if-heads-q.branch [
      | then-heads-q w ↦ rw (w.heads-is, w.places-is, w.blocks-is, w.found-is) (taking-takes _ _ _ _ _ c.loop-q.invariant c.loop-q-test.true c.requires.0 c.requires.4 w.if-heads-q.true w.score-value.ensures {h' = held w.advance.new.places w.advance.new.blocks} w.advance.ensures w.with-found.ensures)
      | else-heads-q w ↦ rw (w.heads-is, w.places-is, w.blocks-is, w.found-is) (taking-passes _ _ _ _ _ c.loop-q.invariant c.loop-q-test.true w.if-heads-q.false)
    ]
