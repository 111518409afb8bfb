-- `lists_right` meets its contract: the flag is the test over the lists passed.
use mathlib.Core.Path.{◌≡◌, refl, sym, ap, ◌∙◌}
use native.Mathlib.Omega.{arith}
use lib.ListN.{length}
use Rattle.arrays.specs.Every.{every}
use Rattle.arrays.proofs.Every.{stays, lowered}
use Rattle.contentcheck.proofs.lists_right.Invariants.{right_at}
use Rattle.contentcheck.proofs.lists_right.Goals as goal

pub loop-l-init : goal.loop-l-init
loop-l-init c = (omega arith, refl)

pub loop-l-preserved : goal.loop-l-preserved
loop-l-preserved c =
    let a = c.args in
    let P = right_at a.documents a.weights.now a.counts.now in
    let e = sym c.list_right.ensures in (
      omega arith,
      elim c.if-not-list_right.branch [ goal.then-not-list_right w ↦ lowered P c.loop-l.l (e ∙ w.if-not-list_right.true) w.right-is | goal.else-not-list_right w ↦ stays P c.loop-l.l c.loop-l.invariant.1 (e ∙ w.if-not-list_right.false) w.right-is ],
    )

pub returns : goal.returns
returns c =
    let a = c.args in
    let e : c.loop-l.l ≡ length a.counts.now = omega arith in
    c.loop-l.invariant.1 ∙ ap (λ n. every n (right_at a.documents a.weights.now a.counts.now)) e
