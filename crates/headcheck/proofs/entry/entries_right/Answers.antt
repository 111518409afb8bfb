-- `entry::entries_right` meets its contract: the flag is the test over the entries passed.
use mathlib.Core.Path.{◌≡◌, refl, sym, ap, ◌∙◌}
use Prim.Native.Nat.{◌-◌, ◌≤◌}
use native.Mathlib.Omega.{arith}
use borrow.Author.Rules.{rules}
use Rattle.arrays.specs.Every.{every}
use Rattle.arrays.proofs.Every.{stays, lowered}
use Rattle.notefile.specs.Conditions.{entry_right}
use Rattle.headcheck.proofs.entry.entries_right.Goals as goal

pub loop-l-init : goal.loop-l-init
loop-l-init c = (omega arith, refl)

pub loop-l-preserved : goal.loop-l-preserved
loop-l-preserved c =
    let s = c.args.file.now in
    let e = sym c.entry_right.ensures in (
      omega arith,
      elim c.if-not-entry_right.branch [ goal.then-not-entry_right w ↦ lowered (entry_right s) c.loop-l.l (e ∙ w.if-not-entry_right.true) w.right-is | goal.else-not-entry_right w ↦ stays (entry_right s) c.loop-l.l c.loop-l.invariant.1 (e ∙ w.if-not-entry_right.false) w.right-is ],
    )

pub returns : goal.returns
returns c =
    let e : c.loop-l.l ≡ c.args.h.lists = omega arith in
    c.loop-l.invariant.1 ∙ ap (λ n. every n (entry_right c.args.file.now)) e
