-- `script_right` meets its contract: what is left of the script decides, entry by entry.
use mathlib.Core.Path.{◌≡◌, refl, sym, ◌∙◌}
use Prim.Native.Nat.{◌-◌, ◌≤◌}
use native.Mathlib.Omega.{arith}
use lib.ListN.{length, drop}
use borrow.Author.Rules.{rules}
use Rattle.rulecheck.specs.Right.{script_right}
use Rattle.rulecheck.proofs.Scripts.{entry-wrong, entry-falls, entry-right, all_right}
use Rattle.rulecheck.proofs.script_right.Goals as goal

pub loop-i-init : goal.loop-i-init
loop-i-init c = (search rules, refl)

pub returns-then-x-last : goal.returns-then-x-last
returns-then-x-last c =
    entry-falls _ _ c.loop-i.last _ c.loop-i.i c.loop-i.invariant.1 (omega arith) (sym c.threshold_right.ensures ∙ c.if-threshold_right.true) c.if-x-last.true

pub returns-else-threshold_right : goal.returns-else-threshold_right
returns-else-threshold_right c =
    entry-wrong _ _ c.loop-i.last _ c.loop-i.i c.loop-i.invariant.1 (omega arith) (sym c.threshold_right.ensures ∙ c.if-threshold_right.false)

pub loop-i-preserved : goal.loop-i-preserved
loop-i-preserved c =
    (omega arith, entry-right _ _ c.loop-i.last _ c.loop-i.i c.loop-i.invariant.1 (omega arith) (sym c.threshold_right.ensures ∙ c.if-threshold_right.true) c.if-x-last.false)

pub returns : goal.returns
returns c = all_right _ _ c.loop-i.last _ c.loop-i.i c.loop-i.invariant.1 (omega arith)
