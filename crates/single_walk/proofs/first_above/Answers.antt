-- `single_walk::first_above` meets its contract: no score that the loop has passed is above the threshold.
use native.Mathlib.Omega.{arith}
use Rattle.single_walk.proofs.Seeking.{seeking-begun, seeking-on, first_found, none_found}
use Rattle.single_walk.proofs.first_above.Goals as goal

pub loop-i-init : goal.loop-i-init
loop-i-init c = seeking-begun _ _ _ _ c.requires.0

pub returns-then-values-i : goal.returns-then-values-i
returns-then-values-i c = first_found _ _ _ _ c.loop-i.invariant c.if-values-i.true

pub loop-i-preserved : goal.loop-i-preserved
loop-i-preserved c = seeking-on _ _ _ _ c.loop-i.invariant (omega arith) c.if-values-i.false

pub returns : goal.returns
returns c = none_found _ _ _ _ c.loop-i.invariant (omega arith)
