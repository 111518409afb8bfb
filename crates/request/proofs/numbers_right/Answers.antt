-- `numbers_right` meets its contract: the numbers that are left decide, one by one.
use mathlib.Core.Path.{refl}
use native.Mathlib.Omega.{arith}
use Rattle.request.proofs.Requests.{number-high, number-right, all-numbers}
use Rattle.request.proofs.numbers_right.Goals as goal

pub loop-i-init : goal.loop-i-init
loop-i-init c = (omega arith, refl)

pub overflow_cast-query : goal.overflow_cast-query
overflow_cast-query c = omega (arith, c.type_inv.query c.loop-i.i)

pub returns-then-lists-query : goal.returns-then-lists-query
returns-then-lists-query c =
    number-high _ _ _ c.loop-i.i c.loop-i.invariant.1 c.loop-i-test.true c.if-lists-query.true

pub loop-i-preserved : goal.loop-i-preserved
loop-i-preserved c =
    (omega (arith, c.loop-i-test.true), number-right _ _ _ c.loop-i.i c.loop-i.invariant.1 c.loop-i-test.true c.if-lists-query.false)

pub returns : goal.returns
returns c = all-numbers _ _ _ c.loop-i.i c.loop-i.invariant.1 c.loop-i-test.false
