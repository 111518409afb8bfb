-- `begin_union` meets its contract: one scorer that is left, or a union of those that are.
use mathlib.Core.Path.{sym, subst}
use native.Mathlib.Omega.{arith}
use borrow.Author.Rules.{rules}
use Rattle.machine.specs.declared.Machine.{Machine}
use Rattle.beginning.specs.Inner.Begins.{one_left, some_left, UnionBegun}
use Rattle.beginning.proofs.begin_union.Goals as goal

pub bounds-left-0 : goal.bounds-left-0
bounds-left-0 c = omega (arith, c.retain-live.ensures.0.long)

pub returns-then-live-eq1 : goal.returns-then-live-eq1
returns-then-live-eq1 c =
    subst (λ (m : Machine). UnionBegun c.args.scorers c.args.n m c.args.order.now c.args.order.now) (sym c.begin_single.ensures)
    (one_left c.retain-live.result c.retain-live.ensures.0 c.if-live-eq1.true)

pub begin-union-requires : goal.begin-union-requires
begin-union-requires c =
    omega (arith, c.retain-live.ensures.0.few, c.requires)

pub returns : goal.returns
returns c =
    some_left c.retain-live.result c.retain-live.ensures.0 c.if-live-eq1.false c.begin-union.ensures
