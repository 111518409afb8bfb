-- `open_lists` meets its contract: after q turns the first q numbers of the query stand in their slots.
use mathlib.Core.Path.{◌≡◌, subst}
use Prim.Native.Nat.{ℕ, ◌<◌}
use native.Mathlib.Omega.{arith}
use lib.ListN.{length}
use lib.Ieee.{of_bits}
use Rattle.query.specs.Inner.Openings.{tables, QueryOpened, Tables}
use Rattle.query.proofs.Opening.{behind-as, behind-one, none-opened, none-touched, one_more}
use Rattle.query.proofs.open_lists.Goals as goal
use Rattle.query.proofs.open_lists.Goals.{After-open_list-scorer, At-loop-q}

-- the tables at a turn, and those that it left
abbrev now : At-loop-q → Tables
now l = tables l.loop-q.lists l.loop-q.norms l.loop-q.places l.loop-q.blocks

abbrev left : After-open_list-scorer → Tables
left c = tables c.open_list-scorer.new.lists c.open_list-scorer.new.norms c.open_list-scorer.new.places c.open_list-scorer.new.blocks

pub loop-q-init : goal.loop-q-init
unfolding of_bits
loop-q-init c = (none-opened c.args.scoring c.args.file.now c.args.query.now _ c.requires.4, omega arith, none-touched _)

pub overflow_cast-l : goal.overflow_cast-l
overflow_cast-l c = omega (arith, c.type_inv.query c.loop-q.q)

pub open_list-scorer-requires : goal.open_list-scorer-requires
open_list-scorer-requires c =
    (c.requires.0, c.requires.1, c.requires.3 c.loop-q.q c.loop-q-test.true, omega (arith, c.loop-q-test.true, c.requires.2), c.loop-q.invariant.0.room)

small : (c : After-open_list-scorer) → c.loop-q.q < 16
small c =
    omega (arith, c.loop-q-test.true, c.requires.2)

pub offset_bounds-scorers-q : goal.offset_bounds-scorers-q
offset_bounds-scorers-q c = omega (arith, small c)

pub bounds-scorers-q : goal.bounds-scorers-q
bounds-scorers-q c = omega (arith, small c)

pub loop-q-preserved : goal.loop-q-preserved
loop-q-preserved c =
    (one_more c.args.scoring c.args.file.now c.args.query.now c.loop-q.q (now (goal.at.loop-q-preserved c).At-loop-q) (left c) c.loop-q.scorers (small c) c.loop-q.invariant.0 c.open_list-scorer.ensures, omega (arith, c.loop-q-test.true), behind-one _ _ (now (goal.at.loop-q-preserved c).At-loop-q) (left c) c.loop-q.invariant.2 c.open_list-scorer.ensures.only)

pub returns : goal.returns
returns c =
    let e : c.loop-q.q ≡ length c.args.query.now = omega (arith, c.loop-q.invariant.1, c.loop-q-test.false) in
    (subst (λ (n : ℕ). QueryOpened c.args.scoring c.args.file.now c.args.query.now n (now (goal.at.returns c).At-loop-q) c.loop-q.scorers) e c.loop-q.invariant.0, behind-as e c.loop-q.invariant.2)
