-- `walk::go` meets its contract: each turn is the route's next, and the loop stops where a report is due, at the end, or after so many turns.
use mathlib.Core.Bool.{false}
use mathlib.Core.List.{List}
use mathlib.Core.Path.{sym, ◌∙◌, ◌≡◌}
use Prim.Native.Nat.{ℕ, ◌<◌}
use native.Mathlib.Omega.{arith}
use lib.Ieee.{Float}
use Rattle.route.specs.Union.{is_over}
use Rattle.route.proofs.Cases.{lt_of_ne}
use Rattle.term_scorer.specs.Inner.Slots.{held, Held}
use Rattle.union_turn.specs.Inner.Turns.{stage_of}
use Rattle.block_wand_union.proofs.Runs.{begun, over, paused, quiet-turn, reports, stands_on}
use Rattle.block_wand_union.proofs.walk.go.Goals as goal
use Rattle.block_wand_union.proofs.walk.go.Goals.{After-turn-step, Else-taken-leg, In-loop-leg}

-- the slots that a turn left, with their order and the floats
abbrev order' : After-turn-step → List ℕ
order' k = k.turn-step.new.order

abbrev left : After-turn-step → Held
left k = held k.turn-step.new.places k.turn-step.new.blocks

abbrev floats' : After-turn-step → List (List Float)
floats' k = k.turn-step.new.floats

-- the route has not ended
on : (t : In-loop-leg) → is_over (stage_of t.loop-leg.now.stage) ≡ false
on t = sym t.is_over.ensures ∙ t.loop-leg-test.true

room : (e : Else-taken-leg) → e.loop-leg.taken < e.args.leg.turns
room e = lt_of_ne e.loop-leg.invariant.within e.if-taken-leg.false

pub loop-leg-init : goal.loop-leg-init
loop-leg-init c =
    begun c.args.leg.threshold c.args.union c.args.order.now c.args.leg.turns c.requires.1

pub returns-then-taken-leg : goal.returns-then-taken-leg
returns-then-taken-leg c =
    rw c.new.ensures (c.loop-leg.invariant.stands, paused c.loop-leg.invariant (on (goal.at.returns-then-taken-leg c).In-loop-leg) c.if-taken-leg.true)

pub turn-step-requires : goal.turn-step-requires
turn-step-requires c =
    let S = c.loop-leg.invariant in
    (c.requires.0, S.stands)

pub overflow_add-taken : goal.overflow_add-taken
overflow_add-taken c =
    omega (arith, room (goal.at.overflow_add-taken c).Else-taken-leg, c.struct_known-1.given)

pub returns-in-Some : goal.returns-in-Some
returns-in-Some c =
    let S = c.loop-leg.invariant in
    rw c.new-in-Some.ensures (stands_on S (on (goal.at.returns-in-Some c).In-loop-leg) (room (goal.at.returns-in-Some c).Else-taken-leg) {h' = left (goal.at.returns-in-Some c).After-turn-step} {order' = order' (goal.at.returns-in-Some c).After-turn-step} {floats' = floats' (goal.at.returns-in-Some c).After-turn-step} c.turn-step.ensures, reports S (on (goal.at.returns-in-Some c).In-loop-leg) (room (goal.at.returns-in-Some c).Else-taken-leg) {h' = left (goal.at.returns-in-Some c).After-turn-step} {order' = order' (goal.at.returns-in-Some c).After-turn-step} {floats' = floats' (goal.at.returns-in-Some c).After-turn-step} c.turn-step.ensures c.in-Some.is)

pub loop-leg-smaller : goal.loop-leg-smaller
loop-leg-smaller c = omega (arith, room (goal.at.loop-leg-smaller c).Else-taken-leg)

pub loop-leg-preserved : goal.loop-leg-preserved
loop-leg-preserved c =
    quiet-turn c.loop-leg.invariant (on (goal.at.loop-leg-preserved c).In-loop-leg) (room (goal.at.loop-leg-preserved c).Else-taken-leg) {h' = left (goal.at.loop-leg-preserved c).After-turn-step} {order' = order' (goal.at.loop-leg-preserved c).After-turn-step} {floats' = floats' (goal.at.loop-leg-preserved c).After-turn-step} c.turn-step.ensures c.in_default.is

pub returns : goal.returns
returns c =
    let S = c.loop-leg.invariant in
    rw c.new-2.ensures (S.stands, over S (sym c.is_over.ensures ∙ c.loop-leg-test.false))
