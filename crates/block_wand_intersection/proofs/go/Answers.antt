-- `go` meets its contract: each turn is one of the route, until one has a report, the route is over or all are taken.
use mathlib.Core.List.{List}
use native.Mathlib.Omega.{arith}
use lib.Ieee.{Float}
use Rattle.term_scorer.specs.Inner.Slots.{held, Held}
use Rattle.block_wand_intersection.proofs.Going.{ends, goes_on, going, more, pauses, reports, stands_here}
use Rattle.block_wand_intersection.proofs.go.Goals as goal
use Rattle.block_wand_intersection.proofs.go.Goals.{After-turn-turned}

-- the slots and the floats that a turn left
abbrev left : After-turn-turned → Held
left u = held u.turn-turned.new.places u.turn-turned.new.blocks

abbrev floats' : After-turn-turned → List (List Float)
floats' u = u.turn-turned.new.floats

pub loop-leg-init : goal.loop-leg-init
loop-leg-init c = going _ _ _ _ _ _ c.requires

pub returns-then-is_over : goal.returns-then-is_over
returns-then-is_over c =
    ends _ _ _ _ _ _ c.loop-leg.invariant c.is_over.ensures c.if-is_over.true c.new.ensures

pub returns-then-taken-leg : goal.returns-then-taken-leg
returns-then-taken-leg c =
    pauses _ _ _ _ _ _ c.loop-leg.invariant c.is_over.ensures c.if-is_over.false c.if-taken-leg.true c.new-then-taken-leg.ensures

pub turn-turned-requires : goal.turn-turned-requires
turn-turned-requires c =
    stands_here _ _ _ _ _ _ c.loop-leg.invariant

pub overflow_add-taken : goal.overflow_add-taken
overflow_add-taken c =
    record { fits = omega (arith, more _ _ _ _ _ _ c.loop-leg.invariant c.is_over.ensures c.if-is_over.false c.if-taken-leg.false) }

pub returns-in-Some : goal.returns-in-Some
returns-in-Some c =
    reports _ _ _ _ _ _ c.loop-leg.invariant c.is_over.ensures c.if-is_over.false c.if-taken-leg.false {h' = left (goal.at.returns-in-Some c).After-turn-turned} {floats' = floats' (goal.at.returns-in-Some c).After-turn-turned} c.turn-turned.ensures c.in-Some.is c.new-in-Some.ensures

pub loop-leg-smaller : goal.loop-leg-smaller
loop-leg-smaller c =
    omega (arith, more _ _ _ _ _ _ c.loop-leg.invariant c.is_over.ensures c.if-is_over.false c.if-taken-leg.false)

pub loop-leg-preserved : goal.loop-leg-preserved
loop-leg-preserved c =
    goes_on _ _ _ _ _ _ c.loop-leg.invariant c.is_over.ensures c.if-is_over.false c.if-taken-leg.false {h' = left (goal.at.loop-leg-preserved c).After-turn-turned} {floats' = floats' (goal.at.loop-leg-preserved c).After-turn-turned} c.turn-turned.ensures c.in_default.is
