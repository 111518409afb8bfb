-- `scan::go` meets its contract: each stretch of turns is the route's, and so is why the last one ended.
use mathlib.Core.List.{List}
use mathlib.Core.Path.{sym, ◌∙◌}
use native.Mathlib.Omega.{arith}
use lib.Ieee.{Float}
use Rattle.route.proofs.Cases.{lt_of_ne}
use Rattle.term_scorer.specs.Inner.Slots.{held, Held}
use Rattle.block_wand_single.proofs.Going.{going-begun, going_less, going_on, gone-over, gone-report, gone-through, taken-fits}
use Rattle.block_wand_single.proofs.scan.go.Goals as goal
use Rattle.block_wand_single.proofs.scan.go.Goals.{After-stride-next}

-- the slots and the floats that a stride left
abbrev strode : After-stride-next → Held
strode s = held s.stride-next.new.places s.stride-next.new.blocks

abbrev floats' : After-stride-next → List (List Float)
floats' s = s.stride-next.new.floats

pub loop-leg-init : goal.loop-leg-init
loop-leg-init c = going-begun _ _ c.requires

pub returns-then-is_over : goal.returns-then-is_over
returns-then-is_over c =
    rw c.new.ensures (gone-over c.loop-leg.invariant (sym c.is_over.ensures ∙ c.if-is_over.true))

pub returns-then-taken-leg : goal.returns-then-taken-leg
returns-then-taken-leg c =
    rw c.new-then-taken-leg.ensures (gone-through c.loop-leg.invariant (sym c.is_over.ensures ∙ c.if-is_over.false) c.if-taken-leg.true)

pub overflow_sub-left : goal.overflow_sub-left
overflow_sub-left c = c.loop-leg.invariant.few

pub stride-next-requires : goal.stride-next-requires
stride-next-requires c =
    let G = c.loop-leg.invariant in
    (G.stands, sym c.is_over.ensures ∙ c.if-is_over.false, let l = lt_of_ne G.few c.if-taken-leg.false in omega arith)

pub overflow_add-taken : goal.overflow_add-taken
overflow_add-taken c =
    omega (arith, c.struct_known-1.given, taken-fits c.loop-leg.invariant {h'' = strode (goal.at.overflow_add-taken c).After-stride-next} {floats' = floats' (goal.at.overflow_add-taken c).After-stride-next} c.stride-next.ensures)

pub returns-in-Report : goal.returns-in-Report
returns-in-Report c =
    rw c.new-in-Report.ensures (gone-report c.loop-leg.invariant {h'' = strode (goal.at.returns-in-Report c).After-stride-next} {floats' = floats' (goal.at.returns-in-Report c).After-stride-next} c.stride-next.ensures c.in-Report.is)

pub loop-leg-smaller : goal.loop-leg-smaller
loop-leg-smaller c =
    going_less c.loop-leg.invariant {h'' = strode (goal.at.loop-leg-smaller c).After-stride-next} {floats' = floats' (goal.at.loop-leg-smaller c).After-stride-next} c.stride-next.ensures c.in_default.not-Report

pub loop-leg-preserved : goal.loop-leg-preserved
loop-leg-preserved c =
    going_on c.loop-leg.invariant {h'' = strode (goal.at.loop-leg-preserved c).After-stride-next} {floats' = floats' (goal.at.loop-leg-preserved c).After-stride-next} c.stride-next.ensures c.in_default.not-Report
