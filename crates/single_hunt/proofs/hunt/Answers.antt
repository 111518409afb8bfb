-- `single_hunt::hunt` meets its contract: its test is the route's.
use mathlib.Core.List.{List}
use Prim.Native.Nat.{ℕ}
use lib.Ieee.{Float}
use Rattle.term_scorer.specs.Inner.Slots.{held}
use Rattle.single_hunt.proofs.Scorers.{ready-bounded}
use Rattle.term_scorer.proofs.Slots.{standing-in}
use Rattle.single_hunt.proofs.Hunting.{doc-low, hunt-enters, hunt-skips}
use Rattle.single_hunt.proofs.hunt.Goals as goal
use Rattle.single_hunt.proofs.hunt.Goals.{After-new_block_max-bound}

-- the places and the bounds that the block's bound left
abbrev places' : After-new_block_max-bound → List (List ℕ)
places' b = b.new_block_max-bound.new.places

abbrev bounds : After-new_block_max-bound → List Float
bounds b = b.new_block_max-bound.new.bounds

pub enter-requires : goal.enter-requires
enter-requires c =
    (ready-bounded c.requires.0.ready {places' = places' (goal.at.enter-requires c).After-new_block_max-bound} {bounds = bounds (goal.at.enter-requires c).After-new_block_max-bound} c.new_block_max-bound.ensures, doc-low c.args.leg.threshold c.requires.0 c.requires.1)

pub returns-then-bound-leg : goal.returns-then-bound-leg
returns-then-bound-leg c =
    hunt-enters c.args.leg.threshold c.requires.0 c.requires.1 {places' = places' (goal.at.returns-then-bound-leg c).After-new_block_max-bound} {bounds = bounds (goal.at.returns-then-bound-leg c).After-new_block_max-bound} c.new_block_max-bound.ensures c.if-bound-leg.true {h' = held c.enter.new.places c.enter.new.blocks} {floats' = c.enter.new.floats} c.enter.ensures

pub skip-requires : goal.skip-requires
skip-requires c =
    let R = ready-bounded c.requires.0.ready {places' = places' (goal.at.skip-requires c).After-new_block_max-bound} {bounds = bounds (goal.at.skip-requires c).After-new_block_max-bound} c.new_block_max-bound.ensures in
    (R.kept.slot-in, standing-in R.kept.slot)

pub returns : goal.returns
returns c =
    hunt-skips c.args.leg.threshold c.requires.0 c.requires.1 {places' = places' (goal.at.returns c).After-new_block_max-bound} {bounds = bounds (goal.at.returns c).After-new_block_max-bound} c.new_block_max-bound.ensures c.if-bound-leg.false c.skip.ensures
