-- `union_turn::to_pivot` meets its contract: the sum of the block bounds is the route's, and so is each of the two ways on.
use lib.ListN.{take}
use mathlib.Core.List.{List}
use native.Mathlib.Omega.{arith}
use lib.Ieee.{Float}
use Rattle.term_scorer.specs.Inner.Slots.{held, Held}
use Rattle.union_moves.proofs.Slots.{tops-read}
use Rattle.union_turn.proofs.Steps.{at-pivot, few, first-seated, found, high, lined', low}
use Rattle.union_turn.proofs.to_pivot.Goals as goal
use Rattle.union_turn.proofs.to_pivot.Goals.{After-seek_blocks-upper_bound}

-- the slots and the floats that the seeks left
abbrev sought : After-seek_blocks-upper_bound → Held
sought b = held b.seek_blocks-upper_bound.new.places b.args.blocks.now

abbrev floats' : After-seek_blocks-upper_bound → List (List Float)
floats' b = b.seek_blocks-upper_bound.new.floats

pub seek_blocks-upper_bound-requires : goal.seek_blocks-upper_bound-requires
seek_blocks-upper_bound-requires c =
    let P = c.requires.1 in
    (omega (arith, few P, P.few), c.requires.0, first-seated P)

pub on_pivot-requires : goal.on_pivot-requires
on_pivot-requires c =
    let P = c.requires.1 in
    (P.few, c.requires.0, at-pivot P {h' = sought (goal.at.on_pivot-requires c).After-seek_blocks-upper_bound} {floats' = floats' (goal.at.on_pivot-requires c).After-seek_blocks-upper_bound} (c.seek_blocks-upper_bound.ensures c.args.span.len (few P) P.seated))

pub returns-then-upper_bound-leg : goal.returns-then-upper_bound-leg
returns-then-upper_bound-leg c =
    let P = c.requires.1 in
    high P {h' = sought (goal.at.returns-then-upper_bound-leg c).After-seek_blocks-upper_bound} {floats' = floats' (goal.at.returns-then-upper_bound-leg c).After-seek_blocks-upper_bound} (c.seek_blocks-upper_bound.ensures c.args.span.len (few P) P.seated) c.if-upper_bound-leg.true {h'' = held c.on_pivot.new.places c.on_pivot.new.blocks} {order'' = c.on_pivot.new.order} {floats'' = c.on_pivot.new.floats} c.on_pivot.ensures

pub block_max_was_too_low_advance_one_scorer-requires : goal.block_max_was_too_low_advance_one_scorer-requires
block_max_was_too_low_advance_one_scorer-requires c =
    let P = c.requires.1 in
    (omega (arith, (found P).first), few P, P.few, lined' P {h' = sought (goal.at.block_max_was_too_low_advance_one_scorer-requires c).After-seek_blocks-upper_bound} {floats' = floats' (goal.at.block_max_was_too_low_advance_one_scorer-requires c).After-seek_blocks-upper_bound} (c.seek_blocks-upper_bound.ensures c.args.span.len (few P) P.seated), tops-read (take c.args.span.len c.args.order.now) P.seated)

pub returns : goal.returns
returns c =
    let P = c.requires.1 in
    rw c.quiet.ensures (low P {h' = sought (goal.at.returns c).After-seek_blocks-upper_bound} {floats' = floats' (goal.at.returns c).After-seek_blocks-upper_bound} (c.seek_blocks-upper_bound.ensures c.args.span.len (few P) P.seated) c.if-upper_bound-leg.false {h'' = held c.block_max_was_too_low_advance_one_scorer.new.places c.block_max_was_too_low_advance_one_scorer.new.blocks} {order'' = c.block_max_was_too_low_advance_one_scorer.new.order} c.block_max_was_too_low_advance_one_scorer.ensures)
