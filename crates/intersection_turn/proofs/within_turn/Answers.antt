-- `within_turn` meets its contract: the next candidate is tried as the route tries it, or the window ends.
use native.Mathlib.Omega.{arith}
use Rattle.term_scorer.specs.Inner.Slots.{cursor_at, held}
use Rattle.intersection_order.specs.Inner.Scorers.{Query, list_in, query, slot_at}
use Rattle.intersection_candidate.specs.Inner.Candidates.{Finds}
use Rattle.intersection_order.proofs.Seats.{slot_small}
use Rattle.intersection_turn.proofs.Turning.{found, leader-rows, opened, tried, window-ends}
use Rattle.intersection_turn.proofs.within_turn.Goals as goal
use Rattle.intersection_turn.proofs.within_turn.Goals.{After-next_candidate-found}

abbrev asked : After-next_candidate-found → Query
asked n = let a = n.args in query a.leg.similarity a.file.now a.lists.now a.norms.now a.v.len a.order.now

pub offset_bounds-blocks-leader : goal.offset_bounds-blocks-leader
offset_bounds-blocks-leader c = let O = c.requires.0.order in omega (arith, slot_small O O.leader)

pub bounds-blocks-leader : goal.bounds-blocks-leader
bounds-blocks-leader c = let O = c.requires.0.order in omega (arith, slot_small O O.leader)

pub overflow_add-leader : goal.overflow_add-leader
overflow_add-leader c = record { fits = let O = c.requires.0.order in omega (arith, slot_small O O.leader) }

pub offset_bounds-floats-leader : goal.offset_bounds-floats-leader
offset_bounds-floats-leader c = let O = c.requires.0.order in omega (arith, slot_small O O.leader)

pub bounds-floats-leader : goal.bounds-floats-leader
bounds-floats-leader c = let O = c.requires.0.order in omega (arith, slot_small O O.leader)

pub next_candidate-found-requires : goal.next_candidate-found-requires
next_candidate-found-requires c = (opened _ c.args.leg.threshold c.requires.0 _ c.requires.1).inside

-- what was found of the leader's block
finds : (n : After-next_candidate-found) → let x = asked n in Finds (list_in x (slot_at x 0)) (cursor_at n.args.places.now (slot_at x 0)).dec n.args.left n.next_candidate-found.result
finds n = n.next_candidate-found.ensures _ _ (leader-rows _ n.args.leg.threshold n.requires.0 _ n.requires.1)

pub overflow_add-left : goal.overflow_add-left
overflow_add-left c =
    record { fits = omega (arith, (opened _ c.args.leg.threshold c.requires.0 _ c.requires.1).small) }

pub try_candidate-tried-requires : goal.try_candidate-tried-requires
try_candidate-tried-requires c =
    let S = c.requires.0 in
    (S.order, S.ready.seated, (found _ c.args.leg.threshold S _ c.requires.1 (finds (goal.at.try_candidate-tried-requires c).After-next_candidate-found) c.in-Some.is).2)

pub returns-in_default : goal.returns-in_default
returns-in_default c =
    window-ends _ c.args.leg.threshold c.requires.0 _ c.requires.1 (finds (goal.at.returns-in_default c).After-next_candidate-found) c.in_default.is c.quiet.ensures

pub returns : goal.returns
returns c =
    tried _ c.args.leg.threshold c.requires.0 _ c.requires.1 (finds (goal.at.returns c).After-next_candidate-found) c.in-Some.is {h' = held c.try_candidate-tried.new.places c.try_candidate-tried.new.blocks} _ c.try_candidate-tried.ensures c.after_candidate.ensures
