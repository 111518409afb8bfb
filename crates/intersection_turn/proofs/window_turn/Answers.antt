-- `window_turn` meets its contract: a window is the route's, and an open one has its candidates and sums.
use mathlib.Core.List.{List}
use mathlib.Core.Path.{ap, ◌∙◌}
use Prim.Native.Nat.{ℕ, ◌<◌}
use native.Mathlib.Omega.{arith}
use lib.Ieee.{Float}
use lib.ListN.{get_or}
use Rattle.term_scorer.specs.Inner.Slots.{held, Held}
use Rattle.intersection_order.proofs.Seats.{slot_small}
use Rattle.intersection_candidate.proofs.Finding.{block-sorted}
use Rattle.intersection_stage.specs.Inner.Steps.{quietly}
use Rattle.intersection_turn.proofs.Turning.{low_end, rows-there, scored-there, window-low, window-open, window-over}
use Rattle.intersection_turn.proofs.window_turn.Goals as goal
use Rattle.intersection_turn.proofs.window_turn.Goals.{After-keep_scores, After-next_window-window}

-- the slots and the bounds that the window left, and what the leader's scores did
abbrev moved : After-next_window-window → Held
moved n = held n.next_window-window.new.places n.next_window-window.new.blocks

abbrev bounds : After-next_window-window → List Float
bounds n = n.next_window-window.new.bounds

abbrev places₂ : After-keep_scores → List (List ℕ)
places₂ k = k.keep_scores.new.places

abbrev floats₂ : After-keep_scores → List (List Float)
floats₂ k = k.keep_scores.new.floats

leader-small : (n : After-next_window-window) → get_or n.args.order.now 0 0 < 16
leader-small n = let O = n.requires.0.order in slot_small O O.leader

pub overflow_add-window_end : goal.overflow_add-window_end
overflow_add-window_end c =
    record { fits = omega (arith, low_end _ c.args.leg.threshold c.requires.0 c.requires.1 {h' = moved (goal.at.overflow_add-window_end c).After-next_window-window} {bounds = bounds (goal.at.overflow_add-window_end c).After-next_window-window} c.next_window-window.ensures c.in-Low.is) }

pub keep_scores-requires : goal.keep_scores-requires
keep_scores-requires c =
    let t = c.args.leg.threshold in
    let O = c.requires.0.order in
    let h = O.below 0 O.leader in
    let T = c.next_window-window.ensures in
    (leader-small (goal.at.keep_scores-requires c).After-next_window-window, O.norms-are, T.ready.seated.slot _ h, O.weighed _ h, rows-there _ t c.requires.0 c.requires.1 {h' = moved (goal.at.keep_scores-requires c).After-next_window-window} {bounds = bounds (goal.at.keep_scores-requires c).After-next_window-window} T, scored-there _ t c.requires.0 c.requires.1 {h' = moved (goal.at.keep_scores-requires c).After-next_window-window} {bounds = bounds (goal.at.keep_scores-requires c).After-next_window-window} T)

pub sum_rests-requires : goal.sum_rests-requires
sum_rests-requires c =
    let O = c.requires.0.order in
    (O.leader, O.few, (λ i h. slot_small O h), c.keep_scores.ensures.rows)

pub offset_bounds-blocks-q : goal.offset_bounds-blocks-q
offset_bounds-blocks-q c = omega (arith, leader-small (goal.at.offset_bounds-blocks-q c).After-next_window-window)

pub bounds-blocks-q : goal.bounds-blocks-q
bounds-blocks-q c = omega (arith, leader-small (goal.at.bounds-blocks-q c).After-next_window-window)

pub count_below-next-requires : goal.count_below-next-requires
count_below-next-requires c =
    let O = c.requires.0.order in
    block-sorted c.args.leg.similarity.scoring {file = c.args.file.now} {lists = c.args.lists.now} {h = moved (goal.at.count_below-next-requires c).After-next_window-window} (c.next_window-window.ensures.ready.seated.slot _ (O.below 0 O.leader))

pub returns-in-Over : goal.returns-in-Over
returns-in-Over c =
    window-over _ c.args.leg.threshold c.requires.0 c.requires.1 {h' = moved (goal.at.returns-in-Over c).After-next_window-window} {bounds = bounds (goal.at.returns-in-Over c).After-next_window-window} c.next_window-window.ensures c.in-Over.is c.quiet.ensures

pub returns-in-Low : goal.returns-in-Low
returns-in-Low c =
    window-low _ c.args.leg.threshold c.requires.0 c.requires.1 {h' = moved (goal.at.returns-in-Low c).After-next_window-window} {bounds = bounds (goal.at.returns-in-Low c).After-next_window-window} c.next_window-window.ensures c.in-Low.is c.quiet-in-Low.ensures

pub returns-in-Open : goal.returns-in-Open
returns-in-Open c =
    window-open _ c.args.leg.threshold c.requires.0 c.requires.1 {h' = moved (goal.at.returns-in-Open c).After-next_window-window} {bounds = bounds (goal.at.returns-in-Open c).After-next_window-window} c.next_window-window.ensures c.in-Open.is {places₂ = places₂ (goal.at.returns-in-Open c).After-keep_scores} {floats₂ = floats₂ (goal.at.returns-in-Open c).After-keep_scores} c.keep_scores.ensures c.sum_rests.ensures c.count_below-next.ensures
    (c.quiet-in-Open.ensures ∙ ap (quietly c.args.v c.args.v.doc) c.within-stage.ensures)
