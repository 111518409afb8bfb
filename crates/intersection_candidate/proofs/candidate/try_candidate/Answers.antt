-- `try_candidate` meets its contract: each turn asks one secondary as the route does, and what is left of them decides.
use Prim.Native.Nat.{◌<◌}
use native.Mathlib.Omega.{arith}
use lib.ListN.{get_or}
use Rattle.postings.proofs.Answers.{off-target, on-target}
use Rattle.term_scorer.specs.Inner.Slots.{held, Held}
use Rattle.intersection_order.specs.Inner.Scorers.{query, InOrder}
use Rattle.intersection_order.proofs.Seats.{cur-small, doc-here, slot_small}
use Rattle.intersection_candidate.proofs.Trying.{begun, due, goes_on, missed, not-above, seated-there, too-low, on-candidate}
use Rattle.intersection_candidate.proofs.candidate.try_candidate.Goals as goal
use Rattle.intersection_candidate.proofs.candidate.try_candidate.Goals.{After-seek-found, In-loop-i}

-- the slots that a seek left
abbrev sought : After-seek-found → Held
sought m = held m.seek-found.new.places m.seek-found.new.blocks

order-in : (l : In-loop-i) → InOrder (query l.args.leg.similarity l.args.file.now l.args.lists.now l.args.norms.now l.args.n l.args.order.now)
order-in l = l.requires.0

small : (l : In-loop-i) → get_or l.args.order.now l.loop-i.i 0 < 16
small l = slot_small (order-in l) l.loop-i-test.true

within : (l : In-loop-i) → get_or l.args.order.now l.loop-i.i 0 < l.args.n
within l = (order-in l).below l.loop-i.i l.loop-i-test.true

pub loop-i-init : goal.loop-i-init
loop-i-init c = begun _ _ _ _ _ _ c.requires.0 c.requires.1

pub doc-at-requires : goal.doc-at-requires
doc-at-requires c =
    (small (goal.at.doc-at-requires c).In-loop-i, cur-small c.loop-i.invariant.seated (within (goal.at.doc-at-requires c).In-loop-i))

pub seek-found-requires : goal.seek-found-requires
seek-found-requires c =
    (small (goal.at.seek-found-requires c).In-loop-i, c.loop-i.invariant.seated.slot _ (within (goal.at.seek-found-requires c).In-loop-i), doc-here c.loop-i.invariant.seated (within (goal.at.seek-found-requires c).In-loop-i) c.doc-at.ensures, omega (arith, c.requires.2))

pub returns-in-Err : goal.returns-in-Err
returns-in-Err c =
    let l = (goal.at.returns-in-Err c).In-loop-i in
    missed _ _ _ _ _ _ (order-in l) c.loop-i.invariant c.loop-i-test.true {h' = sought (goal.at.returns-in-Err c).After-seek-found} c.seek-found.ensures.moved (off-target _ _ _ c.seek-found.ensures.answer-is c.requires.2 c.in-Err.is)

pub score-score-requires : goal.score-score-requires
score-score-requires c =
    let l = (goal.at.score-score-requires c).In-loop-i in
    let S = seated-there _ _ _ _ _ _ (order-in l) c.loop-i.invariant c.loop-i-test.true {h' = sought (goal.at.score-score-requires c).After-seek-found} c.seek-found.ensures.moved in
    let on = on-target _ _ _ c.seek-found.ensures.answer-is c.in-Ok.is in
    (small l, c.requires.0.norms-are, S.slot _ (within l), c.requires.0.weighed _ (within l), on-candidate _ _ _ _ _ _ (order-in l) c.loop-i.invariant c.loop-i-test.true {h' = sought (goal.at.score-score-requires c).After-seek-found} c.seek-found.ensures.moved on, c.requires.2)

pub loop-i-preserved : goal.loop-i-preserved
loop-i-preserved c =
    let l = (goal.at.loop-i-preserved c).In-loop-i in
    goes_on _ _ _ _ _ _ (order-in l) c.loop-i.invariant c.loop-i-test.true {h' = sought (goal.at.loop-i-preserved c).After-seek-found} c.seek-found.ensures.moved (on-target _ _ _ c.seek-found.ensures.answer-is c.in-Ok.is) c.score-score.ensures c.if-not-total_score-rests.false

pub returns-then-not-total_score-rests : goal.returns-then-not-total_score-rests
returns-then-not-total_score-rests c =
    let l = (goal.at.returns-then-not-total_score-rests c).In-loop-i in
    too-low _ _ _ _ _ _ (order-in l) c.loop-i.invariant c.loop-i-test.true {h' = sought (goal.at.returns-then-not-total_score-rests c).After-seek-found} c.seek-found.ensures.moved (on-target _ _ _ c.seek-found.ensures.answer-is c.in-Ok.is) c.score-score.ensures c.if-not-total_score-rests.true

pub returns-then-total_score-leg : goal.returns-then-total_score-leg
returns-then-total_score-leg c =
    due _ _ _ _ _ _ c.requires.0 c.loop-i.invariant c.loop-i-test.false c.if-total_score-leg.true

pub returns : goal.returns
returns c =
    not-above _ _ _ _ _ _ c.requires.0 c.loop-i.invariant c.loop-i-test.false c.if-total_score-leg.false
