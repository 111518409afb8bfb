-- `union_turn::hit` meets its contract: the scores' sum is the route's, and so are the two ways on.
use native.Mathlib.Omega.{arith}
use mathlib.Core.List.{List}
use lib.Ieee.{Float}
use lib.ListN.{take}
use Rattle.term_scorer.specs.Inner.Slots.{held, Held}
use Rattle.union_moves.specs.Inner.Seats.{Terms, terms}
use Rattle.union_turn.proofs.OnPivots.{hit-due, hit-quiet, inside-unmoved, seated₁}
use Rattle.union_moves.proofs.Slots.{lined}
use Rattle.union_turn.proofs.Steps.{stands}
use Rattle.union_turn.proofs.hit.Goals as goal
use Rattle.union_turn.proofs.hit.Goals.{After-score_on_pivot-score, Start}

abbrev now : Start → Held
now a = held a.args.places.now a.args.blocks.now

abbrev terms₀ : Start → Terms
terms₀ a = terms a.args.leg.similarity.scoring a.args.norms.now a.args.floats.now

-- the slots and the floats that scoring left
abbrev scored : After-score_on_pivot-score → Held
scored s = held s.score_on_pivot-score.new.places s.args.blocks.now

abbrev floats₁ : After-score_on_pivot-score → List (List Float)
floats₁ s = s.score_on_pivot-score.new.floats

pub score_on_pivot-score-requires : goal.score_on_pivot-score-requires
score_on_pivot-score-requires c =
    (omega arith, c.requires.2, c.requires.3.rows, c.requires.4)

pub returns-then-score-leg : goal.returns-then-score-leg
returns-then-score-leg c =
    let E = c.score_on_pivot-score.ensures in
    hit-due c.args.file.now c.args.lists.now (terms₀ (goal.at.returns-then-score-leg c).Start) c.args.leg.threshold (now (goal.at.returns-then-score-leg c).Start) c.args.order.now c.args.span.len c.args.span.pivot.pivot_len c.args.span.pivot.pivot_doc c.requires.0
    E.0 {h₁ = scored (goal.at.returns-then-score-leg c).After-score_on_pivot-score} {floats₁ = floats₁ (goal.at.returns-then-score-leg c).After-score_on_pivot-score} E.1 c.requires.3 c.if-score-leg.true c.requires.1 c.told-order

pub advance_all_scorers_on_pivot-len-requires : goal.advance_all_scorers_on_pivot-len-requires
advance_all_scorers_on_pivot-len-requires c =
    let E = c.score_on_pivot-score.ensures in
    let S = seated₁ c.args.file.now c.args.lists.now (terms₀ (goal.at.advance_all_scorers_on_pivot-len-requires c).Start) c.args.leg.threshold (now (goal.at.advance_all_scorers_on_pivot-len-requires c).Start) c.args.order.now c.args.span.len c.args.span.pivot.pivot_len c.args.span.pivot.pivot_doc c.requires.0 E.0 {h₁ = scored (goal.at.advance_all_scorers_on_pivot-len-requires c).After-score_on_pivot-score} {floats₁ = floats₁ (goal.at.advance_all_scorers_on_pivot-len-requires c).After-score_on_pivot-score} E.1 c.requires.3 in
    (c.requires.0, c.requires.1, lined c.args.file.now c.args.lists.now c.args.leg.similarity.scoring (scored (goal.at.advance_all_scorers_on_pivot-len-requires c).After-score_on_pivot-score) (take c.args.span.len c.args.order.now) (stands {h = scored (goal.at.advance_all_scorers_on_pivot-len-requires c).After-score_on_pivot-score} S) S.apart, inside-unmoved {lists = c.args.lists.now} {norms = c.args.norms.now} {floats = c.args.floats.now} {floats' = floats₁ (goal.at.advance_all_scorers_on_pivot-len-requires c).After-score_on_pivot-score} {h = now (goal.at.advance_all_scorers_on_pivot-len-requires c).Start} {h' = scored (goal.at.advance_all_scorers_on_pivot-len-requires c).After-score_on_pivot-score} E.1 (take c.args.span.pivot.pivot_len c.args.order.now) c.requires.4)

pub returns : goal.returns
returns c =
    let E = c.score_on_pivot-score.ensures in
    rw c.quiet.ensures
    (hit-quiet c.args.file.now c.args.lists.now (terms₀ (goal.at.returns c).Start) c.args.leg.threshold (now (goal.at.returns c).Start) c.args.order.now c.args.span.len c.args.span.pivot.pivot_len c.args.span.pivot.pivot_doc c.requires.0
    E.0 {h₁ = scored (goal.at.returns c).After-score_on_pivot-score} {floats₁ = floats₁ (goal.at.returns c).After-score_on_pivot-score} E.1 c.requires.3 c.if-score-leg.false {h' = held c.advance_all_scorers_on_pivot-len.new.places c.advance_all_scorers_on_pivot-len.new.blocks} {order' = c.advance_all_scorers_on_pivot-len.new.order} c.advance_all_scorers_on_pivot-len.ensures)
