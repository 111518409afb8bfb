-- `pivot::before_pivot` meets its contract: up to place i the list bounds do not exceed the threshold, and the sum is that of the route's `while`.
use mathlib.Core.List.{List, map}
use mathlib.Core.Path.{ap, sym, ◌∙◌, ◌≡◌}
use Prim.Native.Nat.{ℕ, ◌≤◌}
use native.Mathlib.Omega.{arith}
use lib.Ieee.{of_bits}
use lib.ListN.{get_or, length, length-map}
use Rattle.ordering.specs.Inner.Scorers.{no_scorer}
use Rattle.term_scorer.specs.declared.TermScorer.{TermScorer}
use Rattle.term_scorer.specs.Inner.Weights.{TopRead}
use Rattle.ordering.proofs.Places.{all_first}
use Rattle.ordering.proofs.Pivoting.{summing, exceeds, adds, never}
use Rattle.slot_pivot.specs.Inner.Terms.{term_in}
use Rattle.ordering.proofs.Rows.{map_at}
use Rattle.slot_pivot.proofs.pivot.before_pivot.Goals as goal
use Rattle.slot_pivot.proofs.pivot.before_pivot.Goals.{After-max_score-max_score, Start}

long : (a : Start) (places : List (List ℕ)) (blocks : List (List (List ℕ))) → a.args.n ≤ length (map (term_in a.args.lists.now places blocks) a.args.order.now)
long a places blocks = omega (arith, length-map a.args.order.now (term_in a.args.lists.now places blocks), a.told-order)

top-is : (c : After-max_score-max_score) (places : List (List ℕ)) (blocks : List (List (List ℕ)))
    → ((get_or (map (term_in c.args.lists.now places blocks) c.args.order.now) c.loop-i.i no_scorer).max_score ≡ c.max_score-max_score.result)
top-is c places blocks =
    ap (λ (t : TermScorer). t.max_score) (map_at (term_in c.args.lists.now places blocks) c.args.order.now c.loop-i.i 0 no_scorer (omega (arith, c.told-order))) ∙ sym c.max_score-max_score.ensures

pub loop-i-init : goal.loop-i-init
unfolding of_bits
loop-i-init c = (omega arith, λ places blocks. summing _ _ _)

pub max_score-max_score-requires : goal.max_score-max_score-requires
max_score-max_score-requires c =
    all_first (TopRead c.args.lists.now) c.args.order.now c.args.n c.loop-i.i 0 (omega arith) (omega (arith, c.told-order)) c.requires.1

pub returns-then-max_score-threshold : goal.returns-then-max_score-threshold
returns-then-max_score-threshold c =
    λ places blocks. exceeds _ _ _ (long (goal.at.returns-then-max_score-threshold c).Start places blocks) (c.loop-i.invariant.1 places blocks) (omega arith) (rw (top-is (goal.at.returns-then-max_score-threshold c).After-max_score-max_score places blocks) c.if-max_score-threshold.true)

pub loop-i-preserved : goal.loop-i-preserved
loop-i-preserved c =
    (omega arith, λ places blocks. rw (top-is (goal.at.loop-i-preserved c).After-max_score-max_score places blocks) at (adds _ _ _ (long (goal.at.loop-i-preserved c).Start places blocks) (c.loop-i.invariant.1 places blocks) (omega arith) (rw (top-is (goal.at.loop-i-preserved c).After-max_score-max_score places blocks) c.if-max_score-threshold.false)))

pub returns : goal.returns
returns c =
    let last : c.loop-i.i ≡ c.args.n = omega arith in
    λ places blocks. sym last ∙ never _ _ _ (long (goal.at.returns c).Start places blocks) (c.loop-i.invariant.1 places blocks) (omega arith)
