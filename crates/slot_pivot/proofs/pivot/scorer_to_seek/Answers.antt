-- `pivot::scorer_to_seek` meets its contract: of the scorers from place i on, the highest list bound and its place are known.
use mathlib.Core.List.{List, map}
use mathlib.Core.Path.{ap, sym, ◌∙◌, ◌≡◌}
use Prim.Native.Nat.{ℕ, ◌-◌, ◌<◌, ◌≤◌}
use native.Mathlib.Omega.{arith}
use lib.Ieee.{Float}
use lib.ListN.{get_or, length, length-map}
use Rattle.ordering.specs.Inner.Scorers.{no_scorer}
use Rattle.term_scorer.specs.declared.TermScorer.{TermScorer}
use Rattle.term_scorer.specs.Inner.Weights.{top_at, TopRead}
use Rattle.ordering.proofs.Places.{all_first}
use Rattle.ordering.proofs.Seeking.{begun, higher, lower, ended}
use Rattle.slot_pivot.specs.Inner.Terms.{term_in}
use Rattle.ordering.proofs.Rows.{map_at}
use Rattle.slot_pivot.proofs.pivot.scorer_to_seek.Goals as goal
use Rattle.slot_pivot.proofs.pivot.scorer_to_seek.Goals.{Start}

abbrev scorers : Start → List (List ℕ) → List (List (List ℕ)) → ℕ → TermScorer
scorers a places blocks = term_in a.args.lists.now places blocks

long : (a : Start) (places : List (List ℕ)) (blocks : List (List (List ℕ))) → a.args.len ≤ length (map (scorers a places blocks) a.args.order.now)
long a places blocks = omega (arith, length-map a.args.order.now (scorers a places blocks), a.told-order)

top_read : (a : Start) (i : ℕ) → i < a.args.len → TopRead a.args.lists.now (get_or a.args.order.now i 0)
top_read a i h = all_first (TopRead a.args.lists.now) a.args.order.now a.args.len i 0 h (omega (arith, a.told-order)) a.requires.2

top-is : (a : Start) (i : ℕ) → i < a.args.len → {r : Float} → r ≡ top_at a.args.lists.now (get_or a.args.order.now i 0)
    → (places : List (List ℕ)) (blocks : List (List (List ℕ))) → (get_or (map (scorers a places blocks) a.args.order.now) i no_scorer).max_score ≡ r
top-is a i h e places blocks =
    ap (λ (t : TermScorer). t.max_score) (map_at (scorers a places blocks) a.args.order.now i 0 no_scorer (omega (arith, a.told-order))) ∙ sym e

pub max_score-highest-requires : goal.max_score-highest-requires
max_score-highest-requires c = top_read (goal.at.max_score-highest-requires c).Start (c.args.len - 1) (omega arith)

pub loop-i-init : goal.loop-i-init
loop-i-init c =
    (omega arith, λ places blocks. rw (top-is (goal.at.loop-i-init c).Start (c.args.len - 1) (omega arith) c.max_score-highest.ensures places blocks) at (begun (map (scorers (goal.at.loop-i-init c).Start places blocks) c.args.order.now) c.args.len (long (goal.at.loop-i-init c).Start places blocks) (omega arith)))

pub max_score-max_score-requires : goal.max_score-max_score-requires
max_score-max_score-requires c = top_read (goal.at.max_score-max_score-requires c).Start (c.loop-i.i - 1) (omega arith)

pub loop-i-preserved-then-max_score-highest : goal.loop-i-preserved-then-max_score-highest
loop-i-preserved-then-max_score-highest c =
    (omega arith, λ places blocks. let e = top-is (goal.at.loop-i-preserved-then-max_score-highest c).Start (c.loop-i.i - 1) (omega arith) c.max_score-max_score.ensures places blocks in rw e at (higher _ _ (long (goal.at.loop-i-preserved-then-max_score-highest c).Start places blocks) (c.loop-i.invariant.1 places blocks) (omega arith) (rw e c.if-max_score-highest.true)))

pub loop-i-preserved : goal.loop-i-preserved
loop-i-preserved c =
    (omega arith, λ places blocks. let e = top-is (goal.at.loop-i-preserved c).Start (c.loop-i.i - 1) (omega arith) c.max_score-max_score.ensures places blocks in lower _ _ (long (goal.at.loop-i-preserved c).Start places blocks) (c.loop-i.invariant.1 places blocks) (omega arith) (rw e c.if-max_score-highest.false))

pub returns : goal.returns
returns c =
    λ places blocks. ended _ _ (long (goal.at.returns c).Start places blocks) (c.loop-i.invariant.1 places blocks) (omega arith)
