-- `max_score_sum` meets its contract: the secondaries' list bounds are added from the first on, then the leader's before them.
use Prim.Native.Nat.{ℕ, ◌≤◌, ◌<◌}
use native.Mathlib.Omega.{arith}
use lib.Ieee.{of_bits}
use lib.ListN.{get_or, length}
use Rattle.ordering.proofs.Places.{all_first}
use Rattle.term_scorer.specs.Inner.Weights.{TopRead}
use Rattle.block_wand_intersection.proofs.Beginning.{added, adding, adds}
use Rattle.block_wand_intersection.proofs.begin.max_score_sum.Goals as goal
use Rattle.block_wand_intersection.proofs.begin.max_score_sum.Goals.{Start}

long : (a : Start) → a.args.n ≤ length a.args.order.now
long a = omega (arith, a.requires.1, a.told-order)

-- a slot in the row whose list bound can be read
read : (a : Start) → (i : ℕ) → i < a.args.n → TopRead a.args.lists.now (get_or a.args.order.now i 0)
read a i h = all_first (TopRead a.args.lists.now) a.args.order.now a.args.n i 0 h (long a) a.requires.2

pub loop-i-init : goal.loop-i-init
unfolding of_bits
loop-i-init c = adding _ _ _ c.requires.0

pub max_score-sum-requires : goal.max_score-sum-requires
max_score-sum-requires c = read (goal.at.max_score-sum-requires c).Start c.loop-i.i c.loop-i-test.true

pub loop-i-preserved : goal.loop-i-preserved
loop-i-preserved c =
    adds _ _ _ c.loop-i.invariant (long (goal.at.loop-i-preserved c).Start) c.loop-i-test.true c.max_score-sum.ensures

pub max_score-requires : goal.max_score-requires
max_score-requires c = read (goal.at.max_score-requires c).Start 0 c.requires.0

pub returns : goal.returns
returns c =
    added _ _ _ c.loop-i.invariant (omega arith) c.max_score.ensures
