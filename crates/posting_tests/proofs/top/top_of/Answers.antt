-- `top::top_of` meets its contract: no earlier score is equal to the highest.
use native.Mathlib.Omega.{arith}
use Rattle.posting_tests.proofs.Lanes.{found, at_last}
use Rattle.posting_tests.proofs.top.top_of.Goals as goal

pub returns-then-scores-i : goal.returns-then-scores-i
returns-then-scores-i c =
    found c.args.scores.now c.requires c.top_score-top.result c.top_score-top.ensures c.loop-i.i (omega arith) c.loop-i.invariant
    c.if-scores-i.true

pub returns : goal.returns
returns c =
    at_last c.args.scores.now c.requires c.top_score-top.result c.top_score-top.ensures 127 (omega arith) (λ k l. c.loop-i.invariant k (omega arith)) (omega arith)
