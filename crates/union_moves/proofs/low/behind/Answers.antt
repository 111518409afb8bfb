-- `low::behind` meets its contract: its two branches are the definition's.
use native.Mathlib.Omega.{arith}
use borrow.Author.Tests.{eq-eqb, ne_eqb}
use Rattle.union_moves.proofs.low.behind.Goals as goal

pub returns-then-last-eq-TERMINATED : goal.returns-then-last-eq-TERMINATED
returns-then-last-eq-TERMINATED c = let e = eq-eqb c.args.last 2147483647 c.if-last-eq-TERMINATED.true in rw e

pub returns : goal.returns
returns c = let e = ne_eqb c.args.last 2147483647 c.if-last-eq-TERMINATED.false in rw e (omega arith)
