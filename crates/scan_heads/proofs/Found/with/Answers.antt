-- `Found::with` meets its contract: the first score is the sum, and a later one is added.
use borrow.Author.Tests.{eq-eqb, ne_eqb}
use Rattle.scan_heads.proofs.Found.with.Goals as goal

pub returns-then-self-eq0 : goal.returns-then-self-eq0
returns-then-self-eq0 c = simp (eq-eqb _ _ c.if-self-eq0.true)

pub returns : goal.returns
returns c = simp (ne_eqb _ _ c.if-self-eq0.false)
