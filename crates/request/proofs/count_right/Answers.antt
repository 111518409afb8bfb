-- `count_right` meets its contract: the mode's own test.
use borrow.Author.Tests.{le-leb, lt-leb}
use Rattle.request.proofs.count_right.Goals as goal

pub returns-then-n-ge2 : goal.returns-then-n-ge2
returns-then-n-ge2 c = rw (c.in-Intersection.is, le-leb 2 c.args.n c.if-n-ge2.true)

pub returns-in-Union : goal.returns-in-Union
returns-in-Union c = rw c.in-Union.is

pub returns-else-n-ge2 : goal.returns-else-n-ge2
returns-else-n-ge2 c = rw (c.in-Intersection.is, lt-leb 2 c.args.n c.if-n-ge2.false)

pub returns-in-Single : goal.returns-in-Single
returns-in-Single c = rw c.in-Single.is
