-- `docs_fine` meets its contract: a long step is refused, and of short steps the last document says the rest.
use Rattle.std.proofs.Common.{ℕ, ◌+◌, ◌<◌, get_or, arith}
use Rattle.block_look.proofs.Judged.{docs-long, docs-short}
use Rattle.block_look.proofs.docs_fine.Goals as goal
use Rattle.block_look.proofs.docs_fine.Goals.{Start}

abbrev docs-of : Start → ℕ → ℕ
docs-of s i = get_or s.args.docs.now (s.args.at + i) 0

pub returns-then-all-ge1048576 : goal.returns-then-all-ge1048576
returns-then-all-ge1048576 c =
    let a = c.args in
    docs-long (docs-of (goal.at.returns-then-all-ge1048576 c).Start) a.first a.previous a.limit c.requires.2 c.requires.3 c.if-all-ge1048576.true

pub returns : goal.returns
returns c =
    let a = c.args in
    let low : (i : ℕ) → docs-of (goal.at.returns c).Start i < 4294967296 = λ i. omega (arith, c.type_inv.docs (a.at + i)) in
    docs-short (docs-of (goal.at.returns c).Start) a.first a.previous a.limit c.requires.1 c.requires.2 low c.requires.3 c.if-all-ge1048576.false
