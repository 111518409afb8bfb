-- `freqs_fine` meets its contract: low frequencies are right, and of others `freqs_right` says it.
use Rattle.std.proofs.Common.{ℕ, ◌+◌, ◌<◌, get_or, arith}
use Rattle.block_look.proofs.Judged.{freqs-low}
use Rattle.block_look.proofs.freqs_fine.Goals as goal

pub returns-then-all-lt1073741824 : goal.returns-then-all-lt1073741824
returns-then-all-lt1073741824 c =
    let a = c.args in
    let f : ℕ → ℕ = λ i. get_or a.freqs.now (a.at + i) 0 in
    let low : (i : ℕ) → f i < 4294967296 = λ i. omega (arith, c.type_inv.freqs (a.at + i)) in
    freqs-low f low c.requires.1 c.if-all-lt1073741824.true

pub returns : goal.returns
returns c = c.freqs_right.ensures
