-- `block_cover::block_covered` meets its contract: the scores at the norms that were read are compared with the lower of the two bounds.
use mathlib.Core.Path.{◌≡◌}
use mathlib.Core.Bool.{true, false}
use mathlib.Core.Logic.{◌⊎◌, inl, inr}
use lib.Ieee.{lt}
use Rattle.block_cover.proofs.BoundTests.{block_read}
use Rattle.block_cover.proofs.block_covered.Goals as goal
use Rattle.block_cover.proofs.block_covered.Goals.{Joined-own-max_score}

-- which bound was chosen, and what the test said of it
choice : (j : Joined-own-max_score) → let own = j.bound_at-own.result in let max = j.args.max_score in ((lt own max ≡ true) × (j.if-own-max_score.low ≡ own)) ⊎ ((lt own max ≡ false) × (j.if-own-max_score.low ≡ max))
choice j = elim j.if-own-max_score.branch [ goal.then-own-max_score w ↦ inl (w.if-own-max_score.true, w.low-is) | goal.else-own-max_score w ↦ inr (w.if-own-max_score.false, w.low-is) ]

pub returns : goal.returns
returns c =
    let a = c.args in
    block_read a.reader a.file.now a.w a.docs.now a.freqs.now c.read_norms_below.ensures a.norm_code a.freq_code c.bound_at-own.ensures (choice (goal.at.returns c).Joined-own-max_score) c.norms_covered.ensures
