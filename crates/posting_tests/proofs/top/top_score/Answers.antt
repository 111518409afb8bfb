-- `top::top_score` meets its contract: each maximum is that of its column, and the highest of the eight is the highest of all.
use mathlib.Core.Path.{◌≡◌, refl}
use Prim.Native.Nat.{ℕ, ◌+◌, ◌*◌}
use native.Mathlib.Omega.{arith}
use Rattle.posting_tests.proofs.Lanes.{begun, goes_on, joined}
use Rattle.posting_tests.proofs.top.top_score.Goals as goal

pub loop-row-init : goal.loop-row-init
loop-row-init c = begun c.requires refl refl refl refl refl refl refl refl

next : (n : ℕ) → 8 * (n + 1) ≡ 8 * n + 8
next n = omega arith

pub loop-row-preserved : goal.loop-row-preserved
loop-row-preserved c =
    let e8 = c.larger-h.ensures in
    rw (next c.loop-row.row) (goes_on c.requires c.loop-row.invariant (omega arith) c.larger-a.ensures c.larger-b.ensures
    c.larger-c.ensures c.larger-d.ensures
    c.larger-e.ensures c.larger-f.ensures c.larger-g.ensures e8)

pub returns : goal.returns
returns c =
    joined c.requires c.loop-row.invariant (omega arith) c.larger.ensures c.larger-2.ensures
    c.larger-low.ensures
    c.larger-3.ensures c.larger-4.ensures c.larger-high.ensures c.larger-5.ensures
