-- `least` meets its contract: after q turns `doc` is the least of the first q.
use mathlib.Core.Path.{◌≡◌, refl, ap, ◌∙◌}
use native.Mathlib.Omega.{arith}
use Rattle.scan_heads.specs.Inner.Heads.{least_in}
use Rattle.scan_heads.proofs.Heading.{least-next}
use Rattle.scan_heads.proofs.least.Goals as goal

pub loop-q-init : goal.loop-q-init
loop-q-init c = (refl, omega arith)

pub loop-q-preserved : goal.loop-q-preserved
loop-q-preserved c = (omega (arith, least-next c.args.heads.now c.loop-q.q), omega arith)

pub returns : goal.returns
returns c =
    let e : c.loop-q.q ≡ c.args.n = omega (arith, c.loop-q.invariant.1, c.loop-q-test.false) in
    c.loop-q.invariant.0 ∙ ap (least_in c.args.heads.now) e
