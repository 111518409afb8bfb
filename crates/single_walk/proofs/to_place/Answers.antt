-- `single_walk::to_place` meets its contract: one number changes, and behind the last posting the block is left.
use native.Mathlib.Omega.{arith}
use Rattle.single_hunt.proofs.Scorers.{placed-in, placed-out, put-slot}
use Rattle.term_scorer.proofs.Slots.{standing-in}
use Rattle.single_walk.proofs.to_place.Goals as goal

pub returns-then-i-n : goal.returns-then-i-n
returns-then-i-n c =
    placed-in c.requires.2 c.requires.0 c.args.n c.args.i c.requires.1 c.if-i-n.true

pub skip-requires : goal.skip-requires
skip-requires c =
    (c.requires.0, standing-in (put-slot c.requires.2 c.requires.0 c.last_place.result (omega (arith, c.last_place.ensures))))

pub returns : goal.returns
returns c =
    placed-out c.requires.2 c.requires.0 c.args.n c.args.i c.requires.1 c.if-i-n.false c.last_place.ensures c.skip.ensures
