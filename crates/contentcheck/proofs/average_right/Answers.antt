-- `average_right` meets its contract: a number is tested by its bits, and a NaN is refused.
use mathlib.Core.Path.{refl}
use lib.Ieee.{le, round}
use Rattle.bm25.specs.Limits.{average_ok}
use Rattle.contentcheck.proofs.Numbers.{is_number, by_bits, no_number}
use Rattle.contentcheck.proofs.average_right.Goals as goal

pub float_to_bits-average : goal.float_to_bits-average
float_to_bits-average c = is_number c.args.average c.if-average.true

pub returns-then-average : goal.returns-then-average
returns-then-average c = by_bits average_ok c.args.average c.well_formed.0.1 c.average_ok.ensures

pub returns : goal.returns
unfolding average_ok le round
returns c = no_number average_ok c.args.average refl c.if-average.false
