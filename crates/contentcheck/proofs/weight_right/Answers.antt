-- `weight_right` meets its contract: a number is tested by its bits, and a NaN is refused.
use mathlib.Core.Path.{refl}
use Rattle.bm25.specs.Limits.{weight_ok}
use Rattle.contentcheck.proofs.Numbers.{is_number, by_bits, no_number}
use Rattle.contentcheck.proofs.weight_right.Goals as goal

pub float_to_bits-weight : goal.float_to_bits-weight
float_to_bits-weight c = is_number c.args.weight c.if-weight.true

pub returns-then-weight : goal.returns-then-weight
returns-then-weight c = by_bits weight_ok c.args.weight c.well_formed.0.1 c.weight_ok.ensures

pub returns : goal.returns
returns c = no_number weight_ok c.args.weight refl c.if-weight.false
