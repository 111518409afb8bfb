-- `part::weight_of` meets its contract: the bits of a weight and of an average within their limits are a number's.
use Rattle.bm25.proofs.Numbers.{average-number, weight-number}
use Rattle.notefile.proofs.part.weight_of.Goals as goal

pub float_from_bits-result : goal.float_from_bits-result
float_from_bits-result c = weight-number c.args.x.weight c.requires.0.weight

pub float_from_bits-result-2 : goal.float_from_bits-result-2
float_from_bits-result-2 c = average-number c.args.x.average c.requires.0.average
