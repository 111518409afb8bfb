-- `number` is safe: a weight or an average within its limits is no NaN.
use mathlib.Core.Path.{sym, ◌∙◌}
use Rattle.bm25.proofs.Numbers.{weight-number, average-number}
use Rattle.samples.proofs.words.number.Goals as goal

pub float_from_bits-result : goal.float_from_bits-result
float_from_bits-result c = weight-number _ (sym c.weight_ok.ensures ∙ c.if-weight_ok.true)

pub float_from_bits-result-then-average_ok : goal.float_from_bits-result-then-average_ok
float_from_bits-result-then-average_ok c = average-number _ (sym c.average_ok.ensures ∙ c.if-average_ok.true)
