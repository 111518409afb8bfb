-- `block_norms::all_below` meets its contract: below a number that is not 0 is at most the one before it.
use mathlib.Core.Path.{sym, ◌∙◌}
use native.Mathlib.Omega.{arith}
use Rattle.block_norms.proofs.AtMost.{each-at-most}
use Rattle.block_norms.proofs.all_below.Goals as goal

pub returns : goal.returns
returns c = λ e i h. let m = each-at-most _ _ (sym c.all_at_most.ensures ∙ e) i h in omega arith
