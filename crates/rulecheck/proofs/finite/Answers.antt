-- `finite` meets its contract: only a finite value less itself is 0.
use lib.Ieee.{of_bits}
use Rattle.rulecheck.proofs.Finiteness.{less-itself}
use Rattle.rulecheck.proofs.finite.Goals as goal

pub returns : goal.returns
unfolding of_bits
returns c = less-itself c.args.x
