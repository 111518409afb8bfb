-- `weight_ok` meets its contract: patterns up to that of 1,000 are the weights of clear sign up to it.
use native.Mathlib.Omega.{arith}
use Rattle.bm25_limits.proofs.LimitBits.{weight-bits}
use Rattle.bm25_limits.proofs.weight_ok.Goals as goal

pub returns : goal.returns
returns c = weight-bits c.args.bits (omega arith)
