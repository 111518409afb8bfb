-- `average_ok` meets its contract: the patterns between those of 0.0625 and 2,147,483,648 are the averages between them.
use native.Mathlib.Omega.{arith}
use Rattle.bm25_limits.proofs.LimitBits.{average-bits-low, average-bits}
use Rattle.bm25_limits.proofs.average_ok.Goals as goal

pub returns-then-bits-lt-MIN_AVERAGE : goal.returns-then-bits-lt-MIN_AVERAGE
returns-then-bits-lt-MIN_AVERAGE c = average-bits-low c.args.bits c.if-bits-lt-MIN_AVERAGE.true

pub returns : goal.returns
returns c = average-bits c.args.bits (omega arith) c.if-bits-lt-MIN_AVERAGE.false
