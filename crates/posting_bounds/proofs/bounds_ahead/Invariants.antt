-- `bounds_ahead` meets its contract: each turn writes one block's bound.
use Rattle.decoded.specs.Lists.{list_of}
use Rattle.posting_bounds.proofs.Ahead.{Writing}
use Rattle.posting_bounds.proofs.bounds_ahead.Given as goal

abbrev pub invariant-loop-k : goal.invariant-loop-k
invariant-loop-k l = Writing (list_of l.scoring l.file l.x) l.b l.at l.n l.initial.bounds l.k l.bounds
