-- `top::top_score` meets its contract: each maximum is that of its column, and the highest of the eight is the highest of all.
use Prim.Native.Nat.{◌*◌}
use Rattle.posting_tests.proofs.Lanes.{Columns}
use Rattle.posting_tests.proofs.top.top_score.Given as goal

abbrev pub invariant-loop-row : goal.invariant-loop-row
invariant-loop-row l =
    Columns l.scores l.a l.b l.c l.d l.e l.f l.g l.h (8 * l.row)
