-- `top::top_of` meets its contract: no earlier score is equal to the highest.
use mathlib.Core.Path.{◌≡◌}
use mathlib.Core.Bool.{false}
use Prim.Native.Nat.{ℕ, ◌<◌}
use lib.ListN.{get_or}
use lib.Ieee.{nan, eq}
use Rattle.posting_tests.proofs.top.top_of.Given as goal

abbrev pub invariant-loop-i : goal.invariant-loop-i
invariant-loop-i l = (k : ℕ) → k < l.i → eq (get_or l.scores k nan) l.top ≡ false
