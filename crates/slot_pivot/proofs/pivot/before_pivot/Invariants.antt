-- `pivot::before_pivot` meets its contract: up to place i the list bounds do not exceed the threshold, and the sum is that of the route's `while`.
use mathlib.Core.List.{List, map}
use Prim.Native.Nat.{ℕ, ◌≤◌}
use Rattle.ordering.proofs.Pivoting.{Summing}
use Rattle.slot_pivot.specs.Inner.Terms.{term_in}
use Rattle.slot_pivot.proofs.pivot.before_pivot.Given as goal

abbrev pub invariant-loop-i : goal.invariant-loop-i
invariant-loop-i l =
    (l.i ≤ l.n) × ((places : List (List ℕ)) (blocks : List (List (List ℕ))) → Summing l.threshold (map (term_in l.lists places blocks) l.order) l.n l.i l.max_score)
