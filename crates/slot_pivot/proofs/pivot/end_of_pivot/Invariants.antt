-- `pivot::end_of_pivot` meets its contract: each turn passes one more scorer on the document.
use mathlib.Core.List.{List, map}
use Prim.Native.Nat.{ℕ, ◌≤◌}
use Rattle.ordering.proofs.Pivoting.{Running}
use Rattle.slot_pivot.specs.Inner.Terms.{term_in}
use Rattle.slot_pivot.proofs.pivot.end_of_pivot.Given as goal

abbrev pub invariant-loop-i : goal.invariant-loop-i
invariant-loop-i l =
    (l.i ≤ l.n) × ((lists : List (List ℕ)) → Running l.doc (map (term_in lists l.places l.blocks) l.order) l.n l.from l.i)
