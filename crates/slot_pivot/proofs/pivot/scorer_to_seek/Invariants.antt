-- `pivot::scorer_to_seek` meets its contract: of the scorers from place i on, the highest list bound and its place are known.
use mathlib.Core.List.{List, map}
use Prim.Native.Nat.{ℕ, ◌<◌}
use Rattle.ordering.proofs.Seeking.{Seeking}
use Rattle.slot_pivot.specs.Inner.Terms.{term_in}
use Rattle.slot_pivot.proofs.pivot.scorer_to_seek.Given as goal

abbrev pub invariant-loop-i : goal.invariant-loop-i
invariant-loop-i l =
    (l.i < l.len) × ((places : List (List ℕ)) (blocks : List (List (List ℕ))) → Seeking (map (term_in l.lists places blocks) l.order) l.len l.at l.highest l.i)
