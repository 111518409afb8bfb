-- `union_pivot::advance_all_scorers_on_pivot` meets its contract: each turn one scorer advances in its slot, and the sweep and the sort are the route's.
use Prim.Native.Nat.{◌≤◌}
use lib.ListN.{take}
use Rattle.bm25.specs.declared.Scoring.{Scoring}
use Rattle.term_scorer.specs.Inner.Slots.{held}
use Rattle.union_pivot.proofs.Advances.{Advancing}
use Rattle.union_pivot.proofs.advance_all_scorers_on_pivot.Given as goal

abbrev pub invariant-loop-i : goal.invariant-loop-i
invariant-loop-i l =
    (l.i ≤ l.pivot_len) × ((s : Scoring) → Advancing l.file l.lists s (held l.initial.places l.initial.blocks) (take l.n l.order) l.i (held l.places l.blocks))
