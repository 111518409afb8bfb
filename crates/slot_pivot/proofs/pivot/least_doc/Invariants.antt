-- `pivot::least_doc` meets its contract: the least of what was found and of the documents from place i on stays the same.
use mathlib.Core.List.{List, map}
use Prim.Native.Nat.{ℕ, ◌≤◌}
use lib.ListN.{drop, take}
use Rattle.ordering.specs.Inner.Scorers.{least_doc_of}
use Rattle.ordering.proofs.Seeking.{Lowering}
use Rattle.slot_pivot.specs.Inner.Terms.{term_in}
use Rattle.slot_pivot.proofs.pivot.least_doc.Given as goal

abbrev pub invariant-loop-i : goal.invariant-loop-i
invariant-loop-i l =
    (l.i ≤ l.n) × ((lists : List (List ℕ)) → Lowering (map (term_in lists l.places l.blocks) l.order) l.n (least_doc_of l.from (drop l.len (take l.n (map (term_in lists l.places l.blocks) l.order)))) l.least l.i)
