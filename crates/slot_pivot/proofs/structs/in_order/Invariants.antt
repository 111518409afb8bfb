-- `structs::in_order` meets its contract: each turn reads the next slot's scorer off the tables.
use mathlib.Core.List.{map}
use mathlib.Core.Path.{◌≡◌}
use Prim.Native.Nat.{◌≤◌}
use lib.ListN.{take}
use Rattle.term_scorer.specs.Inner.Slots.{Sixteen}
use Rattle.slot_pivot.specs.Inner.Terms.{term_in}
use Rattle.slot_pivot.proofs.structs.in_order.Given as goal

abbrev pub invariant-loop-i : goal.invariant-loop-i
invariant-loop-i l =
    (l.i ≤ l.n) × Sixteen l.out × (take l.i l.out ≡ map (term_in l.lists l.places l.blocks) (take l.i l.order))
