-- `structs::keep_order` meets its contract: each turn writes the next scorer's slot.
use mathlib.Core.List.{map}
use mathlib.Core.Path.{◌≡◌}
use Prim.Native.Nat.{◌≤◌}
use lib.ListN.{take}
use Rattle.ordering.specs.Inner.Scorers.{slot_of}
use Rattle.term_scorer.specs.Inner.Slots.{Sixteen}
use Rattle.ordering.specs.Inner.Rows.{SameBehind}
use Rattle.slot_pivot.proofs.structs.keep_order.Given as goal

abbrev pub invariant-loop-i : goal.invariant-loop-i
invariant-loop-i l =
    (l.i ≤ l.scorers.len) × Sixteen l.order × (take l.i l.order ≡ map slot_of (take l.i l.scorers.scorers)) × SameBehind l.scorers.len l.initial.order l.order
