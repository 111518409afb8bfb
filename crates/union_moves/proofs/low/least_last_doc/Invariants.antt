-- `low::least_last_doc` meets its contract: the least of what was found and of the last documents from place i on stays the same.
use lib.ListN.{take}
use Rattle.union_moves.specs.Inner.Moves.{least_last_of}
use Rattle.union_moves.proofs.Lowest.{Lowering}
use Rattle.union_moves.proofs.low.least_last_doc.Given as goal

abbrev pub invariant-loop-i : goal.invariant-loop-i
invariant-loop-i l =
    Lowering l.places l.order l.pivot_len (least_last_of l.places 2147483647 (take l.pivot_len l.order)) l.least l.i
