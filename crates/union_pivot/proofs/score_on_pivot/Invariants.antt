-- `union_pivot::score_on_pivot` meets its contract: each turn adds the next scorer's score, and the scorers stay.
use mathlib.Core.List.{map}
use mathlib.Core.Path.{◌≡◌}
use Prim.Native.Nat.{◌≤◌}
use lib.ListN.{take}
use Rattle.route.specs.F32.{f32}
use Rattle.route.specs.Score.{sum}
use Rattle.route.specs.Scorer.{score_here}
use Rattle.term_scorer.specs.Inner.Slots.{held}
use Rattle.union_moves.specs.Inner.Seats.{Unmoved, slot_scorer}
use Rattle.union_pivot.proofs.score_on_pivot.Given as goal

abbrev pub invariant-loop-i : goal.invariant-loop-i
invariant-loop-i l =
    (l.i ≤ l.pivot_len) × (l.sum ≡ sum f32 (map score_here (map (slot_scorer l.file l.lists l.similarity.scoring l.initial.places) (take l.i l.order))))
    × Unmoved l.file l.lists l.similarity.scoring l.norms l.initial.floats (held l.initial.places l.blocks) l.floats (held l.places l.blocks)
