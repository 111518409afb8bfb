-- `align::align_scorers` meets its contract: each turn one scorer seeks the pivot in its slot, which is one step of the route's alignment; a miss is put back.
use mathlib.Core.Path.{◌≡◌}
use Prim.Native.Nat.{◌≤◌}
use lib.ListN.{take}
use Rattle.bm25.specs.declared.Scoring.{Scoring}
use Rattle.term_scorer.specs.Inner.Slots.{held}
use Rattle.union_moves.proofs.Alignments.{Seeking}
use Rattle.union_moves.proofs.align.align_scorers.Given as goal

abbrev pub invariant-loop-i : goal.invariant-loop-i
invariant-loop-i l =
    (l.i ≤ l.before_pivot_len) × (l.order ≡ l.initial.order) × ((s : Scoring) → Seeking l.file l.lists l.pivot_doc s (held l.initial.places l.initial.blocks) (take l.n l.order) l.before_pivot_len l.i (held l.places l.blocks))
