-- `blocks::seek_blocks` meets its contract: each turn one skip reader seeks the pivot in its slot, which leaves every other scorer, and its block's bound is added.
use Prim.Native.Nat.{ℕ, ◌≤◌}
use lib.ListN.{take}
use Rattle.term_scorer.specs.Inner.Slots.{held}
use Rattle.union_moves.specs.Inner.Seats.{Seated, terms, terms_of}
use Rattle.union_moves.proofs.BlockBounds.{Bounding}
use Rattle.union_moves.proofs.blocks.seek_blocks.Given as goal

abbrev pub invariant-loop-i : goal.invariant-loop-i
invariant-loop-i l =
    (l.i ≤ l.pivot_len) × ((n : ℕ) → l.pivot_len ≤ n → Seated l.file l.lists (terms l.similarity.scoring l.norms l.initial.floats) (held l.initial.places l.blocks) (terms_of l.file l.lists l.similarity.scoring l.initial.places (take n l.order)) → Bounding l.file l.lists (terms l.similarity.scoring l.norms l.initial.floats) l.initial.places l.blocks l.pivot_doc (terms_of l.file l.lists l.similarity.scoring l.initial.places (take n l.order)) l.i l.places l.floats l.sum)
