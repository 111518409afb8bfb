-- `encode::values::differences` meets its contract. The loop's invariant (`Taking`, whatever stood in the array before the first was
-- taken): i differences are taken.
use mathlib.Core.Path.{◌≡◌}
use mathlib.Core.List.{List}
use Prim.Native.Nat.{ℕ, ◌+◌}
use lib.ListN.{get_or}
use Rattle.compression.specs.Documents.{gap_of}
use Rattle.encode.proofs.Differing.{Taking}
use Rattle.encode.proofs.values.differences.Given as goal

abbrev pub invariant-loop-i : goal.invariant-loop-i
invariant-loop-i l =
    ((before : List ℕ) → Taking (λ k. get_or l.docs (l.from + k) 0) l.strict l.first l.previous l.n before l.initial.out 1
    → Taking (λ k. get_or l.docs (l.from + k) 0) l.strict l.first l.previous l.n before l.out l.i)
    × (l.add ≡ gap_of l.strict)
