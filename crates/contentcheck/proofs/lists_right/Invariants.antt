-- `lists_right` meets its contract: the flag is the test over the lists passed.
use mathlib.Core.Path.{◌≡◌}
use mathlib.Core.Bool.{Bool}
use mathlib.Core.List.{List}
use Prim.Native.Nat.{ℕ, ◌≤◌}
use lib.Ieee.{Float, nan}
use lib.ListN.{length, get_or}
use Rattle.arrays.specs.Every.{every}
use Rattle.notefile.specs.Conditions.{list_fits}
use Rattle.contentcheck.proofs.lists_right.Given as goal

-- row 4, of list l
abbrev pub right_at : ℕ → List Float → List ℕ → ℕ → Bool
right_at documents weights counts l = list_fits (get_or weights l nan) (get_or counts l 0) documents

abbrev pub invariant-loop-l : goal.invariant-loop-l
invariant-loop-l l = (l.l ≤ length l.counts) × (l.right ≡ every l.l (right_at l.documents l.weights l.counts))
