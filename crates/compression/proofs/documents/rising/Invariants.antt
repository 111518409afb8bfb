-- `compression::documents::rising` meets its contract. The loop's invariant: `right` says whether each of the first i is above the one
-- before it.
use Rattle.std.proofs.Common.{◌≡◌, ◌+◌, ◌-◌, ◌≤◌, ltb, length, get_or}
use Rattle.arrays.specs.Every.{every}
use Rattle.compression.proofs.documents.rising.Given as goal

abbrev pub invariant-loop-i : goal.invariant-loop-i
invariant-loop-i l = (l.i - 1 ≤ length l.docs - 1) × (l.right ≡ every (l.i - 1) (λ k. ltb (get_or l.docs k 0) (get_or l.docs (k + 1) 0)))
