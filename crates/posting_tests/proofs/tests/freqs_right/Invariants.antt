-- `tests::freqs_right` meets its contract: the flag says whether row 8 lets the frequencies passed through.
use mathlib.Core.Path.{◌≡◌}
use Prim.Native.Nat.{◌+◌, ◌≤◌}
use lib.ListN.{get_or}
use Rattle.frequencies.specs.Frequencies.{freqs_right}
use Rattle.posting_tests.proofs.tests.freqs_right.Given as goal

abbrev pub invariant-loop-i : goal.invariant-loop-i
invariant-loop-i l = (l.i ≤ l.n) × (l.right ≡ freqs_right (λ k. get_or l.freqs (l.at + k) 0) l.i)
