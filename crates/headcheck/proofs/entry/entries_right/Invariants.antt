-- `entry::entries_right` meets its contract: the flag is the test over the entries passed.
use mathlib.Core.Path.{◌≡◌}
use Prim.Native.Nat.{◌-◌, ◌≤◌}
use Rattle.arrays.specs.Every.{every}
use Rattle.notefile.specs.Conditions.{entry_right}
use Rattle.headcheck.proofs.entry.entries_right.Given as goal

abbrev pub invariant-loop-l : goal.invariant-loop-l
invariant-loop-l l = (l.l ≤ l.lists) × (l.right ≡ every l.l (entry_right l.file))
