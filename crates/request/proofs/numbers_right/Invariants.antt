-- `numbers_right` meets its contract: the numbers that are left decide, one by one.
use mathlib.Core.Path.{◌≡◌}
use Prim.Native.Nat.{◌≤◌}
use lib.ListN.{length, drop}
use Rattle.request.specs.Request.{numbers_right}
use Rattle.request.proofs.numbers_right.Given as goal

abbrev pub invariant-loop-i : goal.invariant-loop-i
invariant-loop-i l = (l.i ≤ length l.query) × (numbers_right l.lists l.query ≡ numbers_right l.lists (drop l.i l.query))
