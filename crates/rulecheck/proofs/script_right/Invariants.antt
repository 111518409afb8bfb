-- `script_right` meets its contract: what is left of the script decides, entry by entry.
use mathlib.Core.Path.{◌≡◌}
use Prim.Native.Nat.{◌-◌, ◌≤◌}
use lib.ListN.{length, drop}
use Rattle.rulecheck.specs.Right.{script_right}
use Rattle.rulecheck.proofs.script_right.Given as goal

abbrev pub invariant-loop-i : goal.invariant-loop-i
invariant-loop-i l = (l.i ≤ length l.script) × (script_right l.scoring l.start l.script ≡ script_right l.scoring l.last (drop l.i l.script))
