-- `part::skips_at` meets its contract: each turn steps over one list's parts.
use mathlib.Core.Path.{◌≡◌}
use Prim.Native.Nat.{◌+◌, ◌*◌, ◌≤◌}
use Rattle.notefile.specs.Parts.{skips_at}
use Rattle.notefile.proofs.part.skips_at.Given as goal

abbrev pub invariant-loop-l : goal.invariant-loop-l
invariant-loop-l l = (l.l ≤ l.n) × (l.at ≡ skips_at l.file l.l) × (l.at ≤ 2097152 + 134217728 * l.l)
