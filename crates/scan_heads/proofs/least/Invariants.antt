-- `least` meets its contract: after q turns `doc` is the least of the first q.
use mathlib.Core.Path.{◌≡◌}
use Prim.Native.Nat.{◌≤◌}
use Rattle.scan_heads.specs.Inner.Heads.{least_in}
use Rattle.scan_heads.proofs.least.Given as goal

abbrev pub invariant-loop-q : goal.invariant-loop-q
invariant-loop-q l = (l.doc ≡ least_in l.heads l.q) × (l.q ≤ l.n)
