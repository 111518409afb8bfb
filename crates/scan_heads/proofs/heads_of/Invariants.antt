-- `heads_of` meets its contract: after q turns the first q documents are in.
use Prim.Native.Nat.{◌≤◌}
use Rattle.scan_heads.specs.Inner.Heads.{HeadsOf}
use Rattle.scan_heads.proofs.heads_of.Given as goal

abbrev pub invariant-loop-q : goal.invariant-loop-q
invariant-loop-q l = HeadsOf l.places l.blocks l.q l.heads × (l.q ≤ l.n)
