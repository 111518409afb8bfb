-- `check::check_lists` meets its contract: it stops at the first list that is refused. The norms at hand are those of the average at hand.
use mathlib.Core.Path.{◌≡◌}
use Prim.Native.Nat.{◌≤◌}
use lib.Ieee.{binary32, of_bits}
use Rattle.bm25.specs.Inner.Weight.{NormsOf}
use Rattle.notefile.specs.Inner.Order.{lists_refusal}
use Rattle.notecheck.proofs.check.check_lists.Given as goal

abbrev pub invariant-loop-l : goal.invariant-loop-l
invariant-loop-l l = (l.l ≤ l.lists) × ((lists_refusal l.file l.l ≡ 0) × NormsOf (of_bits binary32 l.average) l.norms)
