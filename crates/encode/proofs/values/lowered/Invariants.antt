-- `encode::values::lowered` meets its contract: a loop that fills the front (`Filling`).
use mathlib.Core.Path.{◌≡◌}
use Prim.Native.Nat.{◌+◌, ◌-◌, ◌≤◌}
use lib.ListN.{get_or}
use Rattle.arrays.proofs.Filling.{Filling}
use Rattle.compression.specs.Documents.{gap_of}
use Rattle.encode.proofs.values.lowered.Given as goal

abbrev pub invariant-loop-i : goal.invariant-loop-i
invariant-loop-i l =
    (l.i ≤ l.n) × (l.less ≡ gap_of l.strict) × Filling 0 128 (λ k. get_or l.freqs (l.from + k) 0 - gap_of l.strict) l.initial.out l.i l.out
