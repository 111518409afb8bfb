-- `block_norms::gather` meets its contract: each turn puts the norm at one document's place.
use Prim.Native.Nat.{ℕ}
use lib.ListN.{get_or}
use lib.Ieee.{nan}
use Rattle.arrays.proofs.Filling.{Filling}
use Rattle.block_norms.specs.Inner.Codes.{ByCode}
use Rattle.block_norms.proofs.gather.Given as goal

abbrev pub invariant-loop-i : goal.invariant-loop-i
invariant-loop-i g l =
    (code : ℕ → ℕ) → ByCode code (goal.F-post g l.place_of) l.docs
    → Filling nan 128 (λ k. get_or l.cache (code (get_or l.docs k 0)) nan) l.initial.norms l.i l.norms
