-- The loop over scores, to the first above the threshold.
use mathlib.Core.Path.{◌≡◌}
use mathlib.Core.Bool.{true, false}
use mathlib.Core.List.{List}
use mathlib.Core.Logic.{inl, inr}
use Prim.Native.Nat.{ℕ, ◌+◌, ◌≤◌, ◌<◌}
use native.Mathlib.Omega.{arith}
use lib.ListN.{get_or}
use lib.Ieee.{Float, nan, lt}
use Rattle.arrays.proofs.Order.{lt-or-ge}
use Rattle.single_walk.specs.Inner.Walks.{FirstAbove}

module _ (values : List Float) (from n : ℕ) (t : Float) where
  -- none is above before place i
  pub record Seeking (i : ℕ) : Type 0 where
    pub low : from ≤ i
    pub high : i ≤ n
    pub quiet : (k : ℕ) → from ≤ k → k < i → lt t (get_or values k nan) ≡ false

  pub seeking-begun : from ≤ n → Seeking from
  seeking-begun h = record { low = omega arith; high = h; quiet = λ k l m. absurd (omega arith) }

  module _ {i : ℕ} (S : Seeking i) where
    pub seeking-on : i < n → lt t (get_or values i nan) ≡ false → Seeking (i + 1)
    seeking-on h e = record { low = omega (arith, S.low); high = omega arith; quiet = more }
      where
        more : (k : ℕ) → from ≤ k → k < i + 1 → lt t (get_or values k nan) ≡ false
        more k l m = elim (lt-or-ge k i) [
          | inl g ↦ S.quiet k l g
          | inr g ↦ let z : k ≡ i = omega arith in rw z e
        ]

    pub first_found : lt t (get_or values i nan) ≡ true → FirstAbove values from n t i
    first_found e = record { low = S.low; high = S.high; quiet = S.quiet; due = λ h. e }

    pub none_found : n ≤ i → FirstAbove values from n t n
    none_found h = record { low = omega (arith, S.low, S.high); high = omega arith; quiet = λ k l m. S.quiet k l (omega arith); due = λ g. absurd (omega arith) }
