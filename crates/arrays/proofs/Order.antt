-- Numbers in order.
use mathlib.Core.Path.{◌≡◌, refl}
use mathlib.Core.Bool.{Bool, true, false}
use mathlib.Core.Logic.{◌⊎◌, inl, inr, ⊎_elim}
use Prim.Native.Nat.{ℕ, zero, suc, ◌≤◌, ◌<◌}
use native.Mathlib.Nat.{le_refl, le_trans}
use native.Mathlib.Omega.{arith}
use lib.Dec.{ltb}
use borrow.Author.Tests.{ltb-true, ltb-false}

-- a number lies below another, or not
pub lt-or-ge : (a b : ℕ) → (a < b) ⊎ (b ≤ a)
lt-or-ge a b = go (ltb a b) refl
  where
    go : (t : Bool) → ltb a b ≡ t → (a < b) ⊎ (b ≤ a)
    go true e = inl (ltb-true a b e)
    go false e = inr (ltb-false a b e)

-- what falls at no step up to j does not fall
pub climbs : (f : ℕ → ℕ) (i j : ℕ) → i ≤ j → ((k : ℕ) → k < j → f k ≤ f (suc k)) → f i ≤ f j
climbs f i zero h s = let e : i ≡ 0 = omega arith in rw e (le_refl (f 0))
climbs f i (suc j) h s = ⊎_elim
    (λ l. le_trans (climbs f i j (omega arith) (λ k m. s k (omega arith))) (s j (omega arith)))
    (λ l. let e : i ≡ suc j = omega arith in rw e (le_refl (f (suc j))))
    (lt-or-ge i (suc j))
