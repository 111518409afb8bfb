-- The order of numbers, finite and of clear sign: none lies below itself, and of two at most one lies below the other.
use mathlib.Core.Path.{◌≡◌, refl, sym, ◌∙◌}
use mathlib.Core.Bool.{Bool, true, false, true≢false}
use Prim.Native.Nat.{ℕ, ◌*◌}
use native.Mathlib.Nat.{le_refl}
use lib.Dec.{T}
use lib.Ieee.{Float, nan, inf, fin, up, down, lt, le}
use borrow.Author.Tests.{le-ltb}
use Rattle.floats.specs.Step.{within}
use Rattle.floats.proofs.Order.{below-le, lower-below}

pub not-below-itself : (N : ℕ) (x : Float) → T (within N x) → lt x x ≡ false
unfolding lt
not-below-itself N nan p = absurd p
not-below-itself N (inf s) p = absurd p
not-below-itself N (fin true m e) p = absurd p
not-below-itself N (fin false m e) p = le-ltb (m * up e * down e) (m * up e * down e) (le_refl (m * up e * down e))

-- one that is at least another lies below nothing that the other does not lie below
pub still-not-below : (N : ℕ) (x y z : Float) → T (within N x) → T (within N y) → T (le x y) → lt x z ≡ false → lt y z ≡ false
still-not-below N x y z p q h n = go (lt y z) refl
  where
    go : (b : Bool) → lt y z ≡ b → lt y z ≡ false
    go false e = e
    go true e = absurd (true≢false (sym (lower-below N x y z p q h e) ∙ n))

pub not-under : (N : ℕ) (x y : Float) → T (within N x) → T (within N y) → T (le x y) → lt y x ≡ false
not-under N x y p q h = still-not-below N x y x p q h (not-below-itself N x p)

pub one_way : (N : ℕ) (x y : Float) → T (within N x) → T (within N y) → lt x y ≡ true → lt y x ≡ false
one_way N x y p q h = not-under N x y p q (below-le x y h)
