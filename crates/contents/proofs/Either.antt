-- The first of two refusals, 0 being none.
use mathlib.Core.Path.{◌≡◌, refl, ap, ◌∙◌}
use Prim.Native.Nat.{ℕ, zero, suc, ◌<◌}
use native.Mathlib.Nat.{not-suc-le-zero}
use native.Mathlib.Omega.{arith}
use Rattle.notefile.specs.Inner.Order.{or_else}

pub some : {n : ℕ} → (n ≡ 0 → ⊥) → 0 < n
some h = omega (arith, h)

pub or_some : (a b : ℕ) → 0 < a → or_else a b ≡ a
or_some zero b h = absurd (not-suc-le-zero h)
or_some (suc a) b h = refl

pub or-none : {a b : ℕ} → a ≡ 0 → or_else a b ≡ b
or-none {a} {b} e = ap (λ (z : ℕ). or_else z b) e

pub both-none : {a b : ℕ} → a ≡ 0 → b ≡ 0 → or_else a b ≡ 0
both-none e f = or-none e ∙ f

-- neither is, where the first of both is none
pub first-none : (a b : ℕ) → or_else a b ≡ 0 → a ≡ 0
first-none zero b e = refl
first-none (suc a) b e = e

pub later-none : (a b : ℕ) → or_else a b ≡ 0 → b ≡ 0
later-none zero b e = e
later-none (suc a) b e = absurd (omega arith)
