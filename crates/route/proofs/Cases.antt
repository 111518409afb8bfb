-- Arguments by cases on a test, with what it showed.
use mathlib.Core.Bool.{Bool, cond, false, true}
use mathlib.Core.Path.{refl, ◌≡◌}
use Prim.Native.Nat.{ℕ, ◌<◌, ◌≤◌}
use native.Mathlib.Nat.{lt_of_not-le}
use native.Mathlib.Omega.{arith}

pub by-test : {A : Type 0} (P : A → Type 0) (b : Bool) (x y : A) → (b ≡ true → P x) → (b ≡ false → P y) → P (cond b x y)
by-test P true x y f g = f refl
by-test P false x y f g = g refl

pub on_test : {P : Type 0} (b : Bool) → (b ≡ true → P) → (b ≡ false → P) → P
on_test true f g = f refl
on_test false f g = g refl

pub lt_of_ne : {a b : ℕ} → a ≤ b → (a ≡ b → ⊥) → a < b
lt_of_ne h n = lt_of_not-le (λ k. n (omega arith))
