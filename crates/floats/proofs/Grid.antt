-- The f32 values n / 1024 of clear sign, up to 2 ^ 24 steps: sums, differences and order are those of the step counts.
use mathlib.Core.Path.{◌≡◌, sym, ◌∙◌, subst}
use mathlib.Core.Bool.{false}
use Prim.Native.Nat.{ℕ, ◌+◌, ◌-◌, ◌^◌, ◌≤◌, zero-le}
use native.Mathlib.Nat.{le_trans, sub-zero, add-zero}
use lib.Dec.{leb, lit<}
use lib.Ieee.{binary32, round, add, sub, le}
use lib.Ieee.Exact.{HasValue}
use Rattle.floats.specs.Step.{grid_f}
use Rattle.floats.specs.Inner.Steps.{Steps}
use Rattle.floats.proofs.Sum.{add_at, sub_at}
use Rattle.floats.proofs.Steps.{grid-value, pos-steps, steps-le}

pub grid-has : (n : ℕ) → n ≤ 2 ^ 24 → HasValue (grid_f n) false n 1024
unfolding grid_f
grid-has n h = grid-value false n h

pub grid-steps : (n : ℕ) → n ≤ 2 ^ 24 → Steps (grid_f n) n 0
unfolding grid_f
grid-steps n h = pos-steps (round binary32 false n 1024) n 0 zero-le (subst (λ (z : ℕ). HasValue (round binary32 false n 1024) false z 1024) (sym (sub-zero n)) (grid-value false n h))

pub grid-add : (a b : ℕ) → a ≤ 2 ^ 24 → b ≤ 2 ^ 24 → add binary32 (grid_f a) (grid_f b) ≡ grid_f (a + b)
unfolding grid_f
grid-add a b h k = add_at binary32 (round binary32 false a 1024) (round binary32 false b 1024) a b 1024 (lit< tt) (grid-value false a h) (grid-value false b k)

pub grid-sub : (a b : ℕ) → a ≤ 2 ^ 24 → b ≤ a → sub binary32 (grid_f a) (grid_f b) ≡ grid_f (a - b)
unfolding grid_f
grid-sub a b h k = sub_at binary32 (round binary32 false a 1024) (round binary32 false b 1024) a b 1024 (lit< tt) (grid-value false a h) (grid-value false b (le_trans k h)) k

pub grid-le : (a b : ℕ) → a ≤ 2 ^ 24 → b ≤ 2 ^ 24 → le (grid_f a) (grid_f b) ≡ leb a b
grid-le a b h k = steps-le (grid_f a) (grid_f b) a 0 b 0 (grid-steps a h) (grid-steps b k) ∙ simp add-zero
