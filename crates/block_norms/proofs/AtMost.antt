-- A block's numbers under a limit.
use mathlib.Core.Path.{◌≡◌}
use mathlib.Core.Bool.{true}
use mathlib.Core.List.{List}
use Prim.Native.Nat.{ℕ, ◌≤◌, ◌<◌}
use lib.Dec.{leb}
use lib.ListN.{get_or}
use borrow.Author.Tests.{le-leb, leb-true}
use Rattle.arrays.proofs.Every.{all, each}
use Rattle.block_norms.specs.Inner.Block.{all_at_most}

module _ (limit : ℕ) (xs : List ℕ) where
  pub each-at-most : all_at_most limit xs ≡ true → (i : ℕ) → i < 128 → get_or xs i 0 ≤ limit
  unfolding all_at_most
  each-at-most e i h = leb-true (get_or xs i 0) limit (each (λ i. leb (get_or xs i 0) limit) 128 i e h)

  pub all-at-most : ((i : ℕ) → i < 128 → get_or xs i 0 ≤ limit) → all_at_most limit xs ≡ true
  unfolding all_at_most
  all-at-most f = all (λ i. leb (get_or xs i 0) limit) 128 (λ i h. le-leb (get_or xs i 0) limit (f i h))
