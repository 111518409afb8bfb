-- Where the lists of contents start.
use mathlib.Core.Path.{◌≡◌, refl}
use Prim.Native.Nat.{ℕ, zero, suc, ◌+◌, ◌*◌, ◌≤◌, ◌<◌}
use native.Mathlib.Omega.{arith}
use Rattle.arrays.proofs.Order.{climbs}
use Rattle.contents.specs.Contents.{Contents, lists, count_of, list_at}

module _ (c : Contents) where
  pub list-at-zero : list_at c 0 ≡ 0
  unfolding list_at
  list-at-zero = refl

  pub list-at-next : (l : ℕ) → list_at c (suc l) ≡ list_at c l + count_of c l
  unfolding list_at
  list-at-next l = refl

  -- they rise
  pub list-at-rises : (k l : ℕ) → k ≤ l → list_at c k ≤ list_at c l
  list-at-rises k l h = climbs (list_at c) k l h (λ i j. omega (arith, list-at-next i))

  -- a list ends where the next one starts, and so within all of them
  pub list_inside : (l : ℕ) → l < lists c → list_at c l + count_of c l ≤ list_at c (lists c)
  list_inside l h = omega (arith, list-at-next l, list-at-rises (suc l) (lists c) h)

  -- at most n postings in each
  pub list-at-most : (n l : ℕ) → ((k : ℕ) → k < l → count_of c k ≤ n) → list_at c l ≤ l * n
  list-at-most n zero h = omega (arith, list-at-zero)
  list-at-most n (suc l) h = omega (arith, list-at-next l, list-at-most n l (λ k j. h k (omega arith)), h l (omega arith))
