-- VInts one after another, as a tail has them.
use Rattle.std.specs.Prelude.{List, Bool, ℕ, zero, suc}
use Rattle.codec.specs.VInt.{vint_at, whole, value_of, next_of}

module _ (s : List ℕ) (e p : ℕ) where
  -- the place of the k-th VInt of those that start at p, below e
  unfoldable pub vint_place : ℕ → ℕ
  vint_place zero = p
  vint_place (suc k) = next_of (vint_place k) (vint_at s e (vint_place k))

  unfoldable pub vint_value : ℕ → ℕ
  unfolding vint_place
  vint_value k = value_of (vint_at s e (vint_place k))

  unfoldable pub vint_whole : ℕ → Bool
  unfolding vint_place
  vint_whole k = whole (vint_at s e (vint_place k))
