-- The largest of a loaded tail's scores, by comparison; and bounds that are worked out before they are asked for.
use Rattle.std.specs.Prelude.{◌≡◌, List, ℕ, zero, suc, ◌+◌, ◌≤◌, ◌<◌, get_or, length, Float}
use Rattle.std.specs.Float.{nan}
use Rattle.floats.specs.Inner.Maximum.{larger}
use Rattle.route.specs.F32.{f32}
use Rattle.route.specs.Postings.{Postings}

-- the largest of `most` and the n values from place i
abbrev pub most_from : (ℕ → Float) → ℕ → ℕ → Float → Float
most_from f zero i most = most
most_from f (suc n) i most = most_from f n (suc i) (larger most (f i))

-- the largest of the first n values, or 0 where there is none
abbrev pub most_of : (ℕ → Float) → ℕ → Float
most_of f zero = f32.nil
most_of f (suc n) = most_from f n 1 (f 0)

-- from place `at` on a row has the bounds of the seven blocks from block b on, as far as they are full; its other cells are as they were
pub record BoundsAhead (l : Postings Float) (b at : ℕ) (bounds bounds' : List Float) : Type 0 where
  pub bound_at : (k : ℕ) → k < 7 → b + k < l.full → get_or bounds' (at + k) nan ≡ l.bound (b + k)
  pub below : (i : ℕ) → i < at → get_or bounds' i nan ≡ get_or bounds i nan
  pub behind : (i : ℕ) → at + 7 ≤ i → get_or bounds' i nan ≡ get_or bounds i nan
  pub long : length bounds' ≡ length bounds
