-- Two pieces that are written in turn.
use Rattle.std.specs.Prelude.{◌≡◌, List, ℕ, ◌+◌, ◌≤◌, ◌<◌, length, get_or}
use Rattle.pieces.specs.Inner.Written.{Stands}

-- x is written from place p on and y from place q on, behind it; all other bytes stay
pub record TwoPieces (before : List ℕ) (p : ℕ) (x : List ℕ) (q : ℕ) (y after : List ℕ) : Type 0 where
  pub long : length after ≡ length before
  pub apart : p + length x ≤ q
  pub first : Stands after p x
  pub second : Stands after q y
  pub below : (k : ℕ) → k < p → get_or after k 0 ≡ get_or before k 0
  pub between : (k : ℕ) → p + length x ≤ k → k < q → get_or after k 0 ≡ get_or before k 0
  pub past : (k : ℕ) → q + length y ≤ k → get_or after k 0 ≡ get_or before k 0
