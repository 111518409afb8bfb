-- Bytes written into lent memory, and pieces that stand in it.
use Rattle.std.specs.Prelude.{◌≡◌, List, ℕ, ◌+◌, ◌≤◌, ◌<◌, length, get_or}

-- n bytes are written from place p on, the k-th of them f k, and all others stay
pub record Written (before : List ℕ) (p n : ℕ) (f : ℕ → ℕ) (after : List ℕ) : Type 0 where
  pub long : length after ≡ length before
  pub inside : (k : ℕ) → k < n → get_or after (p + k) 0 ≡ f k
  pub below : (k : ℕ) → k < p → get_or after k 0 ≡ get_or before k 0
  pub past : (k : ℕ) → p + n ≤ k → get_or after k 0 ≡ get_or before k 0

-- a piece is written from place p on
pub record Put (before : List ℕ) (p : ℕ) (piece after : List ℕ) : Type 0 where
  pub written : Written before p (length piece) (λ k. get_or piece k 0) after

-- the bytes of a piece stand in s from place p on
pub record Stands (s : List ℕ) (p : ℕ) (piece : List ℕ) : Type 0 where
  pub at : (k : ℕ) → k < length piece → get_or s (p + k) 0 ≡ get_or piece k 0
