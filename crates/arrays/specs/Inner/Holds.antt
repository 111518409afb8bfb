-- An array by its elements.
use Rattle.std.specs.Prelude.{◌≡◌, List, ℕ, ◌<◌, length, get_or}

-- xs has N elements, f i at each i; d is what `get_or` says past the end
pub record Holds {A : Type 0} (d : A) (N : ℕ) (f : ℕ → A) (xs : List A) : Type 0 where
  pub long : length xs ≡ N
  pub at : (i : ℕ) → i < N → get_or xs i d ≡ f i
