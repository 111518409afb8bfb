-- What taking differences asks, and what it leaves.
use Rattle.std.specs.Prelude.{◌≡◌, List, Bool, ℕ, ◌+◌, ◌≤◌, ◌<◌, length, get_or}
use Rattle.compression.specs.Documents.{gap_of}
use Rattle.encode.specs.Differences.{floor_at}

-- each of n documents lies above the one before it, if strict, or not below it; and 1 more fits 32 bits
pub record Rising (d : ℕ → ℕ) (strict first : Bool) (previous n : ℕ) : Type 0 where
  pub floors : (i : ℕ) → i < n → floor_at d strict first previous i ≤ d i
  pub small : (i : ℕ) → i < n → d i + gap_of strict < 4294967296

-- n values in front, and the others as they were
pub record Fronted (f : ℕ → ℕ) (n : ℕ) (before after : List ℕ) : Type 0 where
  pub long : length after ≡ 128
  pub values : (i : ℕ) → i < n → get_or after i 0 ≡ f i
  pub kept : (i : ℕ) → n ≤ i → get_or after i 0 ≡ get_or before i 0
