-- What packing asks of a block.
use Rattle.std.specs.Prelude.{◌≡◌, List, ℕ, ◌^◌, ◌≤◌, ◌<◌, length, get_or}

-- 128 values that fit a width
pub record Fitting (vs : List ℕ) (w : ℕ) : Type 0 where
  pub long : length vs ≡ 128
  pub widths : w ≤ 32
  pub each : (i : ℕ) → i < 128 → get_or vs i 0 < 2 ^ w
