-- Slices of bytes as lists.
use Rattle.std.specs.Prelude.{List, ℕ, ◌<◌, get_or}

-- what a slice of bytes is as a list: each element is below 256
abbrev pub Bytes : List ℕ → Type 0
Bytes file = (i : ℕ) → get_or file i 0 < 256
