-- Values of 32 bits, and all their bits together.
use Rattle.std.specs.Prelude.{◌≡◌, ℕ, zero, suc, ◌+◌, ◌-◌, ◌%◌, ◌^◌, ◌<◌}
use Rattle.std.specs.Int.Count.{count_leading_zeros}
use Rattle.pieces.specs.Bytes.{bytes_of}
use Rattle.packing.specs.Width.{least_width}

-- a - b modulo 2^32
abbrev pub behind : ℕ → ℕ → ℕ
behind a b = (a + 4294967296 - b) % 4294967296

-- a block's documents by their steps: each less the one before it and 1, the first less `base`
unfoldable pub steps : (ℕ → ℕ) → ℕ → ℕ → ℕ
steps d base zero = behind (d 0) base
steps d base (suc i) = behind (d (suc i)) (d i + 1)

-- frequencies, each less 1
unfoldable pub less_one : (ℕ → ℕ) → ℕ → ℕ
less_one f i = behind (f i) 1

-- a number below the same powers of 2 as all of 128 values: its bits are as many as their least width
pub record Joint (f : ℕ → ℕ) (all : ℕ) : Type 0 where
  pub width : 32 - count_leading_zeros 32 all ≡ least_width (bytes_of 128 f)
  pub each : (u : ℕ) → all < 2 ^ u → (i : ℕ) → i < 128 → f i < 2 ^ u
  pub below : (u : ℕ) → ((i : ℕ) → i < 128 → f i < 2 ^ u) → all < 2 ^ u
