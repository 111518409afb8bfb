-- The bytes of a number, and bytes by their places.
use Rattle.std.specs.Prelude.{List, [], ◌∷◌, ◌++◌, ℕ, zero, suc, ◌-◌, ◌*◌, ◌/◌, ◌%◌, ◌^◌}

-- byte k of a number, the lowest first
abbrev pub little_byte : ℕ → ℕ → ℕ
little_byte v k = v / 2 ^ (8 * k) % 256

-- byte k of the n bytes of a number, the highest first
abbrev pub big_byte : ℕ → ℕ → ℕ → ℕ
big_byte n v k = v / 2 ^ (8 * (n - suc k)) % 256

-- n bytes, the k-th of them f k
unfoldable pub bytes_of : ℕ → (ℕ → ℕ) → List ℕ
bytes_of zero f = []
bytes_of (suc n) f = bytes_of n f ++ (f n ∷ [])
