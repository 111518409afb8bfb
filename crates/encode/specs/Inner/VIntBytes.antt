-- Shortest VInts by their bytes.
use Rattle.std.specs.Prelude.{ℕ, length, get_or}
use Rattle.encode.specs.ShortVInt.{short_vint, vint_row}

abbrev pub vint_length : ℕ → ℕ
vint_length v = length (short_vint v)

abbrev pub vint_byte : ℕ → ℕ → ℕ
vint_byte v k = get_or (short_vint v) k 0

abbrev pub row_length : ℕ → (ℕ → ℕ) → ℕ
row_length n v = length (vint_row n v)

abbrev pub row_byte : ℕ → (ℕ → ℕ) → ℕ → ℕ
row_byte n v k = get_or (vint_row n v) k 0
