-- Bit fields, most significant bit first, and little-endian words.
use Rattle.std.specs.Prelude.{List, ℕ, zero, suc, ◌+◌, ◌-◌, ◌*◌, ◌/◌, ◌%◌, ◌^◌, get_or}

-- bit i of the bytes: bit 0 is the top bit of the first byte
abbrev pub bit_at : List ℕ → ℕ → ℕ
bit_at s i = get_or s (i / 8) 0 / 2 ^ (7 - i % 8) % 2

-- the note file's first sentence, on fields: the w bits from bit p on, the first of them the highest
unfoldable pub bits_at : List ℕ → ℕ → ℕ → ℕ
bits_at s p zero = 0
bits_at s p (suc w) = bits_at s p w * 2 + bit_at s (p + w)

-- a u32 that stands little-endian at byte p
unfoldable pub word_at : List ℕ → ℕ → ℕ
word_at s p = get_or s p 0 + 256 * get_or s (p + 1) 0 + 65536 * get_or s (p + 2) 0 + 16777216 * get_or s (p + 3) 0
