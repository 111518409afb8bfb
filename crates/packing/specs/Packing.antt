-- 01, The note file, on packed blocks: from 128 values to their bytes.
use Rattle.std.specs.Prelude.{List, ℕ, zero, suc, ◌+◌, ◌*◌, ◌/◌, ◌%◌, ◌^◌, get_or}
use Rattle.pieces.specs.Bytes.{bytes_of}

-- k values of w bits, one above the other, the first lowest
unfoldable pub stacked : ℕ → ℕ → (ℕ → ℕ) → ℕ
stacked w zero f = 0
stacked w (suc k) f = stacked w k f + 2 ^ (k * w) * f k

-- lane n as one number: value i of 128 is in lane i mod 4, so the lane's are each fourth
unfoldable pub lane_number : List ℕ → ℕ → ℕ → ℕ
unfolding stacked
lane_number vs w n = stacked w 32 (λ j. get_or vs (4 * j + n) 0)

-- word m of lane n stands little-endian at byte 16m + 4n: so byte b is byte b mod 4 of word b / 16 of lane (b / 4) mod 4
unfoldable pub packed_byte : List ℕ → ℕ → ℕ → ℕ
unfolding lane_number
packed_byte vs w b = lane_number vs w (b / 4 % 4) / 2 ^ (32 * (b / 16) + 8 * (b % 4)) % 256

-- the block: 16 bytes for a bit of width
unfoldable pub packed_block : List ℕ → ℕ → List ℕ
unfolding packed_byte bytes_of
packed_block vs w = bytes_of (16 * w) (packed_byte vs w)
