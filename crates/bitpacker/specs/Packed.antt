-- A packed block of 128 values, at any width.
use Rattle.std.specs.Prelude.{List, ℕ, zero, suc, ◌+◌, ◌*◌, ◌/◌, ◌%◌, ◌^◌}
use Rattle.codec.specs.Bits.{word_at}

-- where a packed block's words stand: a lane's follow each other 16 bytes apart. This is its first k words from place p on as one number,
-- the first word lowest
unfoldable pub lane_at : ℕ → List ℕ → ℕ → ℕ
unfolding word_at
lane_at zero s p = 0
lane_at (suc k) s p = word_at s p + 2 ^ 32 * lane_at k s (p + 16)

-- value i goes to lane i mod 4
abbrev pub lane_of : ℕ → ℕ
lane_of i = i % 4

-- above the i / 4 values of width w that the lane has already: so many bits are below it
abbrev pub bit_place : ℕ → ℕ → ℕ
bit_place w i = i / 4 * w

-- where a block's values stand: a lane starts 4 bytes after the lane before it; at place p, of width w
unfoldable pub packed_at : List ℕ → ℕ → ℕ → ℕ → ℕ
unfolding lane_at
packed_at s p w i = lane_at w s (p + 4 * lane_of i) / 2 ^ bit_place w i % 2 ^ w
