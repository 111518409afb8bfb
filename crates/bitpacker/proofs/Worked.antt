-- Worked examples of the definitions.
use mathlib.Core.Path.{◌≡◌, refl}
use mathlib.Core.List.{[], ◌∷◌}
use Rattle.bitpacker.specs.Packed.{bit_place, lane_of, packed_at}

-- value 6 of width 20 stands in lane 2, above the one value of 20 bits that the lane has already
pub sixth-lane : lane_of 6 ≡ 2
sixth-lane = refl

pub sixth-place : bit_place 20 6 ≡ 20
sixth-place = refl

-- of width 20 the second value of lane 0 has its low 12 bits at the top of one word, and its high 8 in the word 16 bytes on
pub second-value : packed_at (0x00 ∷ 0x00 ∷ 0xF0 ∷ 0xFF ∷ 0 ∷ 0 ∷ 0 ∷ 0 ∷ 0 ∷ 0 ∷ 0 ∷ 0 ∷ 0 ∷ 0 ∷ 0 ∷ 0 ∷ 0xAB ∷ []) 0 20 4 ≡ 0xABFFF
unfolding packed_at
second-value = refl
