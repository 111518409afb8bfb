-- Worked examples of the definitions.
use mathlib.Core.Path.{◌≡◌, refl}
use mathlib.Core.List.{List, [], ◌∷◌}
use Prim.Native.Nat.{ℕ}
use Rattle.packing.specs.Packing.{packed_byte}
use Rattle.packing.specs.Width.{least_width}

-- of width 20 the second value of lane 0 has its low 12 bits at the top of one word, and its high 8 in the word 16 bytes on
abbrev block : List ℕ
block = 0 ∷ 0 ∷ 0 ∷ 0 ∷ 0xABFFF ∷ []

pub second-value : (packed_byte block 20 2 ≡ 0xF0) × (packed_byte block 20 3 ≡ 0xFF) × (packed_byte block 20 16 ≡ 0xAB)
unfolding packed_byte
second-value = (refl, refl, refl)

-- 0 for zeros alone, and 3 where a value is 5
pub least-three : (least_width (0 ∷ 0 ∷ []) ≡ 0) × (least_width (1 ∷ 5 ∷ 4 ∷ []) ≡ 3)
unfolding least_width
least-three = (refl, refl)
