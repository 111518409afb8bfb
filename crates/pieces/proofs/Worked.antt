-- Worked examples of the definitions.
use mathlib.Core.Path.{◌≡◌, refl}
use mathlib.Core.List.{[], ◌∷◌}
use Rattle.pieces.specs.Bytes.{little_byte, big_byte, bytes_of}

-- the four bytes of 0x01020304, the lowest first and the highest first
pub low_first : bytes_of 4 (little_byte 0x01020304) ≡ 0x04 ∷ 0x03 ∷ 0x02 ∷ 0x01 ∷ []
unfolding bytes_of
low_first = refl

pub high-first : bytes_of 4 (big_byte 4 0x01020304) ≡ 0x01 ∷ 0x02 ∷ 0x03 ∷ 0x04 ∷ []
unfolding bytes_of
high-first = refl
