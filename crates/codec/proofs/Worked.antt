-- Worked examples of the definitions.
use mathlib.Core.Path.{◌≡◌, refl}
use mathlib.Core.List.{[], ◌∷◌}
use Rattle.codec.specs.Bits.{bits_at}
use Rattle.codec.specs.VInt.{vint_at}
use Rattle.std.proofs.Common.{Some}

-- the first two bytes of the small file: version 1, kind 1, 2 lists
pub small-header : (bits_at (0x18 ∷ 0x80 ∷ []) 0 4 ≡ 1) × (bits_at (0x18 ∷ 0x80 ∷ []) 4 1 ≡ 1) × (bits_at (0x18 ∷ 0x80 ∷ []) 5 5 ≡ 2)
unfolding bits_at
small-header = (refl, refl, refl)

-- case (k): 00 81 is 128
pub case-k : vint_at (0x00 ∷ 0x81 ∷ []) 2 0 ≡ Some (128, 2)
unfolding vint_at
case-k = refl
