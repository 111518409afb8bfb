-- Worked examples of the definitions.
use mathlib.Core.Path.{◌≡◌, refl}
use mathlib.Core.List.{[], ◌∷◌}
use mathlib.Core.Bool.{true}
use Prim.Native.Nat.{ℕ}
use lib.ListN.{get_or}
use Rattle.encode.specs.ShortVInt.{short_vint}
use Rattle.encode.specs.Fields.{field_bytes, header_fields, entry_fields}
use Rattle.encode.specs.SkipEntry.{skip_entry}
use Rattle.encode.specs.Differences.{differ}

-- 128 is 00 81
pub short-128 : (short_vint 128 ≡ 0x00 ∷ 0x81 ∷ []) × (short_vint 127 ≡ 0xFF ∷ [])
unfolding short_vint
short-128 = (refl, refl)

pub short-largest : short_vint 4294967295 ≡ 0x7F ∷ 0x7F ∷ 0x7F ∷ 0x7F ∷ 0x8F ∷ []
unfolding short_vint
short-largest = refl

-- the header of the small file, and its first entry
pub small-header : field_bytes 9 (header_fields 1 2 1 4 0x41000000) ≡ 0x18 ∷ 0x80 ∷ 0x40 ∷ 0x00 ∷ 0x08 ∷ 0x41 ∷ 0x00 ∷ 0x00 ∷ 0x00 ∷ []
unfolding field_bytes
small-header = refl

pub small-entry
    : field_bytes 13 (entry_fields 0x447A0000 2 0 0 4)
    ≡ 0x44 ∷ 0x7A ∷ 0x00 ∷ 0x00 ∷ 0x00 ∷ 0x00 ∷ 0x10 ∷ 0x00 ∷ 0x00 ∷ 0x00 ∷ 0x00 ∷ 0x00 ∷ 0x04 ∷ []
unfolding field_bytes
small-entry = refl

-- a strict block's entry: last document 300, documents of 2 bits, frequencies of none, codes 7 and 1
pub one_entry : skip_entry 300 2 0 7 1 ≡ 0x2C ∷ 0x01 ∷ 0x00 ∷ 0x00 ∷ 0x42 ∷ 0x00 ∷ 0x07 ∷ 0x01 ∷ []
one_entry = refl

-- documents 3, 4 and 7 of a strict first block
abbrev docs : ℕ → ℕ
docs i = get_or (3 ∷ 4 ∷ 7 ∷ []) i 0

pub three-values : (differ docs true true 0 0 ≡ 3) × (differ docs true true 0 1 ≡ 0) × (differ docs true true 0 2 ≡ 2)
unfolding differ
three-values = (refl, refl, refl)
