-- 01, The note file, its first sentence: fields are bit-packed, most significant first. From their values to bytes.
use Rattle.std.specs.Prelude.{List, [], ◌∷◌, ℕ, ◌+◌, ◌*◌, ◌^◌}
use Rattle.pieces.specs.Bytes.{big_byte, bytes_of}

-- a field: its width in bits, and its value
pub record Field : Type 0 where
  pub width : ℕ
  pub value : ℕ

abbrev pub field : ℕ → ℕ → Field
field w v = record { width = w; value = v }

-- how many bits they have together
abbrev pub bits_of : List Field → ℕ
bits_of [] = 0
bits_of (f ∷ fs) = f.width + bits_of fs

-- the number that they make, the first highest
abbrev pub joined : List Field → ℕ
joined [] = 0
joined (f ∷ fs) = f.value * 2 ^ bits_of fs + joined fs

-- n bytes of fields
unfoldable pub field_bytes : ℕ → List Field → List ℕ
unfolding bytes_of
field_bytes n fs = bytes_of n (big_byte n (joined fs))

-- the header's sentence: version 1, norm kind, list count, norm code, documents, spare 0, average
abbrev pub header_fields : ℕ → ℕ → ℕ → ℕ → ℕ → List Field
header_fields kind lists code documents average =
    field 4 1 ∷ field 1 kind ∷ field 5 lists ∷ field 8 code ∷ field 21 documents ∷ field 1 0 ∷ field 32 average ∷ []

-- the entry's sentence: weight, document count, skip kind, skip length, postings length
abbrev pub entry_fields : ℕ → ℕ → ℕ → ℕ → ℕ → List Field
entry_fields weight count kind skips postings = field 32 weight ∷ field 21 count ∷ field 1 kind ∷ field 24 skips ∷ field 26 postings ∷ []
