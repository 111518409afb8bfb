-- 01, The note file, on skip entries: one of kind 0, of a strict block.
use Rattle.std.specs.Prelude.{List, [], ◌∷◌, ℕ, ◌+◌}
use Rattle.pieces.specs.Bytes.{little_byte}

-- the last document little-endian; a byte with the documents' width and, in bit 6, that the block is strict; the frequencies' width; the
-- codes of the bound
abbrev pub skip_entry : ℕ → ℕ → ℕ → ℕ → ℕ → List ℕ
skip_entry last doc_bits freq_bits norm_code freq_code =
    little_byte last 0
    ∷ little_byte last 1
    ∷ little_byte last 2
    ∷ little_byte last 3
    ∷ (doc_bits + 64)
    ∷ freq_bits
    ∷ norm_code
    ∷ freq_code
    ∷ []
