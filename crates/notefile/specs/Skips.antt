-- 01, The note file, on skip entries: one for each full block.
use Rattle.std.specs.Prelude.{Bool, List, ℕ, ◌+◌, ◌-◌, ◌*◌, ◌/◌, ◌%◌, eqb, get_or}
use Rattle.codec.specs.Bits.{word_at}
use Rattle.notefile.specs.declared.part.Part.{Part}

-- the place of block b's skip entry
abbrev pub skip_entry_at : Part → ℕ → ℕ
skip_entry_at x b = x.skips + x.skip_entry_len * b

module _ (file : List ℕ) (x : Part) where
  -- its last document comes first, as a little-endian u32
  abbrev pub last_doc : ℕ → ℕ
  last_doc b = word_at file (skip_entry_at x b)

  -- then a byte with the documents' width and, in bit 6, whether the block is strict
  abbrev pub width_byte : ℕ → ℕ
  width_byte b = get_or file (skip_entry_at x b + 4) 0

  abbrev pub doc_width : ℕ → ℕ
  doc_width b = width_byte b % 32

  abbrev pub strict_block : ℕ → Bool
  strict_block b = eqb (width_byte b / 64 % 2) 1

  -- then the frequencies' width
  abbrev pub freq_width : ℕ → ℕ
  freq_width b = get_or file (skip_entry_at x b + 5) 0

  -- its last two bytes are the codes of the bound; what kind 1 has before them is not looked at
  abbrev pub max_norm_code : ℕ → ℕ
  max_norm_code b = get_or file (skip_entry_at x b + x.skip_entry_len - 2) 0

  abbrev pub max_freq_code : ℕ → ℕ
  max_freq_code b = get_or file (skip_entry_at x b + x.skip_entry_len - 1) 0
