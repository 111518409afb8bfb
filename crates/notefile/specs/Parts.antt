-- 01, The note file, on entries and parts. Places are bytes of the whole file, and lengths are bytes.
use Rattle.std.specs.Prelude.{cond, List, ℕ, zero, suc, ◌+◌, ◌*◌, eqb}
use Rattle.codec.specs.Bits.{bits_at}
use Rattle.notefile.specs.Header.{header_length, entry_length, norm_kind, documents, average_bits, norms_at}
use Rattle.notefile.specs.declared.part.Part.{Part}

-- the place of list l's entry
abbrev pub entry_at : ℕ → ℕ
entry_at l = header_length + entry_length * l

module _ (file : List ℕ) where
  -- the entry's sentence: fields of 32, 21, 1, 24 and 26 bits, one after another
  abbrev pub weight_bits : ℕ → ℕ
  weight_bits l = bits_at file (8 * entry_at l) 32

  abbrev pub document_count : ℕ → ℕ
  document_count l = bits_at file (8 * entry_at l + 32) 21

  abbrev pub skip_kind : ℕ → ℕ
  skip_kind l = bits_at file (8 * entry_at l + 53) 1

  abbrev pub skip_length : ℕ → ℕ
  skip_length l = bits_at file (8 * entry_at l + 54) 24

  abbrev pub postings_length : ℕ → ℕ
  postings_length l = bits_at file (8 * entry_at l + 78) 26

  -- the norm bytes: one for each document under kind 0, none under kind 1
  abbrev pub norms_length : ℕ
  norms_length = cond (eqb (norm_kind file) 0) (documents file) 0

  -- the parts after these: each list has its skip bytes and then its postings. This is where list l's start; for l the list count, where
  -- the file ends
  unfoldable pub skips_at : ℕ → ℕ
  skips_at zero = norms_at file + norms_length
  skips_at (suc l) = skips_at l + skip_length l + postings_length l

  -- list l's entry and parts, as the code has them; a skip entry has 8 bytes, or 12 for skip kind 1
  unfoldable pub part_of : ℕ → Part
  unfolding skips_at
  part_of l = record {
    weight = weight_bits l;
    average = average_bits file l;
    count = document_count l;
    skip_entry_len = 8 + 4 * skip_kind l;
    skips = skips_at l;
    postings = skips_at l + skip_length l;
    end = skips_at (suc l);
  }
