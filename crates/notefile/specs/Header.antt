-- 01, The note file, on the header: its fields, and the figures that another version of the layout may move.
use Rattle.std.specs.Prelude.{Bool, true, false, List, ℕ, ◌+◌, ◌*◌, eqb}
use Rattle.codec.specs.Bits.{bits_at}
use Rattle.fieldnorm.specs.Reader.{fieldnorm_id}
use Rattle.fieldnorm.specs.declared.FieldNormReader.{FieldNormReader}
use Rattle.fieldnorm.specs.declared.FieldNormReader.TheVariants.{FromData, Const}

-- the header's bytes, which are the least that a file has
abbrev pub header_length : ℕ
header_length = 9

-- the bytes of a list's entry
abbrev pub entry_length : ℕ
entry_length = 13

-- the version that this layout has
abbrev pub version_here : ℕ
version_here = 1

module _ (file : List ℕ) where
  -- the header's sentence: fields of 4, 1, 5, 8, 21, 1 and 32 bits, one after another
  abbrev pub version : ℕ
  version = bits_at file 0 4

  abbrev pub norm_kind : ℕ
  norm_kind = bits_at file 4 1

  abbrev pub list_count : ℕ
  list_count = bits_at file 5 5

  abbrev pub norm_code : ℕ
  norm_code = bits_at file 10 8

  abbrev pub documents : ℕ
  documents = bits_at file 18 21

  abbrev pub spare : ℕ
  spare = bits_at file 39 1

  -- the average field length of list l, as bits: one for all of them
  abbrev pub average_bits : ℕ → ℕ
  average_bits l = bits_at file 40 32

  -- the place after the entries, where norm bytes stand if there are any
  abbrev pub norms_at : ℕ
  norms_at = header_length + entry_length * list_count

  -- kind 0 has a byte for each document, kind 1 one code for all
  abbrev pub reader_of : Bool → FieldNormReader
  reader_of true = FromData norms_at
  reader_of false = Const norm_code

  unfoldable pub norm_reader : FieldNormReader
  norm_reader = reader_of (eqb norm_kind 0)

  -- document d's norm code
  unfoldable pub norm_code_of : ℕ → ℕ
  unfolding norm_reader
  norm_code_of d = fieldnorm_id norm_reader file d
