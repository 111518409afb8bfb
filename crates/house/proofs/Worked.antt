-- 01's small file is the house file of its contents.
use mathlib.Core.Path.{◌≡◌, refl}
use mathlib.Core.List.{[], ◌∷◌}
use lib.Ieee.{binary32, of_bits, to_bits, le, round, of_int}
use Rattle.bm25.specs.Limits.{average_ok}
use Rattle.encode.specs.Fields.{field_bytes}
use Rattle.encode.specs.ShortVInt.{short_vint, vint_row}
use Rattle.encode.specs.Differences.{differ}
use Rattle.pieces.specs.Bytes.{bytes_of}
use Rattle.contents.specs.Contents.{Contents, handed, list_at, doc_of, freq_of}
use Rattle.contents.specs.Refusal.{head_right, buffers_right, contents_refusal}
use Rattle.house.specs.House.{doc_differ, house_file}

-- norm code 1, average 8, weights 1,000 and 500; documents 1 and 3 with frequencies 1 and 3, documents 0 and 3 with 1 and 1
abbrev small : Contents
small =
    handed 4 1 1 [] (of_bits binary32 0x41000000) (of_bits binary32 0x447A0000 ∷ of_bits binary32 0x43FA0000 ∷ []) (2 ∷ 2 ∷ []) (1 ∷ 3 ∷ 0 ∷ 3 ∷ []) (1 ∷ 3 ∷ 1 ∷ 1 ∷ [])

pub small-file : house_file small
    ≡ 0x18 ∷ 0x80 ∷ 0x40 ∷ 0x00 ∷ 0x08 ∷ 0x41 ∷ 0x00 ∷ 0x00 ∷ 0x00
    ∷ 0x44 ∷ 0x7A ∷ 0x00 ∷ 0x00 ∷ 0x00 ∷ 0x00 ∷ 0x10 ∷ 0x00 ∷ 0x00 ∷ 0x00 ∷ 0x00 ∷ 0x00 ∷ 0x04
    ∷ 0x43 ∷ 0xFA ∷ 0x00 ∷ 0x00 ∷ 0x00 ∷ 0x00 ∷ 0x10 ∷ 0x00 ∷ 0x00 ∷ 0x00 ∷ 0x00 ∷ 0x00 ∷ 0x04
    ∷ 0x81 ∷ 0x82 ∷ 0x81 ∷ 0x83 ∷ 0x80 ∷ 0x83 ∷ 0x81 ∷ 0x81 ∷ []
unfolding house_file doc_differ differ field_bytes bytes_of vint_row short_vint list_at doc_of freq_of to_bits of_bits
small-file = refl

-- a document too many in the buffer is refused, though the file of the counted ones is there: so acceptance of the file alone tells nothing
abbrev more : Contents
more =
    handed 4 1 1 [] (of_bits binary32 0x41000000) (of_bits binary32 0x447A0000 ∷ of_bits binary32 0x43FA0000 ∷ []) (2 ∷ 2 ∷ [])
    (1 ∷ 3 ∷ 0 ∷ 3 ∷ 3 ∷ []) (1 ∷ 3 ∷ 1 ∷ 1 ∷ [])

pub one-too-many : (house_file more ≡ house_file small) × (contents_refusal more ≡ 3)
unfolding house_file doc_differ differ field_bytes bytes_of vint_row short_vint list_at doc_of freq_of to_bits of_bits contents_refusal head_right buffers_right average_ok le round of_int
one-too-many = (refl, refl)
