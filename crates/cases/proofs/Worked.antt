-- The small file is accepted, and case (i), one byte of it changed, is 9.
use mathlib.Core.Path.{◌≡◌, refl}
use lib.ListN.{set}
use lib.Ieee.{add, mul, div, sub, round, of_int, le, lt, of_bits}
use Rattle.codec.specs.Bits.{bits_at}
use Rattle.codec.specs.VInts.{vint_place, vint_value, vint_whole}
use Rattle.codec.specs.VInt.{vint_at}
use Rattle.fieldnorm.specs.Code.{fieldnorm}
use Rattle.compression.specs.Documents.{doc_at}
use Rattle.bm25.specs.Score.{score_of}
use Rattle.bm25.specs.Limits.{average_ok}
use Rattle.notefile.specs.Header.{norm_code_of}
use Rattle.notefile.specs.Parts.{part_of}
use Rattle.notefile.specs.Lists.{block_score, list_bound}
use Rattle.notefile.specs.Conditions.{header_right, average_right, length_right, entry_right, skips_right, postings_right, block_docs_right, block_freqs_right, bounds_right}
use Rattle.notefile.specs.Refusal.{file_refusal}
use Rattle.cases.specs.Table.{small}

pub small-accepted : file_refusal small ≡ 0
unfolding file_refusal header_right average_right length_right entry_right skips_right postings_right block_docs_right block_freqs_right bounds_right bits_at part_of vint_place vint_value vint_whole vint_at doc_at norm_code_of block_score list_bound average_ok score_of fieldnorm add mul div sub of_int round le lt of_bits
small-accepted = refl

pub case-i : file_refusal (set small 38 0x84) ≡ 9
unfolding file_refusal header_right average_right length_right entry_right skips_right postings_right block_docs_right block_freqs_right bounds_right bits_at part_of vint_place vint_value vint_whole vint_at doc_at norm_code_of block_score list_bound average_ok score_of fieldnorm add mul div sub of_int round le lt of_bits
case-i = refl
