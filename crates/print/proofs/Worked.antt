-- 01, One small file: its four lines, worked out by the definition.
use mathlib.Core.Path.{◌≡◌, refl}
use mathlib.Core.List.{[], ◌∷◌, ◌++◌}
use lib.Ieee.{add, mul, div, sub, round, of_int, le, lt, of_bits}
use Rattle.floats.specs.Step.{grid_f, step_down}
use Rattle.codec.specs.Bits.{bits_at}
use Rattle.codec.specs.VInts.{vint_place, vint_value, vint_whole}
use Rattle.codec.specs.VInt.{vint_at}
use Rattle.fieldnorm.specs.Code.{fieldnorm}
use Rattle.compression.specs.Documents.{doc_at}
use Rattle.bm25.specs.Score.{score_of}
use Rattle.bm25.specs.Limits.{average_ok}
use Rattle.notefile.specs.Header.{norm_code_of}
use Rattle.notefile.specs.Parts.{part_of}
use Rattle.notefile.specs.Lists.{block_score, list_bound}
use Rattle.notefile.specs.Conditions.{header_right, average_right, length_right, entry_right, skips_right, postings_right, block_docs_right, block_freqs_right, bounds_right}
use Rattle.notefile.specs.Refusal.{file_refusal}
use Rattle.decoded.specs.Lists.{list_of, queried}
use Rattle.request.specs.Request.{refusal_of}
use Rattle.cases.specs.Table.{small}
use Rattle.print_text.specs.Text.{decimal, reports_word, refused_word, newline}
use Rattle.print.specs.Printed.{printed}

-- `0` and `362477`
pub zero-digits : decimal 0 ≡ 48 ∷ []
unfolding decimal
zero-digits = refl

pub six-digits : decimal 362477 ≡ 51 ∷ 54 ∷ 50 ∷ 52 ∷ 55 ∷ 55 ∷ []
unfolding decimal
six-digits = refl

-- `reports 3`, `0 362477`, `1 724955`, `3 1262696`
pub small-printed : printed small ≡ reports_word ++ (51 ∷ 10
    ∷ 48 ∷ 32 ∷ 51 ∷ 54 ∷ 50 ∷ 52 ∷ 55 ∷ 55 ∷ 10
    ∷ 49 ∷ 32 ∷ 55 ∷ 50 ∷ 52 ∷ 57 ∷ 53 ∷ 53 ∷ 10
    ∷ 51 ∷ 32 ∷ 49 ∷ 50 ∷ 54 ∷ 50 ∷ 54 ∷ 57 ∷ 54 ∷ 10 ∷ [])
unfolding printed decimal refusal_of queried list_of step_down vint_at file_refusal header_right average_right length_right entry_right skips_right postings_right block_docs_right block_freqs_right bounds_right bits_at part_of vint_place vint_value vint_whole doc_at norm_code_of block_score list_bound average_ok score_of fieldnorm grid_f add mul div sub of_int round le lt of_bits
small-printed = refl

-- a file of no bytes: `refused 1`
pub none-printed : printed [] ≡ refused_word ++ (49 ∷ newline)
unfolding printed decimal refusal_of file_refusal header_right bits_at
none-printed = refl
