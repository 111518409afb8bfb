-- The notes of the small file, by the finder's definitions (02, order 4).
use mathlib.Core.Path.{◌≡◌, refl}
use mathlib.Core.List.{List, [], ◌∷◌}
use Prim.Native.Nat.{ℕ}
use lib.Ieee.{Float, add, mul, div, sub, round, of_int, le, lt, of_bits}
use Rattle.floats.specs.Step.{grid_f, step_down}
use Rattle.codec.specs.Bits.{bits_at}
use Rattle.codec.specs.VInts.{vint_place, vint_value, vint_whole}
use Rattle.codec.specs.VInt.{vint_at}
use Rattle.fieldnorm.specs.Code.{fieldnorm}
use Rattle.route.specs.F32.{f32}
use Rattle.route.specs.Report.{Report}
use Rattle.route.specs.Plain.{union}
use Rattle.compression.specs.Documents.{doc_at}
use Rattle.bm25.specs.Score.{score_of}
use Rattle.bm25.specs.declared.Scoring.TheVariants.{Stepped}
use Rattle.best_notes.specs.Best.{best_of}
use Rattle.best_notes.specs.Matches.{matches}
use Rattle.notefile.specs.Header.{documents, norm_code_of}
use Rattle.notefile.specs.Parts.{part_of}
use Rattle.notefile.specs.Lists.{block_score, list_bound}
use Rattle.decoded.specs.Lists.{list_of, queried}
use Rattle.cases.specs.Table.{small}

-- a note with its score in 1/1024
abbrev note : ℕ → ℕ → Report Float
note d n = record { doc = d; score = grid_f n }

-- both lists' documents above a start
abbrev found : ℕ → List (Report Float)
found start = matches f32 union (queried Stepped small (0 ∷ 1 ∷ [])) (grid_f start) (documents small)

-- of three matches the two best, the best first
pub two-best : best_of f32 2 (found 0) ≡ note 3 1262696 ∷ note 1 724955 ∷ []
unfolding queried list_of step_down bits_at part_of vint_place vint_value vint_whole vint_at doc_at norm_code_of block_score list_bound score_of fieldnorm grid_f add mul div sub of_int round le lt of_bits
two-best = refl

-- a score that equals the start is not above it: fewer than k, and so all
pub above-a-score : best_of f32 2 (found 724955) ≡ note 3 1262696 ∷ []
unfolding queried list_of step_down bits_at part_of vint_place vint_value vint_whole vint_at doc_at norm_code_of block_score list_bound score_of fieldnorm grid_f add mul div sub of_int round le lt of_bits
above-a-score = refl
