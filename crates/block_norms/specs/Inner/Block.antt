-- What the loops over the documents of a block's 128 postings leave.
use Rattle.std.specs.Prelude.{Bool, List, ℕ, leb, get_or, Float}
use Rattle.std.specs.Float.{nan}
use Rattle.arrays.specs.Every.{every}
use Rattle.arrays.specs.Inner.Holds.{Holds}
use Rattle.fieldnorm.specs.Reader.{fieldnorm_id}
use Rattle.fieldnorm.specs.declared.FieldNormReader.{FieldNormReader}

-- each posting's norm: the cache's at its document's norm code
abbrev pub Gathered : FieldNormReader → List ℕ → List Float → List ℕ → List Float → Type 0
Gathered reader file cache docs out = Holds nan 128 (λ i. get_or cache (fieldnorm_id reader file (get_or docs i 0)) nan) out

-- none of a block's numbers is over a limit
unfoldable pub all_at_most : ℕ → List ℕ → Bool
all_at_most limit xs = every 128 (λ i. leb (get_or xs i 0) limit)
