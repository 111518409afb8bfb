-- Norm codes that stand in a file: what their places say of the documents' codes.
use mathlib.Core.Path.{sym, ap, ◌∙◌}
use mathlib.Core.List.{List}
use Prim.Native.Nat.{ℕ, ◌+◌}
use lib.ListN.{get_or}
use lib.Ieee.{Float, nan}
use Rattle.arrays.specs.Inner.Holds.{Holds}
use Rattle.fieldnorm.specs.declared.FieldNormReader.{FieldNormReader}
use Rattle.block_norms.specs.Inner.Block.{Gathered}
use Rattle.block_norms.specs.Inner.Codes.{Below, CodesIn}
use Rattle.block_norms.specs.declared.Codes.{Codes}

-- the norms at the codes in the file are the documents'
pub gathered : (reader : FieldNormReader) (file : List ℕ) (codes : Codes) (cache : List Float) (docs : List ℕ) (out : List Float) → CodesIn reader file codes
    → Below codes.count docs → Holds nan 128 (λ i. get_or cache (get_or file (codes.start + get_or docs i 0) 0) nan) out → Gathered reader file cache docs out
gathered reader file codes cache docs out I B H =
    record { long = H.long; at = λ i l. H.at i l ∙ ap (λ (z : ℕ). get_or cache z nan) (sym (I.code_is (get_or docs i 0) (B i l))) }
