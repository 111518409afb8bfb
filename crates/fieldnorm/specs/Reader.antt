-- 01, The note file, the norm kind: kind 0 has a byte for each document, kind 1 one code for all.
use Rattle.std.specs.Prelude.{List, ℕ, ◌+◌, get_or}
use Rattle.fieldnorm.specs.declared.FieldNormReader.{FieldNormReader}
use Rattle.fieldnorm.specs.declared.FieldNormReader.TheVariants.{FromData, Const}

-- document d's norm code, in a file
abbrev pub fieldnorm_id : FieldNormReader → List ℕ → ℕ → ℕ
fieldnorm_id (FromData start) file d = get_or file (start + d) 0
fieldnorm_id (Const code) file d = code
