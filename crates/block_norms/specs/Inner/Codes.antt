-- Norm codes that stand in a file.
use Rattle.std.specs.Prelude.{◌≡◌, List, ℕ, ◌+◌, ◌<◌, length, get_or}
use Rattle.fieldnorm.specs.Reader.{fieldnorm_id}
use Rattle.fieldnorm.specs.declared.FieldNormReader.{FieldNormReader}
use Rattle.block_norms.specs.declared.Codes.{Codes}

-- the code of each of the first `count` documents stands in the file, from `start` on
pub record CodesIn (reader : FieldNormReader) (file : List ℕ) (codes : Codes) : Type 0 where
  pub inside : (d : ℕ) → d < codes.count → codes.start + d < length file
  pub code_is : (d : ℕ) → d < codes.count → fieldnorm_id reader file d ≡ get_or file (codes.start + d) 0

-- every document of a block is one of the first n
abbrev pub Below : ℕ → List ℕ → Type 0
Below n docs = (i : ℕ) → i < 128 → get_or docs i 0 < n

-- each document of a block may be asked for its place in the cache, which has 256
pub record Places (pre : ℕ → Type 0) (post : ℕ → ℕ → Type 0) (docs : List ℕ) : Type 0 where
  pub may : (i : ℕ) → i < 128 → pre (get_or docs i 0)
  pub inside : (i : ℕ) → i < 128 → (x : ℕ) → post (get_or docs i 0) x → x < 256

-- that place is its code
abbrev pub ByCode : (ℕ → ℕ) → (ℕ → ℕ → Type 0) → List ℕ → Type 0
ByCode code post docs = (i : ℕ) → i < 128 → (x : ℕ) → post (get_or docs i 0) x → x ≡ code (get_or docs i 0)
