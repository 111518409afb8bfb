-- What the laws of one list's bytes take and give.
use mathlib.Core.Path.{◌≡◌}
use mathlib.Core.List.{List}
use Prim.Native.Nat.{ℕ, ◌+◌, ◌*◌, ◌/◌, ◌<◌}
use lib.ListN.{length}
use lib.Ieee.{Float}
use Rattle.pieces.specs.Inner.Written.{Stands}
use Rattle.notefile.specs.Header.{norm_code_of}
use Rattle.notefile.specs.Lists.{score_for, list_doc, list_freq}
use Rattle.notefile.specs.Inner.Given.{Limits, ListRight}
use Rattle.notefile.specs.declared.part.Part.{Part}
use Rattle.house.specs.House.{skips_bytes, postings_bytes}
use Rattle.house.specs.Form.{HouseList}

-- norm codes and scores of a list's postings are the file's
pub record Scored (s : List ℕ) (x : Part) (d f norm : ℕ → ℕ) (score : ℕ → Float) : Type 0 where
  pub limits : Limits x
  pub norm-is : (i : ℕ) → i < x.count → norm (d i) ≡ norm_code_of s (d i)
  pub norm-byte : (i : ℕ) → i < x.count → norm (d i) < 256
  pub score-is : (i : ℕ) → i < x.count → score i ≡ score_for x (norm (d i)) (f i)

-- the bytes of a list stand in its parts
pub record Laid (s : List ℕ) (x : Part) (d f norm : ℕ → ℕ) (score : ℕ → Float) : Type 0 where
  pub kind_0 : x.skip_entry_len ≡ 8
  pub skips-stand : Stands s x.skips (skips_bytes d f norm score (x.count / 128))
  pub then-postings : x.postings ≡ x.skips + 8 * (x.count / 128)
  pub postings-stand : Stands s x.postings (postings_bytes d f x.count)
  pub then-end : x.end ≡ x.postings + length (postings_bytes d f x.count)

-- a list that is accepted, in house form, and reads so
pub record Read (s : List ℕ) (x : Part) (d f : ℕ → ℕ) : Type 0 where
  pub right : ListRight s x
  pub form : HouseList s x
  pub docs-are : (i : ℕ) → i < x.count → list_doc s x i ≡ d i
  pub freqs-are : (i : ℕ) → i < x.count → list_freq s x i ≡ f i
