-- Where the house's bytes of a list stand in its parts, the list is accepted, in house form, and reads so.
use mathlib.Core.Path.{◌≡◌}
use mathlib.Core.Bool.{false}
use mathlib.Core.List.{List}
use Prim.Native.Nat.{ℕ, ◌<◌}
use lib.Ieee.{Float, lt}
use Rattle.notefile.specs.Header.{documents}
use Rattle.notefile.specs.Lists.{list_bound, list_doc, list_freq}
use Rattle.notefile.specs.Inner.Given.{ListRight}
use Rattle.notefile.specs.declared.part.Part.{Part}
use Rattle.house.specs.Form.{HouseList}
use Rattle.house.specs.Inner.Sound.{Sound}
use Rattle.house.proofs.Given.{Scored, Laid, Read}
use Rattle.house.proofs.ListSkips.{skips-right}
use Rattle.house.proofs.ListTail.{first-shortest, second-shortest, tail-rows, decodes, postings-right}
use Rattle.house.proofs.ListDecoded.{list-doc-back, list-freq-back}
use Rattle.house.proofs.ListRows.{docs-right, freqs-right, house-block, bounds-right}

module _ {s : List ℕ} {x : Part} {d f norm : ℕ → ℕ} {score : ℕ → Float} (S : Sound d f x.count (documents s))
    (C : Scored s x d f norm score) (L : Laid s x d f norm score) where
  -- rows 5 to 9
  pub list_right : ((i : ℕ) → i < x.count → lt (list_bound x) (score i) ≡ false) → ListRight s x
  list_right a = record {
    skips = skips-right S L;
    postings = postings-right S L;
    docs = docs-right S C L;
    freqs = freqs-right S C L;
    bounds = bounds-right S C L a;
  }

  pub docs-read : (i : ℕ) → i < x.count → list_doc s x i ≡ d i
  docs-read = list-doc-back S (decodes S L)

  pub freqs-read : (i : ℕ) → i < x.count → list_freq s x i ≡ f i
  freqs-read = list-freq-back S (decodes S L)

  pub house-list : HouseList s x
  house-list = record {
    blocks = house-block S C L;
    docs-shortest = first-shortest (tail-rows S L);
    freqs-shortest = second-shortest (tail-rows S L);
  }

-- all of it
pub list_back : (s : List ℕ) (x : Part) (d f norm : ℕ → ℕ) (score : ℕ → Float)
    → Sound d f x.count (documents s) → Scored s x d f norm score → Laid s x d f norm score
    → ((i : ℕ) → i < x.count → lt (list_bound x) (score i) ≡ false)
    → Read s x d f
list_back s x d f norm score S C L a = record {
  right = list_right S C L a;
  form = house-list S C L;
  docs-are = docs-read S C L;
  freqs-are = freqs-read S C L;
}
