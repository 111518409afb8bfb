-- One list of an accepted file, by its part.
use Rattle.std.specs.Prelude.{◌≡◌, cond, List, ℕ, ◌+◌, ◌≤◌, ltb}
use Rattle.std.proofs.Math.Path.{refl}
use Rattle.arrays.specs.Inner.Holds.{Holds}
use Rattle.route.specs.Postings.{start, doc_at}
use Rattle.bm25.specs.declared.Scoring.{Scoring}
use Rattle.notefile.specs.Header.{documents}
use Rattle.notefile.specs.Lists.{list_doc, list_freq}
use Rattle.notefile.specs.Inner.Reads.{docs_of, freqs_of}
use Rattle.notefile.specs.Inner.Given.{BlocksIn, Limits, ListRight}
use Rattle.notefile.specs.declared.part.Part.{Part}
use Rattle.decoded.specs.Lists.{list_of}

module _ (file : List ℕ) (x : Part) where
  -- the document and the frequency at place p; a decoded block is filled up with TERMINATED
  abbrev pub doc_in : ℕ → ℕ
  doc_in p = cond (ltb p x.count) (list_doc file x p) 2147483647

  abbrev pub freq_in : ℕ → ℕ
  freq_in p = cond (ltb p x.count) (list_freq file x p) 2147483647

  -- which is the route's document there
  pub doc-is : (scoring : Scoring) (p : ℕ) → doc_at (list_of scoring file x) p ≡ doc_in p
  unfolding list_of
  doc-is scoring p = refl

-- block b decoded, from its first place on
pub record Decoded (file : List ℕ) (x : Part) (b : ℕ) (block : List (List ℕ)) : Type 0 where
  pub docs-are : Holds 0 128 (λ i. doc_in file x (start 128 b + i)) (docs_of block)
  pub freqs-are : Holds 0 128 (λ i. freq_in file x (start 128 b + i)) (freqs_of block)

-- what acceptance gives of a list
pub record ListIn (file : List ℕ) (x : Part) : Type 0 where
  pub blocks : BlocksIn file x
  pub right : ListRight file x
  pub limits : Limits x
  pub few : documents file ≤ 1048576
