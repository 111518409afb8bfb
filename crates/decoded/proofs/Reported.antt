-- The reports over an accepted file, in both scorings and every mode: at most 1,048,576, and each score an f32 of clear sign.
use mathlib.Core.Path.{◌≡◌}
use mathlib.Core.List.{List}
use Prim.Native.Nat.{ℕ, ◌≤◌, ◌<◌}
use native.Mathlib.Omega.{arith}
use lib.Dec.{T}
use lib.ListN.{length}
use lib.Ieee.{Float, binary32, fits}
use lib.Ieee.Fits.{add-fits}
use Rattle.floats.specs.Inner.Sign.{clear}
use Rattle.floats.proofs.Number.{add-clear, within-clear}
use Rattle.arrays.specs.Every.{All}
use Rattle.route.specs.F32.{f32}
use Rattle.route.specs.Report.{Report}
use Rattle.route.specs.Rule.{Rule}
use Rattle.route.specs.Postings.{Postings}
use Rattle.route.specs.Plain.{Mode, plain}
use Rattle.route.specs.Skipping.{Skips}
use Rattle.route.specs.Inner.Lists.{ListOk}
use Rattle.route.proofs.ListLaws.{Scored}
use Rattle.route.proofs.Onward.{Summed}
use Rattle.route.proofs.Reports.{plain-few, plain-scores, skips-few, skips-scores}
use Rattle.bm25.specs.Scoring.{scored}
use Rattle.bm25.specs.declared.Scoring.{Scoring}
use Rattle.bm25.proofs.Bounds.{score-fits, scored-fits, scored-within}
use Rattle.notefile.specs.Header.{list_count, documents}
use Rattle.notefile.specs.Parts.{part_of}
use Rattle.notefile.specs.Lists.{block_score, list_score, score_for}
use Rattle.notefile.specs.Refusal.{file_refusal}
use Rattle.notefile.proofs.Accepted.{list-accepted, header-right}
use Rattle.notefile.proofs.Headers.{few-documents}
use Rattle.decoded.specs.Lists.{list_of, postings_of, queried}
use Rattle.decoded.specs.Inner.Bytes.{Bytes}
use Rattle.decoded.proofs.AcceptedLists.{list-ok, list-score-in, queried-all}

-- an f32 of clear sign, finite or infinite: sums of such values never are a NaN
abbrev pub Number : Float → Type 0
Number x = T (clear x) × T (fits binary32 x)

clear-summed : Summed f32 Number
unfolding fits
clear-summed = record { nil-has = (tt, tt); add-has = λ x y a b. (add-clear x y a.0 b.0, add-fits binary32 x y) }

module _ (scoring : Scoring) (file : List ℕ) (bytes : Bytes file) (accepted : file_refusal file ≡ 0) where
  few : documents file ≤ 1048576
  few = few-documents file (header-right file accepted)

  list-clear : (l : ℕ) → l < list_count file → Scored Number (postings_of scoring file l)
  unfolding list_of block_score score_for
  list-clear l h i k =
      let x = list_score file (part_of file l) i in
      (within-clear 1000 (scored scoring x) (scored-within scoring x (list-score-in file bytes accepted l h i k)), scored-fits scoring x (score-fits _ _ _ _))

  module _ (query : List ℕ) (named : All (λ l. l < list_count file) query) (m : Mode) (rule : Rule Float) (start : Float) where
    abbrev lists : List (Postings Float)
    lists = queried scoring file query

    all-ok : All (ListOk 128 (documents file)) lists
    all-ok =
        queried-all scoring file (ListOk 128 (documents file)) (λ l h. list-ok scoring file (part_of file l) (list-accepted file accepted l h) few)
        query named

    all-clear : All (Scored Number) lists
    all-clear = queried-all scoring file (Scored Number) list-clear query named

    module _ (rows : List (Report Float)) (run : Skips 128 f32 m lists rule start rows) where
      pub file-few : length rows ≤ 1048576
      file-few = let d = few in omega (arith, skips-few f32 m lists rule start 128 (documents file) all-ok rows run)

      pub file-numbers : All (λ r. Number r.score) rows
      file-numbers = skips-scores f32 m lists rule start 128 (documents file) all-ok rows run Number clear-summed all-clear

    pub file-plain-few : length (plain f32 m lists rule start (documents file)) ≤ 1048576
    file-plain-few = let d = few in omega (arith, plain-few f32 m lists rule start (documents file))

    pub file-plain-numbers : All (λ r. Number r.score) (plain f32 m lists rule start (documents file))
    file-plain-numbers = plain-scores f32 m lists rule start (documents file) Number clear-summed all-clear
