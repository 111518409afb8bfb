-- Every list of an accepted file meets the laws that the route's theorems ask of it: from condition 7 the documents, from 4 and 9 the scores and bounds.
use mathlib.Core.Path.{◌≡◌, subst}
use mathlib.Core.Bool.{false}
use mathlib.Core.List.{List, [], ◌∷◌}
use Prim.Native.Nat.{ℕ, ◌/◌, ◌≤◌, ◌<◌}
use native.Mathlib.Omega.{arith}
use lib.Dec.{T, lit<}
use lib.Ieee.{Float, lt}
use Rattle.floats.specs.Step.{within}
use Rattle.arrays.specs.Every.{All}
use Rattle.route.specs.F32.{f32}
use Rattle.route.specs.Postings.{Postings, start}
use Rattle.route.specs.Inner.Lists.{ListOk}
use Rattle.route.proofs.ListLaws.{ScoresOk}
use Rattle.route.proofs.Stepped.{stepped-order, PartOf, SteppedList}
use Rattle.bm25.specs.declared.Scoring.{Scoring}
use Rattle.bm25.specs.declared.Scoring.TheVariants.{Stepped}
use Rattle.notefile.specs.Header.{list_count, documents}
use Rattle.notefile.specs.Parts.{part_of}
use Rattle.notefile.specs.Lists.{full_blocks, list_score, block_score, block_bound}
use Rattle.notefile.specs.Refusal.{file_refusal}
use Rattle.notefile.specs.Inner.Given.{Limits, ListRight}
use Rattle.notefile.specs.declared.part.Part.{Part}
use Rattle.notefile.proofs.Accepted.{list-accepted, list-limits, header-right}
use Rattle.notefile.proofs.Headers.{few-documents, norm-code-small}
use Rattle.notefile.proofs.Scores.{score-for-in, list-bound-in, block-bound-in}
use Rattle.notefile.proofs.ListLaws.{list-docs-rise, list-doc-below, list-freq-right, list-score-covered, block-score-covered}
use Rattle.decoded.specs.Lists.{list_of, postings_of, queried}
use Rattle.decoded.specs.Inner.Bytes.{Bytes}
use Rattle.decoded.proofs.Scores.{step_part, covers-stepped}

-- right documents are what a run over the list needs, in either scoring
pub list-ok : (scoring : Scoring) (file : List ℕ) (x : Part) → ListRight file x → documents file ≤ 1048576 → ListOk 128 (documents file) (list_of scoring file x)
unfolding list_of start
list-ok scoring file x right d = record {
  rises = list-docs-rise file x right;
  below = λ i k. list-doc-below file x right i k;
  few = omega arith;
  wide = lit< tt;
  blocks = omega arith;
  tail = omega arith;
}

-- what each list of a file has, the lists that a query names have
pub queried-all : (scoring : Scoring) (file : List ℕ) (P : Postings Float → Type 0) → ((l : ℕ) → l < list_count file → P (postings_of scoring file l))
    → (query : List ℕ) → All (λ l. l < list_count file) query → All P (queried scoring file query)
unfolding queried
queried-all scoring file P f [] a = tt
queried-all scoring file P f (l ∷ ls) a = (f l a.0, queried-all scoring file P f ls a.1)

module _ (file : List ℕ) (bytes : Bytes file) (accepted : file_refusal file ≡ 0) (l : ℕ) (h : l < list_count file) where
  limits : Limits (part_of file l)
  limits = list-limits file accepted l h

  pub list-score-in : (k : ℕ) → k < (part_of file l).count → T (within 1000 (list_score file (part_of file l) k))
  unfolding block_score
  list-score-in k g = score-for-in (part_of file l) limits _ _ (norm-code-small file bytes _) (let r = list-freq-right file (part_of file l) (list-accepted file accepted l h) k g in omega (arith, r.1))

  scores-ok : ScoresOk 128 f32 stepped-order (PartOf 1) (postings_of Stepped file l)
  unfolding list_of start
  scores-ok = record {
    score-ok = λ i k. step_part _ (list-score-in i k);
    bound-ok = λ b k. step_part _ (block-bound-in (part_of file l) limits file bytes b);
    top-ok = step_part _ (list-bound-in (part_of file l) limits);
    bound-covers = λ b i k lo hi.
        let n : i < (part_of file l).count = omega arith in
        let e : i / 128 ≡ b = omega arith in
        let f : i / 128 < full_blocks (part_of file l) = omega arith in
        covers-stepped _ _ (list-score-in i n) (block-bound-in (part_of file l) limits file bytes b)
        (subst (λ (c : ℕ). lt (block_bound file (part_of file l) c) (list_score file (part_of file l) i) ≡ false) e
        (block-score-covered file (part_of file l) (list-accepted file accepted l h) i n f));
    top-covers = λ i k. covers-stepped _ _ (list-score-in i k) (list-bound-in (part_of file l) limits) (list-score-covered file (part_of file l) (list-accepted file accepted l h) i k);
  }

  pub accepted-list : SteppedList 128 (documents file) (postings_of Stepped file l)
  accepted-list = record { ok = list-ok Stepped file (part_of file l) (list-accepted file accepted l h) (few-documents file (header-right file accepted)); vals = scores-ok }
