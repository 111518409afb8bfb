-- Scores by slot are the route's.
use mathlib.Core.Path.{◌≡◌, sym, ap, ◌∙◌, subst}
use mathlib.Core.Bool.{Bool, false}
use mathlib.Core.List.{List, []}
use mathlib.Core.Logic.{inl, inr}
use Prim.Native.Nat.{ℕ, ◌+◌, ◌/◌, ◌≤◌, ◌<◌}
use native.Mathlib.Omega.{arith}
use lib.Dec.{leb, ltb}
use lib.ListN.{get_or, set}
use lib.Seq.{get_or-set_other, get_or-set_same, set-get_or}
use lib.Ieee.{Float, nan}
use borrow.Author.Tests.{lt-ltb, le-ltb, leb-true, ltb-true}
use Rattle.arrays.proofs.Every.{first-true, second-true}
use Rattle.arrays.proofs.Order.{lt-or-ge}
use Rattle.fieldnorm.specs.Reader.{fieldnorm_id}
use Rattle.fieldnorm.specs.declared.FieldNormReader.{FieldNormReader}
use Rattle.route.specs.Postings.{start}
use Rattle.bm25.specs.Scoring.{scored}
use Rattle.bm25.specs.Inner.Weight.{score_in}
use Rattle.bm25.specs.declared.Bm25Weight.{Bm25Weight}
use Rattle.bm25.specs.declared.Scoring.{Scoring}
use Rattle.block_norms.proofs.AtMost.{all-at-most}
use Rattle.bm25_block.specs.Inner.Block.{ExactWhere, Scored}
use Rattle.notefile.specs.Header.{norm_code_of, norm_reader}
use Rattle.notefile.specs.Lists.{block_score, full_blocks}
use Rattle.notefile.specs.Skips.{freq_width}
use Rattle.notefile.specs.Inner.Given.{WeightIn}
use Rattle.notefile.specs.Inner.Structs.{skip_entry_of}
use Rattle.notefile.specs.declared.skip.SkipEntry.{SkipEntry}
use Rattle.notefile.specs.Inner.Reads.{docs_of, freqs_of}
use Rattle.notefile.specs.declared.part.Part.{Part}
use Rattle.notefile.proofs.Headers.{norm-code-small}
use Rattle.notefile.proofs.Scores.{score-by-code}
use Rattle.decoded.specs.Lists.{list_of}
use Rattle.skip_reader.specs.Inner.Decoded.{doc_in, Decoded}
use Rattle.skip_reader.proofs.Blocks.{decoded-narrow}
use Rattle.posting_bounds.proofs.BlockBounds.{score-at, score-is}
use Rattle.slot_rows.specs.Inner.Rows.{cursor_in, part_in, postings_in, PlaceIn}
use Rattle.term_scorer.specs.Inner.Slots.{list_at, part_at, cursor_at, Sixteen}
use Rattle.term_scorer.specs.Inner.Weights.{BlockScores, FloatRows, ScoresKept}
use Rattle.slot_scores.specs.Inner.Made.{narrow_in, ScoresMade}

-- whether a block is narrow, by its skip entry
module _ (file list : List ℕ) {x : Part} (ex : x ≡ part_in list) (b : ℕ) where
  pub full-in : b < get_or list 2 0 / 128 → b < full_blocks x
  unfolding part_in
  full-in h = rw ex h

  pub narrow-full : b < get_or list 2 0 / 128 → {e : SkipEntry} → e ≡ skip_entry_of file x b → leb e.freq_bits 24 ≡ narrow_in file (part_in list) b
  unfolding part_in skip_entry_of
  narrow-full h {e} ee = ap (λ (z : SkipEntry). leb z.freq_bits 24) ee ∙ rw (ex, lt-ltb b (get_or list 2 0 / 128) h)

  pub narrow-tail : get_or list 2 0 / 128 ≤ b → false ≡ narrow_in file (part_in list) b
  unfolding part_in
  narrow-tail h = rw (le-ltb b (get_or list 2 0 / 128) h)

-- f32 holds every frequency of a narrow block
pub narrow_exact : {file : List ℕ} {x : Part} {b : ℕ} {block : List (List ℕ)} → Decoded file x b block → {small : Bool} → small ≡ narrow_in file x b → ExactWhere small (freqs_of block)
narrow_exact {file} {x} {b} {block} D e s =
    let t = sym e ∙ s in
    all-at-most 16777216 (freqs_of block)
    (decoded-narrow D (ltb-true b (full_blocks x) (first-true _ _ t)) (leb-true (freq_width file x b) 24 (second-true (ltb b (full_blocks x)) _ t)))

-- a posting with a document stands inside its list
inside-list : (file : List ℕ) (x : Part) (at : ℕ) → doc_in file x at < 2147483647 → at < x.count
inside-list file x at h = elim (lt-or-ge at x.count) [
  | inl l ↦ l
  | inr g ↦ absurd (omega (arith, rw (le-ltb at x.count g) at h))
]

module _ (file : List ℕ) (x : Part) (w : Bm25Weight) (W : WeightIn x w) (scoring : Scoring) where
  module _ (bytes : (k : ℕ) → get_or file k 0 < 256) {norms : FieldNormReader} (en : norms ≡ norm_reader file)
      {row : List ℕ} {block : List (List ℕ)} (P : PlaceIn file x row block) where
    module _ (i : ℕ) (hi : i < 128) where
      abbrev at : ℕ
      at = start 128 (cursor_in row).dec + i

      freq-is : at < x.count → get_or (freqs_of block) i 0 ≡ Rattle.notefile.specs.Lists.list_freq file x at
      unfolding postings_in cursor_in
      freq-is l = P.placed.holds.freqs-are.at i hi ∙ rw (lt-ltb at x.count l)

      score-in-block : {doc id freq : ℕ} → doc ≡ doc_in file x at → doc < 2147483647 → id ≡ fieldnorm_id norms file doc → freq ≡ get_or (freqs_of block) i 0
          → {r : Float} → r ≡ scored scoring (score_in w id freq) → r ≡ (list_of scoring file x).score at
      unfolding list_of block_score norm_code_of
      score-in-block {doc} {id} {freq} ed hd ei ef {r} er =
          let l = inside-list file x at (omega (arith, ed, hd)) in
          let d : doc ≡ Rattle.notefile.specs.Lists.list_doc file x at = ed ∙ rw (lt-ltb at x.count l) in
          let n : id ≡ norm_code_of file doc = ei ∙ rw en in
          er ∙ ap (scored scoring) (score-by-code x w W id freq (subst (λ (z : ℕ). z < 256) (sym n) (norm-code-small file bytes doc)) ∙ rw (n, d, ef, freq-is l))

    -- of the posting that the scorer stands on
    pub score-here : {doc id freq : ℕ} → doc ≡ doc_in file x (cursor_in row).at → doc < 2147483647 → id ≡ fieldnorm_id norms file doc → freq ≡ get_or (freqs_of block) (get_or row 6 0) 0
        → {r : Float} → r ≡ scored scoring (score_in w id freq) → r ≡ (list_of scoring file x).score (cursor_in row).at
    unfolding postings_in cursor_in
    score-here ed hd ei ef er = score-in-block (get_or row 6 0) P.placed.inside ed hd ei ef er

    -- of all postings of the decoded block
    pub block-scores : {scores : List Float} → Scored norms file w scoring (docs_of block) (freqs_of block) scores → BlockScores (list_of scoring file x) (cursor_in row).dec scores
    unfolding list_of cursor_in postings_in
    block-scores S = record { at = λ i h l. score-is file x w W bytes scoring en (docs_of block) (freqs_of block) S i h ∙ score-at scoring P.placed.holds i h l }

-- the score of the posting that the scorer stands on, by the scores of its block
score-kept : (scoring : Scoring) (file : List ℕ) (x : Part) {row : List ℕ} {block : List (List ℕ)} → PlaceIn file x row block → doc_in file x (cursor_in row).at < 2147483647
    → {scores : List Float} → BlockScores (list_of scoring file x) (cursor_in row).dec scores → get_or scores (get_or row 6 0) nan ≡ (list_of scoring file x).score (cursor_in row).at
unfolding list_of postings_in cursor_in
score-kept scoring file x {row} P h S = S.at (get_or row 6 0) P.placed.inside (inside-list file x (cursor_in row).at h)

-- after that the scorer's place in its block is what it was
pub cur-made : {scoring : Scoring} {file : List ℕ} {lists : List (List ℕ)} {q : ℕ} {places places' : List (List ℕ)} {floats floats' : List (List Float)} → q < 16 → Sixteen places
    → ScoresMade scoring file lists q places floats places' floats' → get_or (get_or places' q []) 6 0 ≡ get_or (get_or places q []) 6 0
cur-made {q = q} {places = places} h l M =
    ap (λ (z : List (List ℕ)). get_or (get_or z q []) 6 0) M.places-are
    ∙ ap (λ (z : List ℕ). get_or z 6 0) (get_or-set_same places q (set (get_or places q []) 8 1) [] (omega (arith, h, l)))
    ∙ get_or-set_other (get_or places q []) 8 6 1 0 (λ z. omega (arith, z))

-- and the score there is the posting's
pub score-made : {scoring : Scoring} {file : List ℕ} {lists : List (List ℕ)} {q : ℕ} {places places' : List (List ℕ)} {floats floats' : List (List Float)} {block : List (List ℕ)} → q < 16 → Sixteen places
    → PlaceIn file (part_at lists q) (get_or places q []) block → doc_in file (part_at lists q) (cursor_at places q).at < 2147483647
    → ScoresMade scoring file lists q places floats places' floats' → {r : Float} → r ≡ get_or (get_or floats' (2 + q) []) (get_or (get_or places' q []) 6 0) nan
    → r ≡ (list_at scoring file lists q).score (cursor_at places q).at
score-made {scoring} {file} {lists} {q} {floats' = floats'} h l P d M e =
    e ∙ ap (λ (k : ℕ). get_or (get_or floats' (2 + q) []) k nan) (cur-made h l M) ∙ score-kept scoring file (part_at lists q) P d M.scores

-- the scores of slot q's decoded block
module _ (scoring : Scoring) (file : List ℕ) (lists : List (List ℕ)) (q : ℕ) (places : List (List ℕ)) (floats : List (List Float)) (F : FloatRows floats) where
  -- that were made before
  pub scores-known : get_or (get_or places q []) 8 0 ≡ 1 → ScoresKept scoring file lists places floats q → ScoresMade scoring file lists q places floats places floats
  scores-known k S = record {
    places-are = sym (ap (λ (z : ℕ). set places q (set (get_or places q []) 8 z)) (sym k) ∙ ap (set places q) (set-get_or (get_or places q []) 8 0) ∙ set-get_or places q []);
    floats-are = sym (set-get_or floats (2 + q) []);
    scores = S k;
    rows = F;
  }
