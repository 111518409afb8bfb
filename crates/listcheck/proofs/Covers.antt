-- Bounds and scores: what a test of a block's scores finds of a list's scores.
use mathlib.Core.Path.{◌≡◌, refl, sym, ap, ◌∙◌}
use mathlib.Core.Bool.{Bool, true, false, ◌&&◌, not, cond}
use mathlib.Core.List.{List}
use Prim.Native.Nat.{ℕ, ◌≤◌, ◌<◌}
use lib.Dec.{T}
use lib.ListN.{get_or}
use lib.Ieee.{Float, lt, le}
use Rattle.arrays.proofs.Every.{each, all}
use Rattle.floats.specs.Step.{within}
use Rattle.floats.proofs.Order.{not-above, below-le, lower-below}
use Rattle.fieldnorm.specs.declared.FieldNormReader.{FieldNormReader}
use Rattle.bm25.specs.Bound.{all_covered}
use Rattle.bm25.specs.declared.Bm25Weight.{Bm25Weight}
use Rattle.block_norms.specs.Inner.Codes.{Below}
use Rattle.block_norms.proofs.AtMost.{all-at-most}
use Rattle.bm25_block.specs.Inner.Block.{all_exact, posting_score}
use Rattle.block_cover.specs.Inner.Cover.{lower_bound}
use Rattle.block_cover.proofs.BoundTests.{covered_same}
use Rattle.notefile.specs.Header.{documents, norm_reader}
use Rattle.notefile.specs.Lists.{block_size}
use Rattle.notefile.specs.Inner.Structs.{skip_entry_of}
use Rattle.notefile.specs.Inner.Given.{PackedIn, WeightIn}
use Rattle.notefile.specs.Inner.Reads.{DocsRead, FreqsRead, score_among}
use Rattle.notefile.specs.declared.part.Part.{Part}
use Rattle.notefile.specs.declared.skip.SkipEntry.{SkipEntry}
use Rattle.notefile.proofs.Scores.{score-of-doc}
use Rattle.notefile.proofs.Decoded.{doc-low}
use Rattle.notefile.proofs.FullBlocks.{full_size, freqs-narrow}

first-both : (a b : Bool) → (a ≡ true → b ≡ true) → a ≡ a && b
first-both true b f = sym (f refl)
first-both false b f = refl

second-both : (a b : Bool) → (b ≡ true → a ≡ true) → b ≡ a && b
second-both true b f = refl
second-both false true f = sym (f refl)
second-both false false f = refl

-- what the lower of two bounds covers, the higher covers
lower-covers : (low high : Float) → T (within 1000 low) → T (within 1000 high) → T (le low high) → (n : ℕ) (score : ℕ → Float) → all_covered low n score ≡ true → all_covered high n score ≡ true
lower-covers low high p q h n score e = all _ n (λ i k. passes (lt high (score i)) (lt low (score i)) (lower-below 1000 low high (score i) p q h) (each _ n i e k))
  where
    passes : (a b : Bool) → (a ≡ true → b ≡ true) → not b ≡ true → not a ≡ true
    passes true b f g = sym (ap not (f refl)) ∙ g
    passes false b f g = refl

-- so the test with the lower is the test with both
module _ (max_score own : Float) (t : T (within 1000 max_score)) (b : T (within 1000 own)) (n : ℕ) (score : ℕ → Float) where
  own-lower : lt own max_score ≡ true → all_covered own n score ≡ all_covered max_score n score && all_covered own n score
  own-lower e = second-both (all_covered max_score n score) (all_covered own n score) (lower-covers own max_score b t (below-le own max_score e) n score)

  max-score-lower : lt own max_score ≡ false → all_covered max_score n score ≡ all_covered max_score n score && all_covered own n score
  max-score-lower e = first-both (all_covered max_score n score) (all_covered own n score) (lower-covers max_score own t b (not-above 1000 max_score own t b e) n score)

  pub low-both : all_covered (lower_bound own max_score) n score ≡ all_covered max_score n score && all_covered own n score
  low-both = by-test (lt own max_score) refl
    where
      by-test : (z : Bool) → lt own max_score ≡ z → all_covered (cond z own max_score) n score ≡ all_covered max_score n score && all_covered own n score
      by-test true e = own-lower e
      by-test false e = max-score-lower e

-- a test of the scores that the list's struct gives is a test of the list's
pub scores-are : (file : List ℕ) (x : Part) (w : Bm25Weight) → WeightIn x w → ((k : ℕ) → get_or file k 0 < 256) → (reader : FieldNormReader) → reader ≡ norm_reader file
    → (docs freqs : List ℕ) (bound : Float) (n : ℕ) {r : Bool} → r ≡ all_covered bound n (posting_score reader file w docs freqs) → r ≡ all_covered bound n (score_among file x docs freqs)
scores-are file x w W bytes reader er docs freqs bound n g =
    g ∙ covered_same bound (posting_score reader file w docs freqs) (score_among file x docs freqs) n (λ i l. score-of-doc x w W file bytes er (get_or docs i 0) (get_or freqs i 0))

-- f32 holds the frequencies of a full block whose width is at most 24
pub narrow_exact : {file : List ℕ} {x : Part} {b at : ℕ} → PackedIn file x b at → (e : SkipEntry) → e ≡ skip_entry_of file x b → {r : Bool} {freqs : List ℕ} → FreqsRead file x b r freqs
    → r ≡ true → e.freq_bits ≤ 24 → all_exact freqs ≡ true
narrow_exact P e ee {r} {freqs} F t n = all-at-most 16777216 freqs (freqs-narrow P e ee F t n)

-- the documents of a full block that row 7 lets through lie below the header's number
pub docs-below : {file : List ℕ} {x : Part} {b at : ℕ} → PackedIn file x b at → {docs : List ℕ} → DocsRead file x b true docs → {limit : ℕ} → limit ≡ documents file → Below limit docs
docs-below {file} {x} {b} P D e i h =
    let l : i < block_size x b = rw (sym (full_size x b P.full)) h in
    rw (e, D.at refl i l) (doc-low file x b (sym D.same) i l)
