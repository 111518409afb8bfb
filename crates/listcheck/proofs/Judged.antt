-- What a block and the blocks before it are refused for, out of what the readers answered.
use mathlib.Core.Path.{◌≡◌, refl, sym, ap, ◌∙◌}
use mathlib.Core.Bool.{Bool, true, false, ◌&&◌, cond}
use mathlib.Core.List.{List}
use Prim.Native.Nat.{ℕ, suc, ◌+◌, ◌*◌, ◌≤◌, ◌<◌}
use native.Mathlib.Numerals.{add-one}
use native.Mathlib.Omega.{arith}
use lib.Dec.{T}
use lib.ListN.{length, get_or, set}
use lib.Ieee.{Float}
use borrow.Author.Tests.{lt-ltb, le-ltb}
use Rattle.outcome.specs.Inner.Lower.{lower}
use Rattle.arrays.specs.Every.{every}
use Rattle.arrays.proofs.Every.{fails, one_more}
use Rattle.floats.specs.Step.{within}
use Rattle.fieldnorm.specs.declared.FieldNormReader.{FieldNormReader}
use Rattle.bm25.specs.Inner.Bound.{block_bound_in}
use Rattle.bm25.specs.Bound.{all_covered}
use Rattle.bm25.specs.declared.Bm25Weight.{Bm25Weight}
use Rattle.block_cover.specs.Inner.Cover.{lower_bound, block_covered}
use Rattle.notefile.specs.Header.{norm_reader}
use Rattle.notefile.specs.Lists.{full_blocks, block_size, block_at, block_score, block_bound, list_bound}
use Rattle.notefile.specs.Conditions.{block_docs_right, block_freqs_right, covers, bounds_right}
use Rattle.notefile.specs.Inner.Order.{first_of, blocks_refusal}
use Rattle.notefile.specs.Inner.Structs.{skip_entry_of}
use Rattle.notefile.specs.Inner.Given.{Limits, WeightIn}
use Rattle.notefile.specs.Inner.Reads.{docs_of, freqs_of, DocsRead, FreqsRead, Sized, TailValues, score_among, block_refusal}
use Rattle.notefile.specs.declared.part.Part.{Part}
use Rattle.notefile.specs.declared.skip.SkipEntry.{SkipEntry}
use Rattle.notefile.proofs.Decoded.{every-same}
use Rattle.notefile.proofs.Pairs.{new-docs, new-freqs, old-docs, old-freqs, two-still}
use Rattle.notefile.proofs.FullBlocks.{full_size}
use Rattle.notefile.proofs.Scores.{block-bound-by, list-bound-in, block-bound-in}
use Rattle.listcheck.specs.Inner.Answers.{PackedRead}
use Rattle.listcheck.proofs.Covers.{low-both, scores-are}

-- the bounds are scores, so they are numbers
max-score-in : (x : Part) → Limits x → {max_score : Float} → max_score ≡ list_bound x → T (within 1000 max_score)
max-score-in x L e = rw e (list-bound-in x L)

bound-in : (file : List ℕ) (x : Part) (b : ℕ) → ((k : ℕ) → get_or file k 0 < 256) → Limits x → {bound : Float} → bound ≡ block_bound file x b → T (within 1000 bound)
bound-in file x b bytes L e = rw e (block-bound-in x L file bytes b)

-- one block
module _ (file : List ℕ) (x : Part) (b : ℕ) {docs : List ℕ} {d : Bool} (D : DocsRead file x b d docs) where
  pub docs-wrong : d ≡ false → 7 ≡ block_refusal file x b
  docs-wrong e = rw (sym D.same ∙ e)

  module _ (d-right : d ≡ true) {freqs : List ℕ} {f : Bool} (F : FreqsRead file x b f freqs) where
    pub freqs-wrong : f ≡ false → 8 ≡ block_refusal file x b
    freqs-wrong e = rw (sym D.same ∙ d-right, sym F.same ∙ e)

    module _ (f-right : f ≡ true) where
      covers-is : (bound : Float) {n : ℕ} → n ≡ block_size x b → all_covered bound n (score_among file x docs freqs) ≡ covers file x bound b
      unfolding covers block_score
      covers-is bound {n} e = ap (λ n. all_covered bound n (score_among file x docs freqs)) e ∙ every-same _ _ (block_size x b) (λ i h. rw (D.at d-right i h, F.at f-right i h))

      module _ {max_score : Float} {n : ℕ} (max-score-is : max_score ≡ list_bound x) (size : n ≡ block_size x b) where
        -- scores that were compared with the lower of the two bounds
        lower-bounds : {own : Float} {r : Bool} → b < full_blocks x → own ≡ block_bound file x b → T (within 1000 max_score) → T (within 1000 own)
            → r ≡ all_covered (lower_bound own max_score) n (score_among file x docs freqs) → r ≡ bounds_right file x b
        unfolding bounds_right
        lower-bounds {own} full e t o er =
            er ∙ low-both max_score own t o n (score_among file x docs freqs) ∙ rw (covers-is max_score size, covers-is own size, max-score-is, e, lt-ltb b (full_blocks x) full)

        pub tail-bounds : {r : Bool} → full_blocks x ≤ b → r ≡ all_covered max_score n (score_among file x docs freqs) → r ≡ bounds_right file x b
        unfolding bounds_right
        tail-bounds past er =
            er ∙ covers-is max_score size ∙ ap (λ (z : Float). covers file x z b) max-score-is ∙ alone (covers file x (list_bound x) b)
            ∙ sym (ap (λ (z : Bool). covers file x (list_bound x) b && cond z (covers file x (block_bound file x b) b) true) (le-ltb b (full_blocks x) past))
          where
            alone : (z : Bool) → z ≡ z && true
            alone true = refl
            alone false = refl

      -- a full block's scores, by the list's struct, with the block's bound out of its entry
      pub full-bounds : b < full_blocks x → ((k : ℕ) → get_or file k 0 < 256) → Limits x → (w : Bm25Weight) → WeightIn x w → {reader : FieldNormReader} → reader ≡ norm_reader file
          → (e : SkipEntry) → e ≡ skip_entry_of file x b → {max_score : Float} → max_score ≡ list_bound x
          → {r : Bool} → r ≡ block_covered reader file w docs freqs e.norm_code e.freq_code max_score → r ≡ bounds_right file x b
      unfolding block_covered skip_entry_of
      full-bounds full bytes L w W {reader} er e ee {max_score} em g =
          let own = block_bound_in w e.norm_code e.freq_code in
          let own_is : own ≡ block_bound file x b = rw ee (block-bound-by x w W file bytes b) in
          lower-bounds em (full_size x b full) full own_is (max-score-in x L em) (bound-in file x b bytes L own_is)
          (scores-are file x w W bytes reader er docs freqs (lower_bound own max_score) 128 g)

      module _ {r : Bool} (e : r ≡ bounds_right file x b) where
        pub bounds-wrong : r ≡ false → 9 ≡ block_refusal file x b
        bounds-wrong f = rw (sym D.same ∙ d-right, sym F.same ∙ f-right, sym e ∙ f)

        pub all_right : r ≡ true → 0 ≡ block_refusal file x b
        all_right f = rw (sym D.same ∙ d-right, sym F.same ∙ f-right, sym e ∙ f)

-- a block's documents and frequencies, written one after the other
module _ {file : List ℕ} {x : Part} {b : ℕ} {block : List (List ℕ)} (Z : Sized block) {docs : List ℕ} {d : Bool} (D : DocsRead file x b d docs) where
  pub freqs-fit : length (freqs_of (set block 0 docs)) ≡ 128
  freqs-fit = ap length (old-freqs block docs) ∙ Z.long-freqs

  pub freqs-still : TailValues file x (docs_of block) (freqs_of block) → TailValues file x (docs_of block) (freqs_of (set block 0 docs))
  freqs-still R = rw (old-freqs block docs) R

  module _ {freqs : List ℕ} {f : Bool} (F : FreqsRead file x b f freqs) where
    pub docs-both : DocsRead file x b d (docs_of (set (set block 0 docs) 1 freqs))
    docs-both = rw (old-docs (set block 0 docs) freqs, new-docs block Z.two docs) D

    pub freqs-both : FreqsRead file x b f (freqs_of (set (set block 0 docs) 1 freqs))
    freqs-both = rw (new-freqs (set block 0 docs) (two-still block Z.two 0 docs) freqs) F

-- what those of a full block are refused for
module _ (file : List ℕ) (x : Part) (b : ℕ) {docs : List ℕ} {d : Bool} (D : DocsRead file x b d docs) where
  pub docs-refused : {block : List (List ℕ)} → d ≡ false → PackedRead file x b 7 block
  docs-refused e = record { same = rw (sym D.same ∙ e); docs-read = λ z. absurd (omega arith); freqs-read = λ z. absurd (omega arith) }

  module _ (d-right : d ≡ true) {freqs : List ℕ} {f : Bool} (F : FreqsRead file x b f freqs) where
    pub freqs-refused : {block : List (List ℕ)} → f ≡ false → PackedRead file x b 8 block
    freqs-refused e = record { same = rw (sym D.same ∙ d-right, sym F.same ∙ e); docs-read = λ z. absurd (omega arith); freqs-read = λ z. absurd (omega arith) }

    pub packed-right : {block : List (List ℕ)} → Sized block → f ≡ true → PackedRead file x b 0 (set (set block 0 docs) 1 freqs)
    packed-right Z e = record {
      same = rw (sym D.same ∙ d-right, sym F.same ∙ e);
      docs-read = λ _. rw d-right at (docs-both Z D F);
      freqs-read = λ _. rw e at (freqs-both Z D F);
    }

-- what they are refused for, the block is refused for
pub refused-before : (d f c : Bool) {r : ℕ} → r ≡ first_of d f true → (r ≡ 0 → ⊥) → r ≡ first_of d f c
refused-before true true c e n = absurd (n e)
refused-before true false c e n = e
refused-before false f c e n = e

-- the lower of two is the first condition over both
joins : (d f c d2 f2 c2 : Bool) → lower (first_of d f c) (first_of d2 f2 c2) ≡ first_of (d && d2) (f && f2) (c && c2)
joins true true true d2 f2 c2 = refl
joins false f c false f2 c2 = refl
joins false f c true false c2 = refl
joins false f c true true false = refl
joins false f c true true true = refl
joins true false c false f2 c2 = refl
joins true false c true false c2 = refl
joins true false c true true false = refl
joins true false c true true true = refl
joins true true false false f2 c2 = refl
joins true true false true false c2 = refl
joins true true false true true false = refl
joins true true false true true true = refl

pub docs-right-unless : (d f c : Bool) → (first_of d f c ≡ 7 → ⊥) → d ≡ true
docs-right-unless true f c n = refl
docs-right-unless false f c n = absurd (n refl)

pub docs-wrong-if : (d f c : Bool) → first_of d f c ≡ 7 → d ≡ false
docs-wrong-if true true true e = absurd (omega arith)
docs-wrong-if true true false e = absurd (omega arith)
docs-wrong-if true false c e = absurd (omega arith)
docs-wrong-if false f c e = refl

module _ (file : List ℕ) (x : Part) where
  pub one-block-more : (b : ℕ) {lowest r : ℕ} → lowest ≡ blocks_refusal file x b → r ≡ block_refusal file x b → lower lowest r ≡ blocks_refusal file x (suc b)
  unfolding blocks_refusal
  one-block-more b e g = rw (e, g) (joins (every b (block_docs_right file x)) (every b (block_freqs_right file x)) (every b (bounds_right file x)) (block_docs_right file x b) (block_freqs_right file x b) (bounds_right file x b))

  -- b full blocks are tested, none of them with 7; the next stands at a place
  pub record Judging (lowest at b : ℕ) : Type 0 where
    pub within : b ≤ full_blocks x
    pub place : at ≡ block_at file x b
    pub lowest-is : lowest ≡ blocks_refusal file x b
    pub right : every b (block_docs_right file x) ≡ true

  pub judging-begun : Judging 0 x.postings 0
  unfolding block_at blocks_refusal
  judging-begun = record { within = omega arith; place = refl; lowest-is = refl; right = refl }

  module _ {lowest at b : ℕ} (J : Judging lowest at b) where
    pub all-judged : full_blocks x ≤ b → lowest ≡ blocks_refusal file x (full_blocks x)
    all-judged h = J.lowest-is ∙ ap (blocks_refusal file x) (omega (arith, J.within))

    module _ (h : b < full_blocks x) {found : ℕ} (ef : found ≡ first_of (block_docs_right file x b) (block_freqs_right file x b) true) where
      pub seven-found : found ≡ 7 → 7 ≡ blocks_refusal file x (full_blocks x)
      unfolding blocks_refusal
      seven-found e = rw (fails (block_docs_right file x) (full_blocks x) b h (docs-wrong-if (block_docs_right file x b) (block_freqs_right file x b) true (sym ef ∙ e)))

      pub one-judged : (found ≡ 7 → ⊥) → {r : ℕ} → r ≡ block_refusal file x b → (e : SkipEntry) → e ≡ skip_entry_of file x b → {q : ℕ} → q ≡ lower lowest r
          → Judging q (at + 16 * (e.doc_bits + e.freq_bits)) (b + 1)
      unfolding block_at skip_entry_of
      one-judged n er e ee {q} eq = record {
        within = omega arith;
        place = rw (add-one, J.place, ee);
        lowest-is = rw add-one (eq ∙ one-block-more b J.lowest-is er);
        right = one_more (block_docs_right file x) b J.right (docs-right-unless (block_docs_right file x b) (block_freqs_right file x b) true (λ q. n (ef ∙ q)));
      }
