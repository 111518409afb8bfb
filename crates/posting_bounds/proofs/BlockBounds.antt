-- Block bounds: the loop over a tail's scores, and that what is found is the route's bound of the block.
use mathlib.Core.Path.{◌≡◌, refl, sym, ap, ◌∙◌, subst}
use mathlib.Core.Bool.{Bool, true, false, cond}
use mathlib.Core.List.{List}
use mathlib.Core.Logic.{inl, inr}
use Prim.Native.Nat.{ℕ, zero, suc, ◌+◌, ◌-◌, ◌*◌, ◌≤◌, ◌<◌}
use native.Mathlib.Nat.{add-zero}
use native.Mathlib.Numerals.{add-one}
use native.Mathlib.Omega.{arith}
use lib.Dec.{eqb}
use lib.ListN.{get_or}
use lib.Ieee.{Float, nan}
use borrow.Author.Tests.{lt-ltb, le-ltb, eq-eqb, ne_eqb}
use Rattle.arrays.proofs.Order.{lt-or-ge}
use Rattle.floats.specs.Inner.Maximum.{larger}
use Rattle.fieldnorm.specs.declared.FieldNormReader.{FieldNormReader}
use Rattle.route.specs.F32.{f32}
use Rattle.route.specs.Postings.{Postings, start}
use Rattle.route.specs.Cursor.{max_from, tail_max, block_max}
use Rattle.bm25.specs.Scoring.{scored}
use Rattle.bm25.specs.Inner.Bound.{list_bound_in, block_bound_in}
use Rattle.bm25.specs.declared.Bm25Weight.{Bm25Weight}
use Rattle.bm25.specs.declared.Scoring.{Scoring}
use Rattle.bm25_block.specs.Inner.Block.{Scored}
use Rattle.notefile.specs.Header.{norm_reader}
use Rattle.notefile.specs.Lists.{full_blocks, block_score, list_score}
use Rattle.notefile.specs.Inner.Given.{WeightIn}
use Rattle.notefile.specs.Inner.Reads.{docs_of, freqs_of, score_among}
use Rattle.notefile.specs.declared.part.Part.{Part}
use Rattle.notefile.proofs.Scores.{score-of-doc, list-bound-by, block-bound-by}
use Rattle.decoded.specs.Lists.{list_of}
use Rattle.posting_bounds.specs.Inner.Bounds.{most_from, most_of}
use Rattle.skip_reader.specs.Inner.Decoded.{Decoded}
use Rattle.skip_reader.specs.Inner.Reader.{remaining}
use Rattle.postings.specs.Inner.Places.{cursor_of}
use Rattle.postings.specs.declared.cursor.SegmentPostings.{SegmentPostings}
use Rattle.skip_reader.proofs.Readers.{Packed}

-- the largest of the values from i on is what is left to find
pub record Finding (f : ℕ → Float) (n i : ℕ) (most : Float) : Type 0 where
  pub within : i ≤ n
  pub same : most_of f n ≡ most_from f (n - i) i most

module _ (f : ℕ → Float) where
  pub begun : (n : ℕ) → (n ≡ 0 → ⊥) → Finding f n 1 (f 0)
  begun zero h = absurd (h refl)
  begun (suc n) h = let e : suc n - 1 ≡ n = omega arith in record { within = omega arith; same = rw e }

  module _ {n i : ℕ} {most : Float} (F : Finding f n i most) where
    pub goes_on : i < n → {next : Float} → next ≡ larger most (f i) → Finding f n (i + 1) next
    goes_on h e =
        let s : n - i ≡ suc (n - suc i) = omega arith in
        record { within = omega arith; same = F.same ∙ rw (s, e, add-one) }

    pub ended : n ≤ i → most ≡ most_of f n
    ended h = let e : n - i ≡ 0 = omega arith in sym (F.same ∙ rw e)

-- values that agree have the same largest
pub most-same : (f g : ℕ → Float) (n i j : ℕ) (most : Float) → ((k : ℕ) → k < n → f (i + k) ≡ g (j + k)) → most_from f n i most ≡ most_from g n j most
most-same f g zero i j most h = refl
most-same f g (suc n) i j most h =
    let e : f i ≡ g j = subst (λ (z : ℕ). f z ≡ g (j + 0)) (add-zero i) (h 0 (omega arith)) ∙ ap g (add-zero j) in
    ap (λ (z : Float). most_from f n (suc i) (larger most z)) e ∙ most-same f g n (suc i) (suc j) (larger most (g j)) (λ k l. subst (λ (z : ℕ). f z ≡ g (suc j + k)) (shift i k) (subst (λ (z : ℕ). f (i + suc k) ≡ g z) (shift j k) (h (suc k) (omega arith))))
  where
    shift : (a b : ℕ) → a + suc b ≡ suc a + b
    shift a b = omega arith

pub all_same : (f g : ℕ → Float) (n : ℕ) → ((k : ℕ) → k < n → f k ≡ g k) → most_of f n ≡ most_of g n
all_same f g zero h = refl
all_same f g (suc n) h = ap (most_from f n 1) (h 0 (omega arith)) ∙ most-same f g n 1 1 (g 0) (λ k l. h (1 + k) (omega arith))

-- the route's own largest is the same text
pub route-most : (l : Postings Float) (n p : ℕ) (most : Float) → max_from 128 f32 l n p most ≡ most_from l.score n p most
unfolding larger
route-most l zero p most = refl
route-most l (suc n) p most = route-most l n (suc p) (larger most (l.score p))

-- the scores of a decoded block are the list's
module _ (scoring : Scoring) {file : List ℕ} {x : Part} {b : ℕ} {block : List (List ℕ)} (D : Decoded file x b block) where
  abbrev score : ℕ → Float
  score i = scored scoring (score_among file x (docs_of block) (freqs_of block) i)

  pub score-at : (i : ℕ) → i < 128 → start 128 b + i < x.count → score i ≡ scored scoring (list_score file x (start 128 b + i))
  unfolding block_score
  score-at i h l = ap (scored scoring) (rw (D.docs-are.at i h, D.freqs-are.at i h, lt-ltb (start 128 b + i) x.count l))

  -- the largest of a tail, where it has any
  some-most : b ≡ full_blocks x → (n : ℕ) → suc n ≡ remaining x b → most_from score n 1 (score 0) ≡ tail_max 128 f32 (list_of scoring file x)
  unfolding list_of start
  some-most e n k =
      let p = b * 128 in
      let m : x.count - suc p ≡ n = omega arith in
      let at : (i : ℕ) → i < suc n → score i ≡ scored scoring (list_score file x (p + i)) = λ i h. score-at i (omega arith) (omega arith) in
      sym (rw (sym e, lt-ltb p x.count (omega arith), m) (route-most (list_of scoring file x) n (suc p) _
      ∙ sym (ap (most_from score n 1) (at 0 (omega arith) ∙ ap (λ (z : ℕ). scored scoring (list_score file x z)) (add-zero p))
      ∙ most-same score (list_of scoring file x).score n 1 (suc p) _ (λ i h. at (1 + i) (omega arith) ∙ ap (λ (z : ℕ). scored scoring (list_score file x z)) (shift p i)))))
    where
      shift : (a i : ℕ) → a + (1 + i) ≡ suc a + i
      shift a i = omega arith

  tail-most : full_blocks x ≤ b → (n : ℕ) → n ≡ remaining x b → most_of score n ≡ cond (eqb b (full_blocks x)) (tail_max 128 f32 (list_of scoring file x)) f32.nil
  unfolding list_of start
  tail-most h zero k = elim (lt-or-ge (full_blocks x) b) [
    | inl l ↦ rw (ne_eqb b (full_blocks x) (λ q. absurd (omega arith)))
    | inr l ↦ rw (eq-eqb b (full_blocks x) (omega arith), le-ltb (full_blocks x * 128) x.count (omega arith))
  ]
  tail-most h (suc n) k = let e : b ≡ full_blocks x = omega arith in rw (eq-eqb b (full_blocks x) e) (some-most e n k)

-- what the code's scores and bounds are
module _ (file : List ℕ) (x : Part) (w : Bm25Weight) (W : WeightIn x w) (bytes : (k : ℕ) → get_or file k 0 < 256) (scoring : Scoring) where
  module _ {norms : FieldNormReader} (en : norms ≡ norm_reader file) (docs freqs : List ℕ) {scores : List Float} (S : Scored norms file w scoring docs freqs scores) where
    pub score-is : (i : ℕ) → i < 128 → get_or scores i nan ≡ scored scoring (score_among file x docs freqs i)
    score-is i h = S.at i h ∙ ap (scored scoring) (score-of-doc x w W file bytes en (get_or docs i 0) (get_or freqs i 0))

    pub scores-most : (n : ℕ) → n ≤ 128 → most_of (λ i. get_or scores i nan) n ≡ most_of (λ i. scored scoring (score_among file x docs freqs i)) n
    scores-most n h = all_same _ _ n (λ k l. score-is k (omega arith))

  module _ (p : SegmentPostings) where
    abbrev b : ℕ
    b = p.skip_reader.block

    pub full-bound : {wd f n m : ℕ} {s : Bool} → Packed file x b wd s f n m → {r : Float} → r ≡ scored scoring (block_bound_in w n m) → r ≡ block_max 128 f32 (list_of scoring file x) (cursor_of p)
    unfolding list_of cursor_of
    full-bound P e = e ∙ rw (P.norm-is, P.freq-is, block-bound-by x w W file bytes b, lt-ltb b (full_blocks x) P.full)

    module _ (h : full_blocks x ≤ b) where
      pub unloaded-bound : p.block_loaded ≡ false → {r : Float} → r ≡ scored scoring (list_bound_in w) → r ≡ block_max 128 f32 (list_of scoring file x) (cursor_of p)
      unfolding list_of cursor_of
      unloaded-bound l e = e ∙ rw (list-bound-by x w W, le-ltb b (full_blocks x) h, l)

      pub loaded-bound : p.block_loaded ≡ true → {block : List (List ℕ)} → Decoded file x b block → {n : ℕ} → n ≡ remaining x b → {r : Float} → r ≡ most_of (λ i. scored scoring (score_among file x (docs_of block) (freqs_of block) i)) n → r ≡ block_max 128 f32 (list_of scoring file x) (cursor_of p)
      unfolding list_of cursor_of
      loaded-bound l D {n} k e = e ∙ rw (le-ltb b (full_blocks x) h, l) (tail-most scoring D h n k)
