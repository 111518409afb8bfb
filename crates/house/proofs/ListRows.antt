-- Rows 7, 8 and 9 let the blocks of a house list through, and its full blocks are in house form.
use mathlib.Core.Path.{◌≡◌, refl, sym, ap, ◌∙◌, subst}
use mathlib.Core.Bool.{Bool, true, false, not, cond}
use mathlib.Core.List.{List}
use mathlib.Core.Logic.{◌⊎◌, inl, inr}
use Prim.Native.Nat.{ℕ, zero, suc, ◌+◌, ◌*◌, ◌≤◌, ◌<◌}
use native.Mathlib.Omega.{arith}
use lib.Dec.{T, eqb}
use lib.Ieee.{Float, binary32, of_bits, lt}
use borrow.Author.Tests.{lt-ltb, le-ltb, le-leb, eq-eqb}
use Rattle.arrays.proofs.Every.{and-true, all}
use Rattle.arrays.proofs.Order.{lt-or-ge}
use Rattle.floats.specs.Step.{within}
use Rattle.compression.specs.Documents.{doc_at, rises, rising_below}
use Rattle.frequencies.specs.Frequencies.{freq_right}
use Rattle.bm25.specs.Bound.{max_tf}
use Rattle.bm25.specs.Limits.{average_ok, weight_ok}
use Rattle.bm25.specs.Score.{score_of}
use Rattle.bm25_pair.specs.Pair.{freq_code, highest}
use Rattle.bm25_pair.proofs.Highest.{highest-in, highest-same, highest-most, highest-first}
use Rattle.bm25_pair.proofs.BlockCovers.{score_by, highest-not-below}
use Rattle.notefile.specs.Header.{documents, norm_code_of}
use Rattle.notefile.specs.Skips.{last_doc, max_norm_code, max_freq_code}
use Rattle.notefile.specs.Lists.{full_blocks, block_size, is_full, is_first, score_for, list_bound, doc_value, strict_in}
use Rattle.notefile.specs.Lists.{block_doc, previous_doc, block_freq, block_score, block_bound}
use Rattle.notefile.specs.Conditions.{docs_rise, last_right, block_docs_right, block_freqs_right, covers, bounds_right}
use Rattle.notefile.specs.declared.part.Part.{Part}
use Rattle.notefile.proofs.Decoded.{doc-is, rising-same}
use Rattle.notefile.proofs.FullBlocks.{full_size}
use Rattle.notefile.proofs.Scores.{score-for-in}
use Rattle.house.specs.House.{doc_before, top_of}
use Rattle.house.specs.Form.{PairOf, HouseBlock}
use Rattle.house.specs.Inner.Sound.{Sound}
use Rattle.house.proofs.Given.{Scored, Laid}
use Rattle.house.proofs.ListSkips.{block-entered}
use Rattle.house.proofs.ListDecoded.{previous-back, doc-back, freq-back}
use Rattle.house.proofs.ListBlocks.{docs-least, freqs-least}
use Rattle.house.proofs.ListTail.{decodes}

-- the bound by the pair of the highest of n scores, which are those of codes and frequencies, lies below none of them
top-covers : (weight average : Float) (code freq : ℕ → ℕ) (t : ℕ → Float) (n : ℕ) → T (weight_ok weight) → T (average_ok average)
    → ((i : ℕ) → i < n → code i < 256) → ((i : ℕ) → i < n → 0 < freq i) → ((i : ℕ) → i < n → freq i ≤ 2013265944)
    → ((i : ℕ) → i < n → t i ≡ score_of weight average (code i) (freq i)) → (i : ℕ) → i < n
    → lt (score_of weight average (code (highest t n)) (max_tf (freq_code (freq (highest t n))))) (t i) ≡ false
top-covers weight average code freq t n w-ok a-ok codes least most same i l =
    ap (λ (m : ℕ). lt (score_of weight average (code m) (max_tf (freq_code (freq m)))) (t i))
    (highest-same t (score_by weight average code freq) n same)
    ∙ ap (lt _) (same i l)
    ∙ highest-not-below weight average code freq n w-ok a-ok codes least most i l

-- k documents from block b's start on
module _ {d f : ℕ → ℕ} {n limit : ℕ} (S : Sound d f n limit) where
  rises-each : (b k : ℕ) → 128 * b + k ≤ n → (i : ℕ) → i < k → rises (λ j. d (128 * b + j)) (is_first b) (doc_before d f b) i ≡ true
  rises-each zero k h zero l = refl
  rises-each (suc b) k h zero l =
      lt-ltb (d (128 * b + 127)) (d (128 * suc b + 0)) (S.rise (128 * b + 127) (128 * suc b + 0) (omega arith) (omega arith))
  rises-each b k h (suc i) l =
      lt-ltb (d (128 * b + i)) (d (128 * b + suc i)) (S.rise (128 * b + i) (128 * b + suc i) (omega arith) (omega arith))

  all-rise : (b k : ℕ) → 128 * b + k ≤ n → rising_below (λ j. d (128 * b + j)) (is_first b) (doc_before d f b) k limit ≡ true
  all-rise b k h =
      all _ k (λ i l. and-true _ _ (rises-each b k h i l) (lt-ltb (d (128 * b + i)) limit (S.below (128 * b + i) (omega arith))))

module _ {s : List ℕ} {x : Part} {d f norm : ℕ → ℕ} {score : ℕ → Float} (S : Sound d f x.count (documents s))
    (C : Scored s x d f norm score) (L : Laid s x d f norm score) where
  module _ (b : ℕ) (h : b ≤ full_blocks x) where
    inside : (i : ℕ) → i < block_size x b → 128 * b + i < x.count
    inside i l = let k = (decodes S L b h).inside in omega arith

    doc : (i : ℕ) → i < block_size x b → block_doc s x b i ≡ d (128 * b + i)
    doc = doc-back S (decodes S L) b h

    freq : (i : ℕ) → i < block_size x b → block_freq s x b i ≡ f (128 * b + i)
    freq = freq-back S (decodes S L) b h

    pub score-back : (i : ℕ) → i < block_size x b → block_score s x b i ≡ score (128 * b + i)
    unfolding block_score
    score-back i l =
        ap (λ (y : ℕ). score_for x (norm_code_of s y) (block_freq s x b i)) (doc i l)
        ∙ ap (λ (y : ℕ). score_for x (norm_code_of s (d (128 * b + i))) y) (freq i l)
        ∙ ap (λ (y : ℕ). score_for x y (f (128 * b + i))) (sym (C.norm-is (128 * b + i) (inside i l)))
        ∙ sym (C.score-is (128 * b + i) (inside i l))

    -- row 7
    docs-rise : docs_rise s x b ≡ true
    unfolding docs_rise
    docs-rise =
        let e : ℕ → ℕ = λ j. d (128 * b + j) in
        rising-same (doc_at (doc_value s x b) (strict_in s x b) (is_first b) (previous_doc s x b)) e (is_first b) (previous_doc s x b)
        (block_size x b) (λ i l. sym (doc-is s x b i) ∙ doc i l) (documents s)
        ∙ ap (λ (p : ℕ). rising_below e (is_first b) p (block_size x b) (documents s)) (previous-back S (decodes S L) b h)
        ∙ all-rise S b (block_size x b) (decodes S L b h).inside

    last-right : last_right s x b ≡ true
    unfolding last_right
    last-right = go (lt-or-ge b (full_blocks x))
      where
        go : (b < full_blocks x) ⊎ (full_blocks x ≤ b) → cond (is_full x b) (eqb (block_doc s x b 127) (last_doc s x b)) true ≡ true
        go (inl l) =
            ap (λ (z : Bool). cond z (eqb (block_doc s x b 127) (last_doc s x b)) true) (lt-ltb b (full_blocks x) l)
            ∙ eq-eqb _ _ (doc 127 (subst (λ (n : ℕ). 127 < n) (full_size x b l) (omega arith)) ∙ sym (block-entered S L b l).last-is)
        go (inr g) = ap (λ (z : Bool). cond z (eqb (block_doc s x b 127) (last_doc s x b)) true) (le-ltb b (full_blocks x) g)

    pub docs-right : block_docs_right s x b ≡ true
    unfolding block_docs_right
    docs-right = and-true _ _ docs-rise last-right

    -- row 8
    pub freqs-right : block_freqs_right s x b ≡ true
    unfolding block_freqs_right
    freqs-right =
        all _ (block_size x b)
        (λ i l. ap freq_right (freq i l) ∙ right (f (128 * b + i)) (S.some (128 * b + i) (inside i l)) (S.most (128 * b + i) (inside i l)))
      where
        right : (y : ℕ) → 0 < y → y ≤ 2013265944 → freq_right y ≡ true
        right y h l = and-true _ _ (lt-ltb 0 y h) (le-leb y 2013265944 l)

    -- a bound that lies below none of the list's scores of the block
    covering : (bound : Float) → ((i : ℕ) → i < block_size x b → lt bound (score (128 * b + i)) ≡ false) → covers s x bound b ≡ true
    unfolding covers
    covering bound a = all _ (block_size x b) (λ i l. ap (λ (y : Float). not (lt bound y)) (score-back i l) ∙ ap not (a i l))

  -- a full block
  module _ (b : ℕ) (h : b < full_blocks x) where
    abbrev top : ℕ
    top = highest (λ i. score (128 * b + i)) 128

    in_list : (i : ℕ) → i < 128 → 128 * b + i < x.count
    in_list i l = omega arith

    in-block : (i : ℕ) → i < 128 → i < block_size x b
    in-block i l = subst (λ (n : ℕ). i < n) (full_size x b h) l

    top_in : top < 128
    top_in = highest-in (λ i. score (128 * b + i)) 128 (omega arith)

    top-is : top_of d f norm score b ≡ 128 * b + top
    unfolding top_of
    top-is = refl

    norm-code : max_norm_code s x b ≡ norm (d (128 * b + top))
    norm-code = (block-entered S L b h).norm-code-is ∙ ap (λ (m : ℕ). norm (d m)) top-is

    freq-code : max_freq_code s x b ≡ freq_code (f (128 * b + top))
    freq-code = (block-entered S L b h).freq-code-is ∙ ap (λ (m : ℕ). freq_code (f m)) top-is

    bound-is : block_bound s x b ≡ score_for x (norm (d (128 * b + top))) (max_tf (freq_code (f (128 * b + top))))
    unfolding block_bound
    bound-is =
        ap (λ (y : ℕ). score_for x y (max_tf (max_freq_code s x b))) norm-code
        ∙ ap (λ (y : ℕ). score_for x (norm (d (128 * b + top))) (max_tf y)) freq-code

    bound-above : (i : ℕ) → i < 128 → lt (block_bound s x b) (score (128 * b + i)) ≡ false
    unfolding score_for
    bound-above i l =
        ap (λ (y : Float). lt y (score (128 * b + i))) bound-is
        ∙ top-covers (of_bits binary32 x.weight) (of_bits binary32 x.average) (λ i. norm (d (128 * b + i))) (λ i. f (128 * b + i))
        (λ i. score (128 * b + i)) 128 (subst T (sym C.limits.weight) tt) (subst T (sym C.limits.average) tt)
        (λ i l. C.norm-byte (128 * b + i) (in_list i l)) (λ i l. S.some (128 * b + i) (in_list i l))
        (λ i l. S.most (128 * b + i) (in_list i l)) (λ i l. C.score-is (128 * b + i) (in_list i l)) i l

    numbers : (i : ℕ) → i < 128 → T (within 1000 (score (128 * b + i)))
    numbers i l =
        subst (λ (y : Float). T (within 1000 y)) (sym (C.score-is (128 * b + i) (in_list i l)))
        (score-for-in x C.limits (norm (d (128 * b + i))) (f (128 * b + i)) (C.norm-byte (128 * b + i) (in_list i l))
        (let k = S.most (128 * b + i) (in_list i l) in omega arith))

    same : (i : ℕ) → i < 128 → block_score s x b i ≡ score (128 * b + i)
    same i l = score-back b (omega arith) i (in-block i l)

    pair : PairOf s x b top
    pair = record {
      inside = top_in;
      highest = λ i l.
          ap (λ (y : Float). lt y (block_score s x b i)) (same top top_in) ∙ ap (lt (score (128 * b + top))) (same i l)
          ∙ highest-most 1000 (λ i. score (128 * b + i)) 128 i numbers l;
      lowest = λ i l. let k : i < 128 = omega (arith, top_in) in
          ap (λ (y : Float). lt y (block_score s x b top)) (same i k) ∙ ap (lt (score (128 * b + i))) (same top top_in)
          ∙ highest-first 1000 (λ i. score (128 * b + i)) 128 i numbers l;
      norm-is =
          norm-code ∙ C.norm-is (128 * b + top) (in_list top top_in)
          ∙ ap (norm_code_of s) (sym (doc b (omega arith) top (in-block top top_in)));
      freq-is = freq-code ∙ ap freq_code (sym (freq b (omega arith) top (in-block top top_in)));
    }

    pub house-block : HouseBlock s x b
    house-block = record {
      strict = (block-entered S L b h).strict-is;
      doc-least = docs-least S L b h;
      freq-least = freqs-least S L b h;
      top = top;
      pair = pair;
    }

  -- row 9
  pub bounds-right : ((i : ℕ) → i < x.count → lt (list_bound x) (score i) ≡ false) → (b : ℕ) → b ≤ full_blocks x → bounds_right s x b ≡ true
  unfolding bounds_right
  bounds-right a b h = and-true _ _ (covering b h (list_bound x) (λ i l. a (128 * b + i) (inside b h i l))) (go (lt-or-ge b (full_blocks x)))
    where
      go : (b < full_blocks x) ⊎ (full_blocks x ≤ b) → cond (is_full x b) (covers s x (block_bound s x b) b) true ≡ true
      go (inl l) =
          ap (λ (z : Bool). cond z (covers s x (block_bound s x b) b) true) (lt-ltb b (full_blocks x) l)
          ∙ covering b h (block_bound s x b) (λ i k. bound-above b l i (subst (λ (n : ℕ). i < n) (sym (full_size x b l)) k))
      go (inr g) = ap (λ (z : Bool). cond z (covers s x (block_bound s x b) b) true) (le-ltb b (full_blocks x) g)
