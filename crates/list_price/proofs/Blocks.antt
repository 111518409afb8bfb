-- One block of a list, where it stands in the buffers: its rows, its scores and its bytes are the list's.
use mathlib.Core.Path.{◌≡◌, refl, sym, ap, ◌∙◌, subst, fun_ext}
use mathlib.Core.Bool.{Bool, true, false, ◌&&◌, not, true≢false}
use mathlib.Core.List.{List}
use Prim.Native.Nat.{ℕ, zero, suc, ◌+◌, ◌-◌, ◌*◌, ◌^◌, ◌≤◌, ◌<◌}
use native.Mathlib.Nat.{lt_of_le_of_lt, le_of_lt}
use native.Mathlib.Omega.{arith}
use lib.Dec.{T, eqb, ltb, lit<}
use lib.ListN.{length, get_or, length-append}
use lib.Ieee.{Float, nan, lt}
use borrow.Author.Tests.{eq-eqb, ne_eqb, ltb-true}
use Rattle.std.specs.Prelude.{Ok}
use Rattle.arrays.specs.Inner.Holds.{Holds}
use Rattle.arrays.proofs.Every.{each, all, same_test, second-true}
use Rattle.floats.specs.Step.{within}
use Rattle.fieldnorm.specs.Reader.{fieldnorm_id}
use Rattle.fieldnorm.specs.declared.FieldNormReader.{FieldNormReader}
use Rattle.fieldnorm.specs.declared.FieldNormReader.TheVariants.{FromData, Const}
use Rattle.pieces.specs.Bytes.{bytes_of}
use Rattle.packing.specs.Packing.{packed_block}
use Rattle.packing.specs.Width.{least_width}
use Rattle.packing.proofs.Packs.{block-long}
use Rattle.compression.specs.Documents.{rises, rising_below}
use Rattle.frequencies.specs.Frequencies.{freqs_right}
use Rattle.encode.specs.Differences.{differ}
use Rattle.encode.specs.Inner.VIntBytes.{row_length}
use Rattle.encode.specs.ShortVInt.{vint_row}
use Rattle.bm25.specs.Bound.{max_score, all_covered}
use Rattle.bm25.specs.Inner.Weight.{WeightOf}
use Rattle.bm25.specs.Inner.Weight as weight
use Rattle.bm25.specs.declared.Bm25Weight.{Bm25Weight}
use Rattle.bm25.proofs.Bounds.{score-within}
use Rattle.bm25.proofs.WeightLaws.{score-in}
use Rattle.block_norms.specs.Inner.Codes.{Below}
use Rattle.bm25_block.specs.Inner.Block.{posting_score}
use Rattle.bm25_pair.specs.Pair.{highest}
use Rattle.bm25_pair.proofs.Highest.{highest-same, highest-most, highest-in}
use Rattle.block_cover.proofs.BoundTests.{covered_same}
use Rattle.posting_tests.specs.Inner.Tops.{Numbers}
use Rattle.posting_tests.proofs.Lanes.{below-through}
use Rattle.notefile.specs.Lists.{is_first}
use Rattle.notefile.specs.Inner.Order.{first_of}
use Rattle.house.specs.House.{doc_before, doc_differ, doc_values, freq_values, doc_bits, freq_bits, block_bytes, tail_bytes}
use Rattle.house.specs.Inner.Listed.{Listed, doc_in, freq_in, norm_in, score_in, top_in, Fits}
use Rattle.block_look.specs.Inner.Looked.{Looked}
use Rattle.block_look.specs.declared.found.Look.{Look}
use Rattle.list_price.specs.Inner.Loads.{on_from, doc_behind, Standing, refused_for, Loaded, tail_length}
use Rattle.list_price.specs.Inner.Prices.{CodeFits}
use Rattle.list_price.proofs.Loads.{are-right, under}

pub first-is : (b : ℕ) → eqb b 0 ≡ is_first b
first-is zero = eq-eqb 0 0 refl
first-is (suc b) = ne_eqb (suc b) 0 (λ e. omega arith)

-- a norm code is a byte
pub codes : (reader : FieldNormReader) (norms : List ℕ) → CodeFits reader → ((k : ℕ) → get_or norms k 0 < 256) → (d : ℕ) → fieldnorm_id reader norms d < 256
codes (FromData start) norms c bytes d = bytes (start + d)
codes (Const code) norms c bytes d = c

-- the buffers from block b on
module _ (y : Listed) (b : ℕ) where
  abbrev place : ℕ
  place = y.from + 128 * b

  doc-is : (i : ℕ) → on_from y.docs place i ≡ doc_in y (128 * b + i)
  doc-is i = ap (λ (k : ℕ). get_or y.docs k 0) (omega arith)

  freq-is : (i : ℕ) → on_from y.freqs place i ≡ freq_in y (128 * b + i)
  freq-is i = ap (λ (k : ℕ). get_or y.freqs k 0) (omega arith)

  docs-on : on_from y.docs place ≡ (λ i. doc_in y (128 * b + i))
  docs-on = fun_ext doc-is

  freqs-on : on_from y.freqs place ≡ (λ i. freq_in y (128 * b + i))
  freqs-on = fun_ext freq-is

  behind-is : doc_behind y.docs place (is_first b) ≡ doc_before (doc_in y) (freq_in y) b
  behind-is = go b
    where
      go : (b : ℕ) → doc_behind y.docs (y.from + 128 * b) (is_first b) ≡ doc_before (doc_in y) (freq_in y) b
      go zero = refl
      go (suc c) = ap (λ (k : ℕ). get_or y.docs k 0) (omega arith)

  behind-by : {first : Bool} → first ≡ is_first b → doc_behind y.docs place first ≡ doc_before (doc_in y) (freq_in y) b
  behind-by e = ap (doc_behind y.docs place) e ∙ behind-is

  -- the document before a block, where row 7 lets the blocks before it through
  pub behind-low : {first : Bool} → first ≡ is_first b → {limit : ℕ} → rising_below (doc_in y) true 0 (128 * b) limit ≡ true
      → doc_behind y.docs place first ≤ limit
  behind-low {first} e {limit} p = subst (λ (d : ℕ). d ≤ limit) (sym (behind-by e)) (go b p)
    where
      go : (b : ℕ) → rising_below (doc_in y) true 0 (128 * b) limit ≡ true → doc_before (doc_in y) (freq_in y) b ≤ limit
      go zero p = omega arith
      go (suc c) p =
          let i = 128 * c + 127 in
          let pass = each (λ i. rises (doc_in y) true 0 i && ltb (doc_in y i) limit) (128 * suc c) i p (omega arith) in
          le_of_lt (ltb-true (doc_in y i) limit (second-true (rises (doc_in y) true 0 i) _ pass))

  pub standing : (n : ℕ) {limit : ℕ} → Fits y limit → 128 * b + n ≤ y.count → n ≤ 128 → {first : Bool} → first ≡ is_first b
      → Standing y.docs y.freqs place n first
  standing n F h few {first} e = record {
    docs-in = omega (arith, F.docs-in);
    freqs-in = omega (arith, F.freqs-in);
    few = few;
    behind = λ q. let l = some b (sym e ∙ q) in omega (arith, l);
  }
    where
      some : (b : ℕ) → is_first b ≡ false → 0 < b
      some zero q = absurd (true≢false q)
      some (suc c) q = omega arith

  -- what rows 7 and 8 say of the block's postings
  abbrev pub docs_pass : ℕ → ℕ → Bool
  docs_pass n limit = rising_below (λ i. doc_in y (128 * b + i)) (is_first b) (doc_before (doc_in y) (freq_in y) b) n limit

  abbrev pub freqs_pass : ℕ → Bool
  freqs_pass n = freqs_right (λ i. freq_in y (128 * b + i)) n

  pub refused-is : (n limit : ℕ) {first : Bool} → first ≡ is_first b
      → refused_for y.docs y.freqs place n first limit ≡ first_of (docs_pass n limit) (freqs_pass n) true
  refused-is n limit {first} e =
      ap (λ (z : Bool). refused_for y.docs y.freqs place n z limit) e
      ∙ ap (λ (p : ℕ). first_of (rising_below (on_from y.docs place) (is_first b) p n limit) (freqs_right (on_from y.freqs place) n) true) behind-is
      ∙ ap (λ (d : ℕ → ℕ). first_of (rising_below d (is_first b) (doc_before (doc_in y) (freq_in y) b) n limit) (freqs_right (on_from y.freqs place) n) true) docs-on
      ∙ ap (λ (f : ℕ → ℕ). first_of (docs_pass n limit) (freqs_right f n) true) freqs-on

  -- its bytes
  differs-on : (strict : Bool) {first : Bool} → first ≡ is_first b
      → differ (on_from y.docs place) strict first (doc_behind y.docs place first) ≡ doc_differ (doc_in y) (freq_in y) strict b
  unfolding doc_differ
  differs-on strict {first} e =
      ap (λ (z : Bool). differ (on_from y.docs place) strict z (doc_behind y.docs place z)) e
      ∙ ap (λ (p : ℕ). differ (on_from y.docs place) strict (is_first b) p) behind-is
      ∙ ap (λ (d : ℕ → ℕ). differ d strict (is_first b) (doc_before (doc_in y) (freq_in y) b)) docs-on

  -- a full block's, by its widths
  module _ {first : Bool} (e : first ≡ is_first b) {previous limit : ℕ} (ep : previous ≡ doc_behind y.docs place first) {r : Look}
      (K : Looked y.docs y.freqs place first previous limit (Ok r)) where
    doc-bits : r.doc_bits ≡ doc_bits (doc_in y) (freq_in y) b
    unfolding doc_bits doc_values
    doc-bits =
        K.doc-bits-are
        ∙ ap (λ (v : ℕ → ℕ). least_width (bytes_of 128 v)) (ap (differ (on_from y.docs place) true first) ep ∙ differs-on true e)

    freq-bits : r.freq_bits ≡ freq_bits (doc_in y) (freq_in y) b
    unfolding freq_bits freq_values
    freq-bits = K.freq-bits-are ∙ ap (λ (f : ℕ → ℕ). least_width (bytes_of 128 (λ i. f i - 1))) freqs-on

    pub block-bytes : 16 * (r.doc_bits + r.freq_bits) ≡ length (block_bytes (doc_in y) (freq_in y) b)
    unfolding block_bytes
    block-bytes =
        sums doc-bits freq-bits
        (block-long (doc_values (doc_in y) (freq_in y) b) (doc_bits (doc_in y) (freq_in y) b))
        (block-long (freq_values (doc_in y) (freq_in y) b) (freq_bits (doc_in y) (freq_in y) b))
        ∙ sym (length-append (packed_block (doc_values (doc_in y) (freq_in y) b) (doc_bits (doc_in y) (freq_in y) b))
        (packed_block (freq_values (doc_in y) (freq_in y) b) (freq_bits (doc_in y) (freq_in y) b)))
      where
        sums : {a c p q m n : ℕ} → a ≡ p → c ≡ q → m ≡ 16 * p → n ≡ 16 * q → 16 * (a + c) ≡ m + n
        sums e f g h = omega arith

  pub tail-bytes : (n : ℕ) {first : Bool} → first ≡ is_first b → tail_length y.docs y.freqs place n first ≡ length (tail_bytes (doc_in y) (freq_in y) b n)
  unfolding tail_length tail_bytes
  tail-bytes n {first} e =
      ap (λ (v : ℕ → ℕ). row_length n v + row_length n (on_from y.freqs place)) (differs-on false e)
      ∙ ap (λ (f : ℕ → ℕ). row_length n (doc_differ (doc_in y) (freq_in y) false b) + row_length n f) freqs-on
      ∙ sym (length-append (vint_row n (doc_differ (doc_in y) (freq_in y) false b)) (vint_row n (λ i. freq_in y (128 * b + i))))

-- the scores of a block's first n postings, by the list's struct
module _ (y : Listed) (b : ℕ) {n limit : ℕ} (F : Fits y limit) (w : Bm25Weight) (W : WeightOf y.weight y.average w)
    (bytes : (d : ℕ) → norm_in y d < 256) {first : Bool} {ds fs : List ℕ} (L : Loaded y.docs y.freqs (y.from + 128 * b) n first limit 0 ds fs) where
  pub score-is : (i : ℕ) → i < n → posting_score y.reader y.norms w ds fs i ≡ score_in y (128 * b + i)
  score-is i h =
      ap (λ (d : ℕ). weight.score_in w (norm_in y d) (get_or fs i 0)) (L.docs-are refl i h ∙ doc-is y b i)
      ∙ ap (λ (f : ℕ). weight.score_in w (norm_in y (doc_in y (128 * b + i))) f) (L.freqs-are refl i h ∙ freq-is y b i)
      ∙ score-in y.weight y.average w W (norm_in y (doc_in y (128 * b + i))) (freq_in y (128 * b + i)) (bytes (doc_in y (128 * b + i)))

  pub covers-is : {bound : Float} → bound ≡ max_score y.weight y.average → {r : Bool}
      → r ≡ all_covered bound n (posting_score y.reader y.norms w ds fs)
      → r ≡ all_covered (max_score y.weight y.average) n (λ i. score_in y (128 * b + i))
  covers-is {bound} e er =
      er ∙ covered_same bound (posting_score y.reader y.norms w ds fs) (λ i. score_in y (128 * b + i)) n score-is
      ∙ ap (λ (z : Float). all_covered z n (λ i. score_in y (128 * b + i))) e

  number_at : Standing y.docs y.freqs (y.from + 128 * b) n first → (i : ℕ) → i < n → T (within 1000 (score_in y (128 * b + i)))
  number_at S i h = score-within y.weight y.average (norm_in y (doc_in y (128 * b + i))) (freq_in y (128 * b + i)) F.weight-ok F.average-ok
      (bytes (doc_in y (128 * b + i))) (small (subst (λ (f : ℕ). f ≤ 2013265944) (freq-is y b i) ((are-right L S F.few).most i h)))
    where
      small : {f : ℕ} → f ≤ 2013265944 → f < 2 ^ 32
      small h = lt_of_le_of_lt h (lit< tt)

-- a full block's highest score
module _ (y : Listed) (b : ℕ) {limit : ℕ} (F : Fits y limit) (w : Bm25Weight) (W : WeightOf y.weight y.average w)
    (bytes : (d : ℕ) → norm_in y d < 256) {first : Bool} {ds fs : List ℕ} (L : Loaded y.docs y.freqs (y.from + 128 * b) 128 first limit 0 ds fs)
    (S : Standing y.docs y.freqs (y.from + 128 * b) 128 first) {scores : List Float}
    (H : Holds nan 128 (posting_score y.reader y.norms w ds fs) scores) where
  score-at : (i : ℕ) → i < 128 → get_or scores i nan ≡ score_in y (128 * b + i)
  score-at i h = H.at i h ∙ score-is y b F w W bytes L i h

  pub numbers : Numbers scores
  numbers i h = subst (λ (x : Float). T (within 1000 x)) (sym (score-at i h)) (number_at y b F w W bytes L S i h)

  module _ {top : ℕ} (et : top ≡ highest (λ i. get_or scores i nan) 128) where
    pub top-is : top ≡ top_in y b
    unfolding top_in
    top-is = et ∙ highest-same (λ i. get_or scores i nan) (λ i. score_in y (128 * b + i)) 128 score-at

    -- the bound covers every score if it covers the highest
    pub top-covers : {bound : Float} → bound ≡ max_score y.weight y.average
        → not (lt bound (get_or scores top nan)) ≡ all_covered (max_score y.weight y.average) 128 (λ i. score_in y (128 * b + i))
    top-covers {bound} e =
        same_test (not (lt bound (get_or scores top nan))) (all_covered bound 128 (λ i. get_or scores i nan)) forth back
        ∙ covered_same bound (λ i. get_or scores i nan) (λ i. score_in y (128 * b + i)) 128 score-at
        ∙ ap (λ (z : Float). all_covered z 128 (λ i. score_in y (128 * b + i))) e
      where
        inside : top < 128
        inside = rw et (highest-in (λ i. get_or scores i nan) 128 (lit< tt))

        number : T (within 1000 bound)
        number = subst (λ (x : Float). T (within 1000 x)) (sym e)
            (score-within y.weight y.average 255 2013265944 F.weight-ok F.average-ok (lit< tt) (lit< tt))

        passes : (i : ℕ) → i < 128 → (t : Bool) → lt bound (get_or scores i nan) ≡ t → not (lt bound (get_or scores top nan)) ≡ true → not t ≡ true
        passes i h true q p =
            let most = subst (λ (k : ℕ). lt (get_or scores k nan) (get_or scores i nan) ≡ false) (sym et) (highest-most 1000 (λ i. get_or scores i nan) 128 i numbers h) in
            let over = below-through bound (get_or scores i nan) (get_or scores top nan) number (numbers top inside) q most in
            sym (ap not over) ∙ p
        passes i h false q p = refl

        forth : not (lt bound (get_or scores top nan)) ≡ true → all_covered bound 128 (λ i. get_or scores i nan) ≡ true
        forth p = all _ 128 (λ i h. passes i h (lt bound (get_or scores i nan)) refl p)

        back : all_covered bound 128 (λ i. get_or scores i nan) ≡ true → not (lt bound (get_or scores top nan)) ≡ true
        back p = each (λ i. not (lt bound (get_or scores i nan))) 128 top p inside

-- the documents of a block that is loaded are low
pub loaded-below : {docs freqs : List ℕ} {at limit : ℕ} {first : Bool} {ds fs : List ℕ} → Loaded docs freqs at 128 first limit 0 ds fs → Below limit ds
loaded-below L i h = rw (L.docs-are refl i h) (under L i h)
