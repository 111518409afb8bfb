-- The values of a block, from the postings of a list.
use mathlib.Core.Path.{◌≡◌, refl, ap, ◌∙◌}
use mathlib.Core.Bool.{Bool, true, false, cond}
use mathlib.Core.List.{List}
use Prim.Native.Nat.{ℕ, zero, suc, ◌+◌, ◌-◌, ◌*◌, ◌≤◌, ◌<◌}
use native.Mathlib.Nat.{add_assoc}
use native.Mathlib.Omega.{arith}
use lib.Dec.{eqb}
use lib.ListN.{length, get_or, set}
use borrow.Author.Tests.{ne_eqb}
use Rattle.compression.specs.Documents.{gap_of, start_of}
use Rattle.encode.specs.Differences.{floor_at, differ}
use Rattle.encode.specs.Inner.Fronted.{Rising, Fronted}
use Rattle.notefile.specs.Lists.{is_first}
use Rattle.notefile.specs.Inner.Reads.{docs_of, freqs_of, Sized}
use Rattle.notefile.proofs.Pairs.{new-docs, new-freqs, old-docs, old-freqs, two-still}
use Rattle.house.specs.House.{doc_before, doc_differ}
use Rattle.house.specs.Inner.Sound.{Sound}
use Rattle.list_writer.specs.Inner.Skips.{numbers_from}
use Rattle.list_writer.specs.Inner.Filled.{PostingsIn, Filled}

pub gap-low : (strict : Bool) → gap_of strict ≤ 1
gap-low true = omega arith
gap-low false = omega arith

pub first-is : (b : ℕ) → eqb b 0 ≡ is_first b
first-is zero = refl
first-is (suc b) = ne_eqb (suc b) 0 (λ e. omega arith)

-- fewer postings
pub sound-less : {d f : ℕ → ℕ} {n limit : ℕ} (m : ℕ) → m ≤ n → Sound d f n limit → Sound d f m limit
sound-less m h S = record {
  few = S.few;
  rise = λ i j l k. S.rise i j l (omega arith);
  below = λ i l. S.below i (omega arith);
  some = λ i l. S.some i (omega arith);
  most = λ i l. S.most i (omega arith);
}

-- differences know no more than their documents
pub differ_same : {d e : ℕ → ℕ} {first first' : Bool} {previous previous' : ℕ} → ((j : ℕ) → d j ≡ e j) → first ≡ first'
    → previous ≡ previous' → (strict : Bool) (i : ℕ) → differ d strict first previous i ≡ differ e strict first' previous' i
unfolding differ
differ_same h g k strict zero = rw (h 0, g, k)
differ_same h g k strict (suc i) = rw (h i, h (suc i))

module _ {d f : ℕ → ℕ} (strict : Bool) where
  -- what the first value is added to lies not above the first document
  start-low : (b n : ℕ) → Sound d f (128 * b + n) 1048576 → 0 < n → start_of strict (doc_before d f b) (is_first b) ≤ d (128 * b + 0)
  start-low zero n S h = omega arith
  start-low (suc b) n S h = omega (arith, S.rise (128 * b + 127) (128 * suc b + 0) (omega arith) (omega arith), gap-low strict)

  previous-low : (b n : ℕ) → Sound d f (128 * b + n) 1048576 → doc_before d f b ≤ 1048576
  previous-low zero n S = omega arith
  previous-low (suc b) n S = omega (arith, S.below (128 * b + 127) (omega arith))

module _ (docs : List ℕ) (from : ℕ) where
  -- numbers as the code reads them
  pub number_same : (b i : ℕ) → get_or docs (from + 128 * b + i) 0 ≡ numbers_from docs from (128 * b + i)
  number_same b i = ap (λ (x : ℕ). get_or docs x 0) (add_assoc from (128 * b) i)

  -- the document before a block, as the code reads it
  pub previous-is : (f : ℕ → ℕ) (b : ℕ) {r : ℕ} → r ≡ cond (eqb b 0) 0 (get_or docs (from + 128 * b - 1) 0)
      → r ≡ doc_before (numbers_from docs from) f b
  previous-is f zero e = e
  previous-is f (suc b) e =
      e
      ∙ ap (λ (t : Bool). cond t 0 (get_or docs (from + 128 * suc b - 1) 0)) (first-is (suc b))
      ∙ ap (λ (x : ℕ). get_or docs x 0) (let z : from + 128 * suc b - 1 ≡ from + (128 * b + 127) = omega arith in z)

module _ {docs freqs : List ℕ} {from : ℕ} (b n : ℕ) (P : PostingsIn docs freqs from (128 * b + n)) {first : Bool} {previous : ℕ}
    (g : first ≡ is_first b) (p : previous ≡ doc_before (numbers_from docs from) (numbers_from freqs from) b) (strict : Bool)
  where
    pub previous-fits : previous + gap_of strict < 4294967296
    previous-fits = omega (arith, p, previous-low strict b n P.sound, gap-low strict)

    floors : (i : ℕ) → i < n
        → floor_at (λ j. get_or docs (from + 128 * b + j) 0) strict first previous i ≤ get_or docs (from + 128 * b + i) 0
    floors zero h = rw (g, p, number_same docs from b 0) (start-low strict b n P.sound (omega arith))
    floors (suc i) h =
        omega (
          arith,
          P.sound.rise (128 * b + i) (128 * b + suc i) (omega arith) (omega arith),
          gap-low strict,
          number_same docs from b i,
          number_same docs from b (suc i),
        )

    pub docs-rise : Rising (λ j. get_or docs (from + 128 * b + j) 0) strict first previous n
    docs-rise = record {
      floors = floors;
      small = λ i h. omega (arith, P.sound.below (128 * b + i) (omega arith), gap-low strict, number_same docs from b i);
    }

    pub freqs-rise : (i : ℕ) → i < n → gap_of strict ≤ get_or freqs (from + 128 * b + i) 0
    freqs-rise i h = omega (arith, P.sound.some (128 * b + i) (omega arith), gap-low strict, number_same freqs from b i)

    -- documents and then frequencies are put into a block
    pub filled : {block : List (List ℕ)} {dv fv : List ℕ} → Sized block
        → Fronted (differ (λ j. get_or docs (from + 128 * b + j) 0) strict first previous) n (docs_of block) dv
        → Fronted (λ i. get_or freqs (from + 128 * b + i) 0 - gap_of strict) n (freqs_of (set block 0 dv)) fv
        → Filled (numbers_from docs from) (numbers_from freqs from) strict b n (set (set block 0 dv) 1 fv)
    unfolding doc_differ
    filled {block} {dv} {fv} Z D F =
        let one = two-still block Z.two 0 dv in
        let docs-now : docs_of (set (set block 0 dv) 1 fv) ≡ dv = old-docs (set block 0 dv) fv ∙ new-docs block Z.two dv in
        let freqs-now : freqs_of (set (set block 0 dv) 1 fv) ≡ fv = new-freqs (set block 0 dv) one fv in
        record {
          sized = record {
            two = two-still (set block 0 dv) one 1 fv;
            long-docs = ap length docs-now ∙ D.long;
            long-freqs = ap length freqs-now ∙ F.long;
          };
          docs-are = λ i h.
              ap (λ (l : List ℕ). get_or l i 0) docs-now ∙ D.values i h ∙ differ_same (number_same docs from b) g p strict i;
          freqs-are = λ i h.
              ap (λ (l : List ℕ). get_or l i 0) freqs-now ∙ F.values i h ∙ ap (λ (x : ℕ). x - gap_of strict) (number_same freqs from b i);
        }

pub freqs-room : {block : List (List ℕ)} → Sized block → (dv : List ℕ) → length (freqs_of (set block 0 dv)) ≡ 128
freqs-room {block} Z dv = ap length (old-freqs block dv) ∙ Z.long-freqs
