-- A list priced: what the loop over its full blocks keeps, its tail, and both together.
use mathlib.Core.Path.{◌≡◌, refl, sym, ap, ◌∙◌, subst}
use mathlib.Core.Bool.{Bool, true, false, cond, not}
use mathlib.Core.List.{List}
use mathlib.Core.Logic.{⊎_elim}
use Prim.Native.Nat.{ℕ, ◌+◌, ◌*◌, ◌/◌, ◌%◌, ◌≤◌, ◌<◌}
use native.Mathlib.Nat.{not-suc-le-zero, eq-or-lt_of_le, le_of_suc-le-suc}
use native.Mathlib.Numerals.{add-one}
use native.Mathlib.Omega.{arith}
use lib.Dec.{eqb}
use lib.ListN.{length, get_or, set, length-set, length-append}
use lib.Seq.{get_or-set_same, get_or-set_other}
use Rattle.std.specs.Prelude.{Result}
use Rattle.compression.specs.Documents.{rising_below}
use Rattle.frequencies.specs.Frequencies.{freqs_right}
use Rattle.bm25.specs.Bound.{max_score, all_covered}
use Rattle.notefile.specs.Lists.{is_first}
use Rattle.notefile.specs.Inner.Order.{first_of}
use Rattle.house.specs.House.{block_bytes, blocks_bytes, tail_bytes, postings_bytes}
use Rattle.house.specs.Inner.Listed.{Listed, doc_in, freq_in, score_in, top_in, listed_refusal, postings_in, Fits}
use Rattle.list_price.specs.Inner.Loads.{refused_for}
use Rattle.list_price.specs.Inner.Prices.{bytes_of, refused_up_to, refused_from, BlocksPriced, TailPriced, Priced}
use Rattle.outcome.specs.Inner.Lower.{lower}
use Rattle.outcome.specs.Refusals.{refusal_number}
use Rattle.outcome.specs.declared.refusal.Refusal.{Refusal}
use Rattle.list_price.proofs.Split.{lower-none, refused-split, docs-stop, docs-go-on}
use Rattle.list_price.proofs.Loads.{both_right}
use Rattle.list_price.proofs.Blocks.{docs_pass, freqs_pass, refused-is}

-- what a refusal of rows 7 and 8 says of them
docs-wrong : (d f : Bool) → 7 ≡ first_of d f true → d ≡ false
docs-wrong true true e = absurd (omega arith)
docs-wrong true false e = absurd (omega arith)
docs-wrong false f e = refl

docs-pass : (d f : Bool) {r : ℕ} → r ≡ first_of d f true → (r ≡ 7 → ⊥) → d ≡ true
docs-pass true f e n = refl
docs-pass false f e n = absurd (n e)

freqs-wrong : (d f : Bool) {r : ℕ} → r ≡ first_of d f true → (r ≡ 7 → ⊥) → (r ≡ 0 → ⊥) → f ≡ false
freqs-wrong true true e n z = absurd (z e)
freqs-wrong true false e n z = refl
freqs-wrong false f e n z = absurd (n e)

-- a refusal so far, after a block that only row 9 can stop, and after one that row 8 stops
scored : (d f c c' below : Bool) → not below ≡ c' → cond (eqb (first_of d f c) 0) (cond below 9 0) (first_of d f c) ≡ lower (first_of d f c) (first_of true true c')
scored true true true true true e = absurd (let z : ◌≡◌ {A = ℕ} 0 1 = cc in omega arith)
scored true true true false true e = refl
scored true true true true false e = refl
scored true true true false false e = absurd (let z : ◌≡◌ {A = ℕ} 0 1 = cc in omega arith)
scored true true false true below e = refl
scored true true false false below e = refl
scored true false c true below e = refl
scored true false c false below e = refl
scored false f c true below e = refl
scored false f c false below e = refl

eight : (f c c' : Bool) → 8 ≡ lower (first_of true f c) (first_of true false c')
eight true true c' = refl
eight true false c' = refl
eight false c c' = refl

-- b blocks are priced, and row 7 stops none of them
pub record Pricing (y : Listed) (limit start : ℕ) (tops₀ tops : List ℕ) (refusal postings b : ℕ) : Type 0 where
  pub within : b ≤ y.count / 128
  pub docs-right : rising_below (doc_in y) true 0 (128 * b) limit ≡ true
  pub refusal_is : refusal ≡ refused_up_to y limit (128 * b)
  pub length-is : refusal ≡ 0 → postings ≡ length (blocks_bytes (doc_in y) (freq_in y) b)
  pub small : postings ≤ 1024 * b
  pub long : length tops ≡ 131072
  pub tops_are : refusal ≡ 0 → (k : ℕ) → k < b → get_or tops (start + k) 0 ≡ top_in y k
  pub kept : (k : ℕ) → k < start → get_or tops k 0 ≡ get_or tops₀ k 0

pub begun : (y : Listed) (limit start : ℕ) {tops : List ℕ} → length tops ≡ 131072 → Pricing y limit start tops tops 0 0 0
unfolding blocks_bytes refused_up_to
begun y limit start h = record {
  within = omega arith;
  docs-right = refl;
  refusal_is = refl;
  length-is = λ e. refl;
  small = omega arith;
  long = h;
  tops_are = λ e k l. absurd (not-suc-le-zero l);
  kept = λ k l. refl;
}

pub same-as : {y : Listed} {limit start : ℕ} {tops₀ tops tops' : List ℕ} {refusal refusal' postings postings' b : ℕ}
    → Pricing y limit start tops₀ tops refusal postings b → tops' ≡ tops → refusal' ≡ refusal → postings' ≡ postings
    → Pricing y limit start tops₀ tops' refusal' postings' b
same-as P e f g = rw (e, f, g) P

module _ {y : Listed} {limit start : ℕ} {tops₀ tops : List ℕ} {refusal postings b : ℕ} (P : Pricing y limit start tops₀ tops refusal postings b) where
  pub all-priced : y.count / 128 ≤ b → {r : Result ℕ Refusal} → refusal_number r ≡ refusal → (refusal_number r ≡ 0 → bytes_of r ≡ postings) → bytes_of r ≤ postings → BlocksPriced y limit start tops₀ r tops
  all-priced h {r} er ep low =
      let e : b ≡ y.count / 128 = omega (arith, P.within) in record {
        refusal_is = er ∙ P.refusal_is ∙ ap (λ (k : ℕ). refused_up_to y limit (128 * k)) e;
        length-is = λ z. ep z ∙ P.length-is (sym er ∙ z) ∙ ap (λ (k : ℕ). length (blocks_bytes (doc_in y) (freq_in y) k)) e;
        small = omega (arith, P.small, low, e);
        tops_are = λ z. record { at = λ k l. P.tops_are (sym er ∙ z) k (omega (arith, e, l)) };
        kept = P.kept;
      }

  module _ (h : b < y.count / 128) {first : Bool} (ef : first ≡ is_first b) {found : ℕ}
      (F : found ≡ refused_for y.docs y.freqs (y.from + 128 * b) 128 first limit) where
    found-is : found ≡ first_of (docs_pass y b 128 limit) (freqs_pass y b 128) true
    found-is = F ∙ refused-is y b 128 limit ef

    pub stopped : found ≡ 7 → {r : Result ℕ Refusal} → refusal_number r ≡ 7 → bytes_of r ≡ 0 → BlocksPriced y limit start tops₀ r tops
    stopped e {r} er ep = record {
      refusal_is = er ∙ docs-stop y limit b (y.count / 128) h (docs-wrong (docs_pass y b 128 limit) (freqs_pass y b 128) (sym e ∙ found-is));
      length-is = λ z. absurd (omega (arith, er, z));
      small = omega (arith, ep);
      tops_are = λ z. absurd (omega (arith, er, z));
      kept = P.kept;
    }

    module _ (n7 : found ≡ 7 → ⊥) where
      passed : docs_pass y b 128 limit ≡ true
      passed = docs-pass (docs_pass y b 128 limit) (freqs_pass y b 128) found-is n7

      next : 128 * b + 128 ≡ 128 * (b + 1)
      next = omega arith

      -- the refusal of one block more
      joined : {q r : ℕ} → q ≡ lower (refused_up_to y limit (128 * b)) r → r ≡ refused_from y limit b 128 → q ≡ refused_up_to y limit (128 * (b + 1))
      joined {q} {r} e er =
          e ∙ ap (lower (refused_up_to y limit (128 * b))) er ∙ sym (refused-split y limit b 128) ∙ ap (refused_up_to y limit) next

      -- row 8 stops it
      module _ (n0 : found ≡ 0 → ⊥) where
        eight_is : 8 ≡ lower (refused_up_to y limit (128 * b)) (refused_from y limit b 128)
        unfolding refused_up_to refused_from
        eight_is =
            let wrong = freqs-wrong (docs_pass y b 128 limit) (freqs_pass y b 128) found-is n7 n0 in
            rw (P.docs-right, passed, wrong)
            (eight (freqs_right (freq_in y) (128 * b)) (all_covered (max_score y.weight y.average) (128 * b) (score_in y))
            (all_covered (max_score y.weight y.average) 128 (λ i. score_in y (128 * b + i))))

        found-eight : found ≡ 8
        found-eight = found-is ∙ rw (passed, freqs-wrong (docs_pass y b 128 limit) (freqs_pass y b 128) found-is n7 n0) refl

        pub eighth : Pricing y limit start tops₀ tops found postings (b + 1)
        eighth = record {
          within = omega arith;
          docs-right = docs-go-on y limit b P.docs-right passed;
          refusal_is = joined (found-eight ∙ eight_is) refl;
          length-is = λ z. absurd (n0 z);
          small = omega (arith, P.small);
          long = P.long;
          tops_are = λ z. absurd (n0 z);
          kept = P.kept;
        }

      -- neither stops it, and row 9 goes by its highest score
      module _ (n0 : found ≡ 0) (below : Bool)
          (covers : not below ≡ all_covered (max_score y.weight y.average) 128 (λ i. score_in y (128 * b + i)))
          {q : ℕ} (eq : q ≡ cond (eqb refusal 0) (cond below 9 0) refusal) where
        score-is : q ≡ lower (refused_up_to y limit (128 * b)) (refused_from y limit b 128)
        unfolding refused_up_to refused_from
        score-is =
            let both = both_right (docs_pass y b 128 limit) (freqs_pass y b 128) (sym n0 ∙ found-is) in
            eq ∙ ap (λ (r : ℕ). cond (eqb r 0) (cond below 9 0) r) P.refusal_is
            ∙ rw (both.0, both.1)
            (scored (rising_below (doc_in y) true 0 (128 * b) limit) (freqs_right (freq_in y) (128 * b))
            (all_covered (max_score y.weight y.average) (128 * b) (score_in y))
            (all_covered (max_score y.weight y.average) 128 (λ i. score_in y (128 * b + i))) below covers)

        before-none : q ≡ 0 → refusal ≡ 0
        before-none z = P.refusal_is ∙ (lower-none (refused_up_to y limit (128 * b)) (refused_from y limit b 128) (sym score-is ∙ z)).0

        module _ {top : ℕ} (et : top ≡ top_in y b) (room : start + y.count / 128 ≤ 131072) where
          top-at : (k : ℕ) → q ≡ 0 → k < b + 1 → get_or (set tops (start + b) top) (start + k) 0 ≡ top_in y k
          top-at k z l = ⊎_elim
              (λ (e : k ≡ b). rw e (get_or-set_same tops (start + b) top 0 (omega (arith, P.long)) ∙ et))
              (λ (m : k < b). get_or-set_other tops (start + b) (start + k) top 0 (λ e. omega arith) ∙ P.tops_are (before-none z) k m)
              (eq-or-lt_of_le (le_of_suc-le-suc (subst (λ (m : ℕ). k < m) (add-one b) l)))

          bytes-more : {len : ℕ} → len ≡ length (block_bytes (doc_in y) (freq_in y) b) → q ≡ 0
              → postings + len ≡ length (blocks_bytes (doc_in y) (freq_in y) (b + 1))
          unfolding blocks_bytes
          bytes-more {len} el z =
              sums (P.length-is (before-none z)) el ∙ sym (length-append (blocks_bytes (doc_in y) (freq_in y) b) (block_bytes (doc_in y) (freq_in y) b))
              ∙ ap (λ (k : ℕ). length (blocks_bytes (doc_in y) (freq_in y) k)) (sym (add-one b))
            where
              sums : {a c p r : ℕ} → a ≡ p → c ≡ r → a + c ≡ p + r
              sums e f = rw (e, f)

          pub ninth : {len : ℕ} → len ≡ length (block_bytes (doc_in y) (freq_in y) b) → len ≤ 1024
              → Pricing y limit start tops₀ (set tops (start + b) top) q (postings + len) (b + 1)
          ninth el low = record {
            within = omega arith;
            docs-right = docs-go-on y limit b P.docs-right passed;
            refusal_is = joined score-is refl;
            length-is = bytes-more el;
            small = omega (arith, P.small);
            long = length-set tops (start + b) top ∙ P.long;
            tops_are = λ z k l. top-at k z l;
            kept = λ k l. get_or-set_other tops (start + b) k top 0 (λ e. omega arith) ∙ P.kept k l;
          }

-- a refusal of rows 7 and 8 stands, whatever row 9 says
refused-before : (d f c : Bool) {r : ℕ} → r ≡ first_of d f true → (r ≡ 0 → ⊥) → r ≡ first_of d f c
refused-before true true c e n = absurd (n e)
refused-before true false c e n = e
refused-before false f c e n = e

-- the tail
module _ (y : Listed) (limit : ℕ) where
  abbrev blocks : ℕ
  blocks = y.count / 128

  abbrev rest : ℕ
  rest = y.count % 128

  abbrev pub covers : Bool
  covers = all_covered (max_score y.weight y.average) rest (λ i. score_in y (128 * blocks + i))

  module _ {first : Bool} (ef : first ≡ is_first blocks) {found : ℕ}
      (F : found ≡ refused_for y.docs y.freqs (y.from + 128 * blocks) rest first limit) where
    tail-found : found ≡ first_of (docs_pass y blocks rest limit) (freqs_pass y blocks rest) true
    tail-found = F ∙ refused-is y blocks rest limit ef

    pub tail-refused : (found ≡ 0 → ⊥) → {r : Result ℕ Refusal} → refusal_number r ≡ found → bytes_of r ≡ 0 → TailPriced y limit r
    unfolding refused_from
    tail-refused n {r} er ep = record {
      refusal_is = er ∙ refused-before (docs_pass y blocks rest limit) (freqs_pass y blocks rest) covers tail-found n;
      length-is = λ z. absurd (n (sym er ∙ z));
      small = omega (arith, ep);
    }

    module _ (n0 : found ≡ 0) where
      tail-is : refused_from y limit blocks rest ≡ first_of true true covers
      unfolding refused_from
      tail-is = let both = both_right (docs_pass y blocks rest limit) (freqs_pass y blocks rest) (sym n0 ∙ tail-found) in rw (both.0, both.1)

      pub tail-bound : covers ≡ false → {r : Result ℕ Refusal} → refusal_number r ≡ 9 → bytes_of r ≡ 0 → TailPriced y limit r
      tail-bound e {r} er ep = record {
        refusal_is = er ∙ sym (tail-is ∙ ap (first_of true true) e);
        length-is = λ z. absurd (omega (arith, er, z));
        small = omega (arith, ep);
      }

      pub tail-priced : covers ≡ true → {r : Result ℕ Refusal} → refusal_number r ≡ 0 → bytes_of r ≡ length (tail_bytes (doc_in y) (freq_in y) blocks rest) → bytes_of r ≤ 1280
          → TailPriced y limit r
      tail-priced e {r} er ep low = record { refusal_is = er ∙ sym (tail-is ∙ ap (first_of true true) e); length-is = λ z. ep; small = low }

-- both together
module _ {y : Listed} {limit start : ℕ} {tops₀ tops : List ℕ} {full : Result ℕ Refusal} (B : BlocksPriced y limit start tops₀ full tops) where
  whole : 128 * (y.count / 128) + y.count % 128 ≡ y.count
  whole = omega arith

  listed-is : refused_up_to y limit y.count ≡ listed_refusal y limit
  unfolding refused_up_to listed_refusal
  listed-is = refl

  all-is : lower (refusal_number full) (refused_from y limit (y.count / 128) (y.count % 128)) ≡ listed_refusal y limit
  all-is =
      ap (λ (r : ℕ). lower r (refused_from y limit (y.count / 128) (y.count % 128))) B.refusal_is
      ∙ sym (refused-split y limit (y.count / 128) (y.count % 128)) ∙ ap (refused_up_to y limit) whole ∙ listed-is

  seven-stays : (d f c : Bool) → lower 7 (first_of d f c) ≡ 7
  seven-stays true true true = refl
  seven-stays true true false = refl
  seven-stays true false c = refl
  seven-stays false f c = refl

  seven_is : refusal_number full ≡ 7 → 7 ≡ listed_refusal y limit
  unfolding refused_from
  seven_is e =
      sym (seven-stays (docs_pass y (y.count / 128) (y.count % 128) limit) (freqs_pass y (y.count / 128) (y.count % 128))
      (all_covered (max_score y.weight y.average) (y.count % 128) (λ i. score_in y (128 * (y.count / 128) + i))))
      ∙ ap (λ (r : ℕ). lower r (refused_from y limit (y.count / 128) (y.count % 128))) (sym e) ∙ all-is

  module _ (F : Fits y limit) where
    few : bytes_of full ≤ 8388608
    few = omega (arith, B.small, F.few, F.count-in)

    pub seventh : refusal_number full ≡ 7 → Priced y limit start tops₀ full tops
    seventh e = record {
      refusal_is = e ∙ seven_is e;
      length-is = λ z. absurd (omega (arith, e, z));
      small = omega (arith, few);
      tops_are = λ z. absurd (omega (arith, e, z));
      kept = B.kept;
    }

    module _ {tail : Result ℕ Refusal} (L : TailPriced y limit tail) (r : Result ℕ Refusal) (er : refusal_number r ≡ lower (refusal_number full) (refusal_number tail)) where
      none : refusal_number r ≡ 0 → (refusal_number full ≡ 0) × (refusal_number tail ≡ 0)
      none z = lower-none (refusal_number full) (refusal_number tail) (sym er ∙ z)

      bytes-are : refusal_number r ≡ 0 → bytes_of full + bytes_of tail ≡ length (postings_in y)
      unfolding postings_in postings_bytes
      bytes-are z =
          sums (B.length-is (none z).0) (L.length-is (none z).1)
          ∙ sym (length-append (blocks_bytes (doc_in y) (freq_in y) (y.count / 128)) (tail_bytes (doc_in y) (freq_in y) (y.count / 128) (y.count % 128)))
        where
          sums : {a c p q : ℕ} → a ≡ p → c ≡ q → a + c ≡ p + q
          sums e f = rw (e, f)

      pub together : (refusal_number r ≡ 0 → bytes_of r ≡ bytes_of full + bytes_of tail) → bytes_of r ≤ bytes_of full + bytes_of tail → Priced y limit start tops₀ r tops
      together ep low = record {
        refusal_is = er ∙ ap (lower (refusal_number full)) L.refusal_is ∙ all-is;
        length-is = λ z. ep z ∙ bytes-are z;
        small = omega (arith, low, few, L.small);
        tops_are = λ z. B.tops_are (none z).0;
        kept = B.kept;
      }
