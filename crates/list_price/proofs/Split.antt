-- A list's rows 7 to 9, cut behind its first blocks: what the postings before the cut and behind it are refused for.
use mathlib.Core.Path.{◌≡◌, refl, sym, ap, ◌∙◌}
use mathlib.Core.Bool.{Bool, true, false, ◌&&◌, cond, not}
use Prim.Native.Nat.{ℕ, zero, suc, ◌+◌, ◌-◌, ◌*◌, ◌<◌}
use native.Mathlib.Nat.{add-zero}
use native.Mathlib.Omega.{arith}
use lib.Dec.{eqb, ltb}
use lib.Ieee.{lt}
use borrow.Author.Tests.{eqb-true, eqb-false}
use Rattle.arrays.specs.Every.{every}
use Rattle.arrays.proofs.Every.{and-true}
use Rattle.compression.specs.Documents.{above_last, rises, rising_below}
use Rattle.frequencies.specs.Frequencies.{freq_right, freqs_right}
use Rattle.bm25.specs.Bound.{max_score, all_covered}
use Rattle.notefile.specs.Lists.{is_first}
use Rattle.notefile.specs.Inner.Order.{first_of}
use Rattle.outcome.specs.Inner.Lower.{lower}
use Rattle.notefile.proofs.Decoded.{every-same}
use Rattle.house.specs.House.{doc_before}
use Rattle.house.specs.Inner.Listed.{Listed, doc_in, freq_in, score_in}
use Rattle.list_price.specs.Inner.Prices.{refused_up_to, refused_from}

-- a test of m + n numbers is one of the first m and one of the others
split : (P : ℕ → Bool) (m n : ℕ) → every (m + n) P ≡ every m P && every n (λ i. P (m + i))
split P m zero = ap (λ (k : ℕ). every k P) (add-zero m) ∙ one (every m P)
  where
    one : (b : Bool) → b ≡ b && true
    one true = refl
    one false = refl
split P m (suc n) = ap (λ (k : ℕ). every k P) next ∙ ap (λ (b : Bool). b && P (m + n)) (split P m n) ∙ grouped (every m P) (every n (λ i. P (m + i))) (P (m + n))
  where
    next : m + suc n ≡ suc (m + n)
    next = omega arith

    grouped : (a b c : Bool) → a && b && c ≡ a && (b && c)
    grouped true b c = refl
    grouped false b c = refl

-- row 7, where the documents behind the cut begin with block b
module _ (d f : ℕ → ℕ) (b : ℕ) where
  step_is : (i : ℕ) → rises d true 0 (128 * b + i) ≡ rises (λ j. d (128 * b + j)) (is_first b) (doc_before d f b) i
  step_is zero = first b
    where
      first : (b : ℕ) → rises d true 0 (128 * b + 0) ≡ above_last (λ j. d (128 * b + j)) (is_first b) (doc_before d f b) (is_first b)
      first zero = refl
      first (suc c) =
          let e : 128 * suc c + 0 ≡ suc (128 * c + 127) = omega arith in
          ap (rises d true 0) e ∙ ap (λ (k : ℕ). ltb (d (128 * c + 127)) (d k)) (sym e)
  step_is (suc i) = ap (rises d true 0) e ∙ ap (λ (k : ℕ). ltb (d (128 * b + i)) (d k)) (sym e)
    where
      e : 128 * b + suc i ≡ suc (128 * b + i)
      e = omega arith

  rising-split : (n limit : ℕ)
      → rising_below d true 0 (128 * b + n) limit
      ≡ rising_below d true 0 (128 * b) limit && rising_below (λ j. d (128 * b + j)) (is_first b) (doc_before d f b) n limit
  rising-split n limit =
      split (λ i. rises d true 0 i && ltb (d i) limit) (128 * b) n
      ∙ ap (λ (z : Bool). rising_below d true 0 (128 * b) limit && z)
      (every-same _ _ n (λ i h. ap (λ (z : Bool). z && ltb (d (128 * b + i)) limit) (step_is i)))

-- the lower of two refusals is the first condition over both
joins : (d f c d2 f2 c2 : Bool) → lower (first_of d f c) (first_of d2 f2 c2) ≡ first_of (d && d2) (f && f2) (c && c2)
joins true true true d2 f2 c2 = refl
joins false f c false f2 c2 = refl
joins false f c true false c2 = refl
joins false f c true true false = refl
joins false f c true true true = refl
joins true false c false f2 c2 = refl
joins true false c true false c2 = refl
joins true false c true true false = refl
joins true false c true true true = refl
joins true true false false f2 c2 = refl
joins true true false true false c2 = refl
joins true true false true true false = refl
joins true true false true true true = refl

-- none of two
pub lower-none : (a b : ℕ) → lower a b ≡ 0 → (a ≡ 0) × (b ≡ 0)
lower-none a b e = go (eqb a 0) refl (eqb b 0) refl e
  where
    go : (p : Bool) → eqb a 0 ≡ p → (q : Bool) → eqb b 0 ≡ q → cond p b (cond q a (cond (ltb b a) b a)) ≡ 0 → (a ≡ 0) × (b ≡ 0)
    go true ep q eq e = (eqb-true a 0 ep, e)
    go false ep true eq e = (e, eqb-true b 0 eq)
    go false ep false eq e = absurd (either (ltb b a) e)
      where
        either : (t : Bool) → cond t b a ≡ 0 → ⊥
        either true z = eqb-false b 0 eq z
        either false z = eqb-false a 0 ep z

module _ (y : Listed) (limit : ℕ) where
  pub refused-split : (b n : ℕ) → refused_up_to y limit (128 * b + n) ≡ lower (refused_up_to y limit (128 * b)) (refused_from y limit b n)
  unfolding refused_up_to refused_from
  refused-split b n =
      let m = 128 * b in
      let bound = max_score y.weight y.average in
      rw (rising-split (doc_in y) (freq_in y) b n limit, split (λ i. freq_right (freq_in y i)) m n, split (λ i. not (lt bound (score_in y i))) m n)
      (sym (joins (rising_below (doc_in y) true 0 m limit) (freqs_right (freq_in y) m) (all_covered bound m (score_in y))
      (rising_below (λ j. doc_in y (m + j)) (is_first b) (doc_before (doc_in y) (freq_in y) b) n limit) (freqs_right (λ j. freq_in y (m + j)) n)
      (all_covered bound n (λ j. score_in y (m + j)))))

  -- where row 7 stops a block, it stops the list's full blocks
  pub docs-stop : (b blocks : ℕ) → b < blocks
      → rising_below (λ j. doc_in y (128 * b + j)) (is_first b) (doc_before (doc_in y) (freq_in y) b) 128 limit ≡ false → 7 ≡ refused_up_to y limit (128 * blocks)
  unfolding refused_up_to
  docs-stop b blocks h e =
      let P : ℕ → Bool = λ i. rises (doc_in y) true 0 i && ltb (doc_in y i) limit in
      let m : ℕ = 128 * b + 128 in
      let whole : m + (128 * blocks - m) ≡ 128 * blocks = omega arith in
      let one : every m P ≡ false = rising-split (doc_in y) (freq_in y) b 128 limit ∙ ap (λ (z : Bool). every (128 * b) P && z) e ∙ no (every (128 * b) P) in
      let all : every (128 * blocks) P ≡ false
      = ap (λ (k : ℕ). every k P) (sym whole) ∙ split P m (128 * blocks - m) ∙ ap (λ (z : Bool). z && every (128 * blocks - m) (λ i. P (m + i))) one in
      rw all
    where
      no : (z : Bool) → z && false ≡ false
      no true = refl
      no false = refl

  -- and where it stops none of them, it holds of one block more
  pub docs-go-on : (b : ℕ) → rising_below (doc_in y) true 0 (128 * b) limit ≡ true
      → rising_below (λ j. doc_in y (128 * b + j)) (is_first b) (doc_before (doc_in y) (freq_in y) b) 128 limit ≡ true
      → rising_below (doc_in y) true 0 (128 * (b + 1)) limit ≡ true
  docs-go-on b p q =
      let next : 128 * (b + 1) ≡ 128 * b + 128 = omega arith in
      ap (λ (k : ℕ). rising_below (doc_in y) true 0 k limit) next ∙ rising-split (doc_in y) (freq_in y) b 128 limit ∙ and-true _ _ p q
