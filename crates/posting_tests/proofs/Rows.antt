-- Rows 7 and 8 of a block's postings: the flags that the loops keep, and the tests that the code makes of its documents.
use mathlib.Core.Path.{◌≡◌, refl, sym, ap, ◌∙◌, subst}
use mathlib.Core.Bool.{Bool, true, false, ◌&&◌}
use mathlib.Core.List.{List}
use mathlib.Core.Logic.{◌⊎◌, inl, inr}
use Prim.Native.Nat.{ℕ, zero, suc, ◌+◌, ◌-◌, ◌≤◌, ◌<◌}
use native.Mathlib.Nat.{add-zero, le_of_lt}
use native.Mathlib.Numerals.{add-one}
use native.Mathlib.Omega.{arith}
use lib.Dec.{ltb, leb}
use lib.ListN.{get_or}
use borrow.Author.Tests.{lt-ltb, le-ltb, ltb-true, le-leb, lt-leb}
use Rattle.arrays.specs.Every.{every}
use Rattle.arrays.proofs.Every.{stays, lowered, fails, each, all, and-true, first-true, same_test}
use Rattle.arrays.proofs.Order.{climbs}
use Rattle.compression.specs.Documents.{above_last, rises, rising_below}
use Rattle.frequencies.specs.Frequencies.{freq_right, freqs_right}

-- one frequency tested, from below and from above
module _ (f : ℕ → ℕ) (i : ℕ) where
  right-one : (f i ≡ 0 → ⊥) → f i ≤ 2013265944 → freq_right (f i) ≡ true
  right-one a b = and-true _ _ (lt-ltb 0 (f i) (above a)) (le-leb (f i) 2013265944 b)
    where
      above : (f i ≡ 0 → ⊥) → 0 < f i
      above h = omega arith

  none : f i ≡ 0 → freq_right (f i) ≡ false
  none h = ap (λ (b : Bool). b && leb (f i) 2013265944) (le-ltb 0 (f i) (omega arith))

  many : 2013265944 < f i → freq_right (f i) ≡ false
  many h = ap (λ (b : Bool). ltb 0 (f i) && b) (lt-leb (f i) 2013265944 h) ∙ no (ltb 0 (f i))
    where
      no : (b : Bool) → b && false ≡ false
      no true = refl
      no false = refl

  pub counted : {right low next : Bool} → right ≡ freqs_right f i → ((f i ≡ 0) × (low ≡ false)) ⊎ ((f i ≡ 0 → ⊥) × (low ≡ right))
      → ((2013265944 < f i) × (next ≡ false)) ⊎ ((f i ≤ 2013265944) × (next ≡ low)) → next ≡ freqs_right f (i + 1)
  counted e a (inl (t, g)) = lowered _ i (many t) g
  counted e (inl (s, h)) (inr (t, g)) = lowered _ i (none s) (g ∙ h)
  counted e (inr (s, h)) (inr (t, g)) = stays _ i e (right-one s t) (g ∙ h)

-- the tests of n documents, in the order of the code
module _ (docs : List ℕ) (at n : ℕ) (first : Bool) (previous limit : ℕ) where
  abbrev doc : ℕ → ℕ
  doc i = get_or docs (at + i) 0

  abbrev right : Bool
  right = rising_below doc first previous n limit

  abbrev each_right : ℕ → Bool
  each_right i = rises doc first previous i && ltb (doc i) limit

  pub none_right : n ≡ 0 → true ≡ right
  none_right e = sym (ap (λ (k : ℕ). rising_below doc first previous k limit) e)

  module _ (some : n ≡ 0 → ⊥) where
    at_first : get_or docs at 0 ≡ doc 0
    at_first = ap (λ (k : ℕ). get_or docs k 0) (sym (add-zero at))

    at_last : get_or docs (at + n - 1) 0 ≡ doc (n - 1)
    at_last = ap (λ (k : ℕ). get_or docs k 0) (omega arith)

    pub first-low : first ≡ false → get_or docs at 0 ≤ previous → false ≡ right
    first-low e h = sym (fails each_right n 0 (omega arith) (ap (λ (b : Bool). b && ltb (doc 0) limit) (low first e)))
      where
        low : (b : Bool) → b ≡ false → above_last doc first previous b ≡ false
        low true q = absurd (let z : ◌≡◌ {A = ℕ} 0 1 = cc in omega arith)
        low false q = le-ltb previous (doc 0) (subst (λ (x : ℕ). x ≤ previous) at_first h)

    pub last-high : limit ≤ get_or docs (at + n - 1) 0 → false ≡ right
    last-high h = sym (fails each_right n (n - 1) (omega arith) (ap (λ (b : Bool). rises doc first previous (n - 1) && b)
        (le-ltb (doc (n - 1)) limit (subst (λ (x : ℕ). limit ≤ x) at_last h)) ∙ no (rises doc first previous (n - 1))))
      where
        no : (b : Bool) → b && false ≡ false
        no true = refl
        no false = refl

    module _ (front : first ≡ false → previous < get_or docs at 0) (back : get_or docs (at + n - 1) 0 < limit) where
      abbrev pairs : Bool
      pairs = every (n - 1) (λ i. ltb (doc i) (doc (i + 1)))

      next : (i : ℕ) → doc (i + 1) ≡ doc (suc i)
      next i = ap doc (add-one i)

      module _ (e : pairs ≡ true) where
        goes-up : (i : ℕ) → i < n - 1 → doc i < doc (suc i)
        goes-up i h = subst (λ (x : ℕ). doc i < x) (next i) (ltb-true (doc i) (doc (i + 1)) (each _ (n - 1) i e h))

        above : (i : ℕ) → i < n → rises doc first previous i ≡ true
        above zero h = go first refl
          where
            go : (b : Bool) → first ≡ b → above_last doc first previous b ≡ true
            go true q = refl
            go false q = lt-ltb previous (doc 0) (subst (λ (x : ℕ). previous < x) at_first (front q))
        above (suc i) h = lt-ltb (doc i) (doc (suc i)) (goes-up i (omega arith))

        below : (i : ℕ) → i < n → ltb (doc i) limit ≡ true
        below i h =
            let c = climbs doc i (n - 1) (omega arith) (λ k l. le_of_lt (goes-up k l)) in
            lt-ltb (doc i) limit (let b = subst (λ (x : ℕ). x < limit) at_last back in omega (arith, b, c))

        all_right : right ≡ true
        all_right = all each_right n (λ i h. and-true _ _ (above i h) (below i h))

      pairs-right : right ≡ true → pairs ≡ true
      pairs-right e = all _ (n - 1) (λ i h. subst (λ (x : ℕ). ltb (doc i) x ≡ true) (sym (next i))
          (first-true _ _ (each each_right n (suc i) e (omega arith))))

      pub rest-right : {r : Bool} → r ≡ pairs → r ≡ right
      rest-right q = q ∙ same_test pairs right all_right pairs-right
