-- Differences summed are the documents, and no other values are.
use mathlib.Core.Path.{◌≡◌, refl, ap, ◌∙◌}
use mathlib.Core.List.{List}
use mathlib.Core.Bool.{Bool}
use Prim.Native.Nat.{ℕ, zero, suc, ◌+◌, ◌-◌, ◌≤◌, ◌<◌}
use native.Mathlib.Omega.{arith}
use lib.ListN.{length, set}
use Rattle.arrays.proofs.Filling.{Filling, begun as filling, goes_on as filling-on}
use Rattle.compression.specs.Documents.{gap_of, start_of, base_at, doc_at}
use Rattle.encode.specs.Differences.{floor_at, differ}
use Rattle.encode.specs.Inner.Fronted.{Rising, Fronted}

module _ (d : ℕ → ℕ) (strict first : Bool) (previous : ℕ) where
  -- values that are the differences have the documents
  module _ (n : ℕ) (R : Rising d strict first previous n) (v : ℕ → ℕ) (eq : (i : ℕ) → i < n → v i ≡ differ d strict first previous i) where
    whole : (i : ℕ) → i < n → floor_at d strict first previous i + v i ≡ d i
    unfolding differ
    whole i h = over (d i) (floor_at d strict first previous i) (v i) (R.floors i h) (eq i h)
      where
        over : (x y z : ℕ) → y ≤ x → z ≡ x - y → y + z ≡ x
        over x y z h e = omega arith

    base_back : (i : ℕ) → i < n → base_at v strict first previous i ≡ floor_at d strict first previous i
    unfolding base_at
    base_back zero h = refl
    base_back (suc i) h =
        let l : i < n = omega arith in
        ap (λ (x : ℕ). x + v i + gap_of strict) (base_back i l) ∙ ap (λ (x : ℕ). x + gap_of strict) (whole i l)

    pub docs-back : (i : ℕ) → i < n → doc_at v strict first previous i ≡ d i
    unfolding doc_at
    docs-back i h = ap (λ (x : ℕ). x + v i) (base_back i h) ∙ whole i h

  -- values whose documents these are
  module _ (v : ℕ → ℕ) (n : ℕ) (D : (i : ℕ) → i < n → doc_at v strict first previous i ≡ d i) where
    base-only : (i : ℕ) → i < n → base_at v strict first previous i ≡ floor_at d strict first previous i
    unfolding base_at doc_at
    base-only zero h = refl
    base-only (suc i) h = ap (λ (x : ℕ). x + gap_of strict) (D i (omega arith))

    pub values-only : (i : ℕ) → i < n → v i ≡ differ d strict first previous i
    unfolding doc_at differ
    values-only i h = rest (base_at v strict first previous i) (v i) (d i) (floor_at d strict first previous i) (D i h) (base-only i h)
      where
        rest : (b v d f : ℕ) → b + v ≡ d → b ≡ f → v ≡ d - f
        rest b v d f e g = omega arith

-- i of n differences are taken, the first among them
pub record Taking (d : ℕ → ℕ) (strict first : Bool) (previous n : ℕ) (before out : List ℕ) (i : ℕ) : Type 0 where
  pub some : 0 < i
  pub within : i ≤ n
  pub place : Filling 0 128 (differ d strict first previous) before i out

taken-both : (x y z : ℕ) → x - y - z ≡ x - (y + z)
taken-both x y z = omega arith

module _ (d : ℕ → ℕ) (strict first : Bool) (previous n : ℕ) (R : Rising d strict first previous n) where
  pub begun : 0 < n → (before : List ℕ) {x base : ℕ} → length before ≡ 128 → x ≡ d 0 → base ≡ start_of strict previous first
      → Taking d strict first previous n before (set before 0 (x - base)) 1
  unfolding differ
  begun h before {x} {base} long e f = record {
    some = omega arith;
    within = h;
    place =
        filling-on 0 128 (differ d strict first previous) before 0 before (x - base) (omega arith)
        (ap (λ (y : ℕ). y - base) e ∙ ap (λ (y : ℕ). d 0 - y) f)
        (filling 0 128 (differ d strict first previous) before long);
  }

module _ {d : ℕ → ℕ} {strict first : Bool} {previous n : ℕ} {before out : List ℕ} {i : ℕ}
    (T : Taking d strict first previous n before out i)
  where
    pub all-taken : n ≤ i → Fronted (differ d strict first previous) n before out
    all-taken h = record {
      long = T.place.long;
      values = λ k l. T.place.done k (omega arith);
      kept = λ k l. T.place.rest k (omega (arith, T.within));
    }

    module _ (h : i < n) (R : Rising d strict first previous n) {x y add : ℕ} (ex : x ≡ d i) (ey : y ≡ d (i - 1)) (ea : add ≡ gap_of strict) where
      over : (i : ℕ) → 0 < i → i < n → d (i - 1) + gap_of strict ≤ d i
      over zero k l = absurd (omega arith)
      over (suc i) k l = let z : suc i - 1 ≡ i = omega arith in rw z (R.floors (suc i) l)

      value : (i : ℕ) → 0 < i → d i - d (i - 1) - gap_of strict ≡ differ d strict first previous i
      unfolding differ
      value zero k = absurd (omega arith)
      value (suc i) k = let z : suc i - 1 ≡ i = omega arith in rw z (taken-both (d (suc i)) (d i) (gap_of strict))

      pub goes_on : n ≤ 128 → Taking d strict first previous n before (set out i (x - y - add)) (i + 1)
      goes_on l = record {
        some = omega arith;
        within = omega arith;
        place =
            filling-on 0 128 _ _ _ _ (x - y - add) (omega arith)
            (ap (λ (z : ℕ). z - y - add) ex ∙ ap (λ (z : ℕ). d i - z - add) ey ∙ ap (λ (z : ℕ). d i - d (i - 1) - z) ea ∙ value i T.some)
            T.place;
      }
