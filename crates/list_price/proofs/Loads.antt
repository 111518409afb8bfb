-- The postings of a block: what their tests and their copy leave, and the bytes that right ones have.
use mathlib.Core.Path.{◌≡◌, refl, sym, ap, ◌∙◌, subst}
use mathlib.Core.Bool.{Bool, true, false, ◌&&◌, cond}
use mathlib.Core.List.{List}
use Prim.Native.Nat.{ℕ, zero, suc, ◌+◌, ◌-◌, ◌≤◌, ◌<◌}
use native.Mathlib.Nat.{lt_of_lt_of_le}
use native.Mathlib.Omega.{arith}
use lib.Dec.{ltb}
use lib.ListN.{length, get_or}
use borrow.Author.Tests.{ltb-true, leb-true}
use Rattle.arrays.proofs.Every.{each, first-true, second-true}
use Rattle.compression.specs.Documents.{gap_of, start_of, above_last, rises, rising_below}
use Rattle.frequencies.specs.Frequencies.{freq_right, freqs_right}
use Rattle.encode.specs.Differences.{floor_at, differ}
use Rattle.encode.specs.Inner.Fronted.{Rising, Fronted}
use Rattle.encode.specs.Inner.VIntBytes.{row_length}
use Rattle.encode.proofs.VIntRows.{row_same, row-most}
use Rattle.notefile.specs.Inner.Order.{first_of}
use Rattle.list_price.specs.Inner.Loads.{on_from, doc_behind, Standing, Loaded, Right, tail_length}

-- nothing is refused where both tests pass
pub both_right : (d f : Bool) → 0 ≡ first_of d f true → (d ≡ true) × (f ≡ true)
both_right true true e = (refl, refl)
both_right true false e = absurd (omega arith)
both_right false f e = absurd (omega arith)

-- what the tests and the copies leave
module _ (docs freqs : List ℕ) (at n : ℕ) (first : Bool) (limit : ℕ) {previous : ℕ} (ep : previous ≡ doc_behind docs at first)
    {d : Bool} (ed : d ≡ rising_below (on_from docs at) first previous n limit) where
  docs-by : d ≡ rising_below (on_from docs at) first (doc_behind docs at first) n limit
  docs-by = ed ∙ ap (λ (p : ℕ). rising_below (on_from docs at) first p n limit) ep

  pub docs-refused : {ds fs : List ℕ} → d ≡ false → Loaded docs freqs at n first limit 7 ds fs
  docs-refused e = record { same = rw (sym docs-by ∙ e); docs-are = λ z. absurd (omega arith); freqs-are = λ z. absurd (omega arith) }

  module _ (dt : d ≡ true) {f : Bool} (ef : f ≡ freqs_right (on_from freqs at) n) where
    pub freqs-refused : {ds fs : List ℕ} → f ≡ false → Loaded docs freqs at n first limit 8 ds fs
    freqs-refused e = record {
      same = rw (sym docs-by ∙ dt, sym ef ∙ e);
      docs-are = λ z. absurd (omega arith);
      freqs-are = λ z. absurd (omega arith);
    }

    pub none-refused : {ds₀ ds fs₀ fs : List ℕ} → f ≡ true → Fronted (on_from docs at) n ds₀ ds → Fronted (on_from freqs at) n fs₀ fs
        → Loaded docs freqs at n first limit 0 ds fs
    none-refused e D F = record {
      same = rw (sym docs-by ∙ dt, sym ef ∙ e);
      docs-are = λ z. D.values;
      freqs-are = λ z. F.values;
    }

pub loaded-none : {docs freqs : List ℕ} {at n : ℕ} {first : Bool} {limit r : ℕ} {ds fs : List ℕ} → Loaded docs freqs at n first limit r ds fs → r ≡ 0
    → Loaded docs freqs at n first limit 0 ds fs
loaded-none L e = record { same = sym e ∙ L.same; docs-are = λ z. L.docs-are e; freqs-are = λ z. L.freqs-are e }

-- postings that are not refused
module _ {docs freqs : List ℕ} {at n : ℕ} {first : Bool} where
  module _ {limit : ℕ} {ds fs : List ℕ} (L : Loaded docs freqs at n first limit 0 ds fs) where
    abbrev passes : ℕ → Bool
    passes i = rises (on_from docs at) first (doc_behind docs at first) i && ltb (on_from docs at i) limit

    both : (rising_below (on_from docs at) first (doc_behind docs at first) n limit ≡ true) × (freqs_right (on_from freqs at) n ≡ true)
    both =
        both_right (rising_below (on_from docs at) first (doc_behind docs at first) n limit) (freqs_right (on_from freqs at) n) L.same

    doc-at : (i : ℕ) → i < n → passes i ≡ true
    doc-at i h = each passes n i both.0 h

    freq-at : (i : ℕ) → i < n → freq_right (on_from freqs at i) ≡ true
    freq-at i h = each (λ i. freq_right (on_from freqs at i)) n i both.1 h

    up : 0 < n → first ≡ false → doc_behind docs at first < on_from docs at 0
    up h e = ltb-true _ _ (subst (λ (b : Bool). above_last (on_from docs at) first (doc_behind docs at first) b ≡ true) e (first-true _ _ (doc-at 0 h)))

    pub under : (i : ℕ) → i < n → on_from docs at i < limit
    under i h = ltb-true _ _ (second-true (rises (on_from docs at) first (doc_behind docs at first) i) _ (doc-at i h))

    pub are-right : Standing docs freqs at n first → limit ≤ 1048576 → Right docs freqs at n first
    are-right S few = record {
      standing = S;
      above = up;
      rise = λ i h. ltb-true _ _ (first-true _ _ (doc-at (suc i) h));
      low = λ i h. lt_of_lt_of_le (under i h) few;
      some = λ i h. ltb-true _ _ (first-true _ _ (freq-at i h));
      most = λ i h. leb-true _ _ (second-true (ltb 0 (on_from freqs at i)) _ (freq-at i h));
    }

  module _ (R : Right docs freqs at n first) {previous : ℕ} (ep : previous ≡ doc_behind docs at first) where
    gap-low : (strict : Bool) → gap_of strict ≤ 1
    gap-low true = omega arith
    gap-low false = omega arith

    pub previous-low : 0 < n → (strict : Bool) → previous + gap_of strict < 4294967296
    previous-low h strict = go first refl
      where
        go : (b : Bool) → first ≡ b → previous + gap_of strict < 4294967296
        go true e =
            let z : previous ≡ 0 = ep ∙ ap (λ (b : Bool). cond b 0 (get_or docs (at - 1) 0)) e in
            omega (arith, z, gap-low strict)
        go false e = omega (arith, ep, R.above h e, R.low 0 h, gap-low strict)

    pub rising : (strict : Bool) → Rising (on_from docs at) strict first previous n
    rising strict = record { floors = floors; small = λ i h. omega (arith, R.low i h, gap-low strict) }
      where
        floors : (i : ℕ) → i < n → floor_at (on_from docs at) strict first previous i ≤ on_from docs at i
        floors zero h = go first refl
          where
            go : (b : Bool) → first ≡ b → start_of strict previous b ≤ on_from docs at 0
            go true e = omega arith
            go false e = omega (arith, ep, R.above h e, gap-low strict)
        floors (suc i) h = omega (arith, R.rise i h, gap-low strict)

    differs-by : (strict : Bool) → differ (on_from docs at) strict first previous ≡ differ (on_from docs at) strict first (doc_behind docs at first)
    differs-by strict = ap (differ (on_from docs at) strict first) ep

-- the bytes of a tail, by its VInts
module _ {docs freqs : List ℕ} {at n : ℕ} {first : Bool} (R : Right docs freqs at n first) {previous : ℕ} (ep : previous ≡ doc_behind docs at first)
    {ds₀ ds fs₀ fs : List ℕ} (D : Fronted (differ (on_from docs at) false first previous) n ds₀ ds)
    (F : Fronted (λ i. on_from freqs at i - gap_of false) n fs₀ fs) where
  pub tail-length-is : {a b : ℕ} → a ≡ row_length n (λ k. get_or ds k 0) → b ≡ row_length n (λ k. get_or fs k 0)
      → (a + b ≡ tail_length docs freqs at n first) × (a + b ≤ 1280)
  unfolding tail_length
  tail-length-is {a} {b} ea eb =
      let da : a ≡ row_length n (differ (on_from docs at) false first (doc_behind docs at first))
      = ea ∙ ap length (row_same n (λ k. get_or ds k 0) _ D.values) ∙ ap (row_length n) (differs-by R ep false) in
      let fb : b ≡ row_length n (on_from freqs at) = eb ∙ ap length (row_same n (λ k. get_or fs k 0) (on_from freqs at) (λ k h. F.values k h ∙ less k)) in
      (sums da fb, omega (arith, ea, eb, row-most (λ k. get_or ds k 0) n, row-most (λ k. get_or fs k 0) n, R.standing.few))
    where
      sums : {a b c d : ℕ} → a ≡ c → b ≡ d → a + b ≡ c + d
      sums p q = rw (p, q)

      less : (k : ℕ) → on_from freqs at k - gap_of false ≡ on_from freqs at k
      less k = omega arith
