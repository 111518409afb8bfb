-- Documents by differences: the sums in 32 bits, and why tests of these are tests of the documents.
use Rattle.std.proofs.Common.{◌≡◌, ℕ, zero, suc, ◌+◌, ◌-◌, ◌*◌, ◌%◌, ◌<◌, ◌≤◌, Bool, true, false, ◌&&◌, ltb, ◌⊎◌, List, length, get_or, set, sym, refl, ap, ◌∙◌, subst, inl, inr, ⊎_elim, true≢false, add_assoc, mod-eq_of_lt, add-one, arith, ltb-true, lt-ltb}
use native.Mathlib.Nat.{add-mod, add-mod-mod}
use Rattle.arrays.specs.Every.{every}
use Rattle.arrays.proofs.Order.{climbs}
use Rattle.arrays.proofs.Every.{and-true, first-true, second-true, same_test, each, all}
use Rattle.arrays.proofs.Filling.{Filling, begun as filling, goes-on4}
use Rattle.bitpacker.specs.declared.Four.{Four}
use Rattle.compression.specs.Documents.{gap_of, start_of, base_at, doc_at, above_last, rises, docs_right}
use Rattle.compression.specs.Inner.Sums.{FourSums, Summed, Narrow}

-- tests that are the same one by one
same_every : (n : ℕ) (P Q : ℕ → Bool) → ((i : ℕ) → i < n → P i ≡ Q i) → every n P ≡ every n Q
same_every n P Q h =
    same_test (every n P) (every n Q) (λ e. all Q n (λ i l. sym (h i l) ∙ each P n i e l)) (λ e. all P n (λ i l. h i l ∙ each Q n i e l))

-- a part of a list rises where its numbers do
pub part-rises : (f : ℕ → ℕ) (part : List ℕ) (n : ℕ) → length part ≡ n → ((k : ℕ) → k < n → get_or part k 0 ≡ f k)
    → every (length part - 1) (λ i. ltb (get_or part i 0) (get_or part (i + 1) 0)) ≡ every (n - 1) (λ i. ltb (f i) (f (i + 1)))
part-rises f part n e h =
    ap (λ (m : ℕ). every (m - 1) (λ i. ltb (get_or part i 0) (get_or part (i + 1) 0))) e
    ∙ same_every (n - 1) (λ i. ltb (get_or part i 0) (get_or part (i + 1) 0)) (λ i. ltb (f i) (f (i + 1))) (λ i l. rw (h i (omega arith), h (i + 1) (omega arith)) refl)

-- a sum in 32 bits of sums in 32 bits
pub wrapped : {x y r : ℕ} (a b : ℕ) → x ≡ a % 4294967296 → y ≡ b % 4294967296 → r ≡ (x + y) % 4294967296 → r ≡ (a + b) % 4294967296
wrapped {y = y} a b e f g = g ∙ ap (λ (z : ℕ). (z + y) % 4294967296) e ∙ ap (λ (z : ℕ). (a % 4294967296 + z) % 4294967296) f ∙ sym (add-mod a b 4294967296)

pub onto : {y r : ℕ} (p b : ℕ) → y ≡ b % 4294967296 → r ≡ (p + y) % 4294967296 → r ≡ (p + b) % 4294967296
onto p b e f = f ∙ ap (λ (z : ℕ). (p + z) % 4294967296) e ∙ add-mod-mod p b 4294967296

pub gap-small : (strict : Bool) → gap_of strict ≤ 1
gap-small true = omega arith
gap-small false = omega arith

module _ (vs : List ℕ) (strict first : Bool) (previous : ℕ) where
  abbrev value : ℕ → ℕ
  value k = get_or vs k 0

  abbrev doc : ℕ → ℕ
  doc = doc_at value strict first previous

  base-next : (i : ℕ) → base_at value strict first previous (i + 1) ≡ base_at value strict first previous i + value i + gap_of strict
  unfolding base_at
  base-next i = rw add-one refl

  -- in 32 bits q is the document before the k-th
  pub record Before (k q : ℕ) : Type 0 where
    pub same : (q + gap_of strict) % 4294967296 ≡ base_at value strict first previous k % 4294967296

  -- i documents are summed, and p is the one before the next
  pub record Summing (out : List ℕ) (p i : ℕ) : Type 0 where
    pub fours : i % 4 ≡ 0
    pub top : i ≤ 128
    pub last : Before i p
    pub place : Filling 0 128 (λ k. doc k % 4294967296) vs i out

  pub begun : {p : ℕ} → length vs ≡ 128 → (p + gap_of strict) % 4294967296 ≡ start_of strict previous first % 4294967296 → Summing vs p 0
  unfolding base_at
  begun h e = record { fours = refl; top = omega arith; last = record { same = e }; place = filling 0 128 (λ k. doc k % 4294967296) vs h }

  doc-is : {k q : ℕ} → Before k q → (q + (value k + gap_of strict)) % 4294967296 ≡ doc k % 4294967296
  unfolding doc_at
  doc-is {k} {q} e = go q (gap_of strict) (value k) (base_at value strict first previous k) e.same
    where
      go : (q g v b : ℕ) → (q + g) % 4294967296 ≡ b % 4294967296 → (q + (v + g)) % 4294967296 ≡ (b + v) % 4294967296
      go q g v b e = omega arith

  before-next : {k j q : ℕ} → j ≡ k + 1 → Before k q → Before j (q + (value k + gap_of strict))
  before-next {k} {j} {q} f e = record { same = rw (f, base-next k) (go q (gap_of strict) (value k) (base_at value strict first previous k) e.same) }
    where
      go : (q g v b : ℕ) → (q + g) % 4294967296 ≡ b % 4294967296 → (q + (v + g) + g) % 4294967296 ≡ (b + v + g) % 4294967296
      go q g v b e = omega arith

  before-wraps : {k q x : ℕ} → x ≡ q % 4294967296 → Before k q → Before k x
  before-wraps {k} {q} {x} f e = record { same = go x q (gap_of strict) f ∙ e.same }
    where
      go : (x q g : ℕ) → x ≡ q % 4294967296 → (x + g) % 4294967296 ≡ (q + g) % 4294967296
      go x q g f = omega arith

module _ {vs : List ℕ} {strict first : Bool} {previous : ℕ} {out : List ℕ} {p i : ℕ} (S : Summing vs strict first previous out p i) where
  module _ (h : i < 128) {g : ℕ} (e : g ≡ gap_of strict) (x : Four) (F : FourSums p g (get_or out i 0) (get_or out (i + 1) 0) (get_or out (i + 2) 0) (get_or out (i + 3) 0) x) where
    pub row_more : Summing vs strict first previous (set (set (set (set out i x.a) (i + 1) x.b) (i + 2) x.c) (i + 3) x.d) x.d (i + 4)
    row_more =
        let a0 : get_or out i 0 ≡ get_or vs i 0 = S.place.rest i (omega arith) in
        let a1 : get_or out (i + 1) 0 ≡ get_or vs (i + 1) 0 = S.place.rest (i + 1) (omega arith) in
        let a2 : get_or out (i + 2) 0 ≡ get_or vs (i + 2) 0 = S.place.rest (i + 2) (omega arith) in
        let a3 : get_or out (i + 3) 0 ≡ get_or vs (i + 3) 0 = S.place.rest (i + 3) (omega arith) in
        let b1 = before-next vs strict first previous {k = i} {j = i + 1} (omega arith) S.last in
        let b2 = before-next vs strict first previous {k = i + 1} {j = i + 2} (omega arith) b1 in
        let b3 = before-next vs strict first previous {k = i + 2} {j = i + 3} (omega arith) b2 in
        let b4 = before-next vs strict first previous {k = i + 3} {j = i + 4} (omega arith) b3 in
        let s3 = rw (a0, a1, a2, a3, e) at F.sum3 in
        record {
          fours = omega (arith, S.fours);
          top = omega (arith, S.fours);
          last = before-wraps vs strict first previous s3 b4;
          place = goes-on4 0 128 _ _ _ _ x.a x.b x.c x.d (omega (arith, S.fours))
              ((rw (a0, e) at F.sum0) ∙ doc-is vs strict first previous S.last)
              ((rw (a0, a1, e) at F.sum1) ∙ doc-is vs strict first previous b1)
              ((rw (a0, a1, a2, e) at F.sum2) ∙ doc-is vs strict first previous b2)
              (s3 ∙ doc-is vs strict first previous b3)
              S.place;
        }

-- a sum that rises in 32 bits did not leave them
no_wrap : (q s : ℕ) → q < 4294967296 → s ≤ 4294967296 → q < (q + s) % 4294967296 → q + s < 4294967296
no_wrap q s h k l = omega arith

no-wrap-first : (strict first : Bool) (previous v : ℕ) → previous < 4294967296 → v < 4294967296 → (first ≡ true) ⊎ (previous < (start_of strict previous first + v) % 4294967296) → start_of strict previous first + v < 4294967296
no-wrap-first strict true previous v h k c = omega arith
no-wrap-first strict false previous v h k (inl e) = absurd (true≢false (sym e))
no-wrap-first strict false previous v h k (inr l) =
    rw add_assoc (no_wrap previous (gap_of strict + v) h (omega (arith, gap-small strict)) (rw add_assoc at l))

start-low : (strict first : Bool) (previous : ℕ) → start_of strict previous first ≤ previous + 1
start-low strict true previous = omega arith
start-low strict false previous = omega (arith, gap-small strict)

not-true : (b : Bool) → (b ≡ true → ⊥) → false ≡ b
not-true true f = absurd (f refl)
not-true false f = refl

module _ (v : ℕ → ℕ) (strict first : Bool) (previous : ℕ) where
  doc-next : (k : ℕ) → doc_at v strict first previous (suc k) ≡ doc_at v strict first previous k + (gap_of strict + v (suc k))
  unfolding doc_at base_at
  doc-next k = add_assoc (base_at v strict first previous k + v k) (gap_of strict) (v (suc k))

  docs-rise : (i j : ℕ) → i ≤ j → doc_at v strict first previous i ≤ doc_at v strict first previous j
  docs-rise i j h = climbs (doc_at v strict first previous) i j h (λ k l. rw (doc-next k) (omega arith))

  above-last : (b : Bool) → (b ≡ true) ⊎ (ltb previous (doc_at v strict first previous 0) ≡ true) → above_last (doc_at v strict first previous) first previous b ≡ true
  above-last true c = refl
  above-last false (inl e) = absurd (true≢false (sym e))
  above-last false (inr e) = e

-- a block of sums whose values fit 32 bits
module _ {vs out : List ℕ} {strict first : Bool} {previous : ℕ} (n limit : ℕ) (S : Summed vs strict first previous out) (top : n ≤ 128) (lim : limit < 4294967296) where
  abbrev v : ℕ → ℕ
  v k = get_or vs k 0

  abbrev d : ℕ → ℕ
  d = doc_at v strict first previous

  abbrev right : ℕ → Bool
  right i = rises (doc_at v strict first previous) first previous i && ltb (d i) limit

  -- a document that fits is its sum in 32 bits
  word_at : (i : ℕ) → i < n → d i < 4294967296 → get_or out i 0 ≡ d i
  word_at i h f = S.docs i (omega arith) ∙ mod-eq_of_lt f

  -- right documents fit
  module _ (r : docs_right v strict first previous n limit ≡ true) (i : ℕ) (h : i < n) where
    pub right-below : d i < limit
    right-below = ltb-true (d i) limit (second-true (rises (doc_at v strict first previous) first previous i) (ltb (d i) limit) (each right n i r h))

    pub right-word : get_or out i 0 ≡ d i
    right-word = word_at i h (omega (arith, right-below))

    right-rises : rises (doc_at v strict first previous) first previous i ≡ true
    right-rises = first-true (rises (doc_at v strict first previous) first previous i) (ltb (d i) limit) (each right n i r h)

  pub none_right : n ≡ 0 → true ≡ docs_right v strict first previous n limit
  none_right e = sym (ap (λ (k : ℕ). every k right) e)

  module _ (pos : 0 < n) where
    pub first-low : first ≡ false → get_or out 0 0 ≤ previous → false ≡ docs_right v strict first previous n limit
    first-low e l = not-true (docs_right v strict first previous n limit) (λ r. omega (arith, ltb-true previous (d 0) (subst (λ (b : Bool). above_last (doc_at v strict first previous) first previous b ≡ true) e (right-rises r 0 pos)), right-word r 0 pos))

    pub last-high : limit ≤ get_or out (n - 1) 0 → false ≡ docs_right v strict first previous n limit
    last-high l = not-true (docs_right v strict first previous n limit) (λ r. omega (arith, right-below r (n - 1) (omega arith), right-word r (n - 1) (omega arith)))

    abbrev up : ℕ → Bool
    up i = ltb (get_or out i 0) (get_or out (i + 1) 0)

    module _ (above : (first ≡ true) ⊎ (previous < get_or out 0 0)) (below : get_or out (n - 1) 0 < limit) where
      -- documents that fit, each above the one before it
      module _ (fits : (k : ℕ) → k < n → d k < 4294967296) (rose : (k : ℕ) → suc k < n → d k < d (suc k)) where
        rises-at : (i : ℕ) → i < n → rises (doc_at v strict first previous) first previous i ≡ true
        rises-at zero h = above-last v strict first previous first (⊎_elim inl (λ l. inr (lt-ltb previous (d 0) (omega (arith, word_at 0 h (fits 0 h))))) above)
        rises-at (suc i) h = lt-ltb (d i) (d (suc i)) (rose i h)

        fit-right : docs_right v strict first previous n limit ≡ true
        fit-right = all right n (λ i h. and-true (rises (doc_at v strict first previous) first previous i) (ltb (d i) limit) (rises-at i h) (lt-ltb (d i) limit (omega (arith, docs-rise v strict first previous i (n - 1) (omega arith), word_at (n - 1) (omega arith) (fits (n - 1) (omega arith))))))

      -- sums that rise in 32 bits did not leave them
      module _ (small : (k : ℕ) → k < n → v k < 4294967296) (prev : previous < 4294967296) where
        module _ (e : every (n - 1) up ≡ true) where
          word-rose : (k : ℕ) → suc k < n → get_or out k 0 < get_or out (suc k) 0
          word-rose k h = rw add-one at (ltb-true (get_or out k 0) (get_or out (k + 1) 0) (each up (n - 1) k e (omega arith)))

          fits-at : (k : ℕ) → k < n → d k < 4294967296
          unfolding doc_at base_at
          fits-at zero h = no-wrap-first strict first previous (v 0) prev (small 0 h) (⊎_elim inl (λ l. inr (subst (λ (x : ℕ). previous < x) (S.docs 0 (omega arith)) l)) above)
          fits-at (suc k) h =
              let q : d k < 4294967296 = fits-at k (omega arith) in
              let w : get_or out k 0 ≡ d k = word_at k (omega arith) q in
              let u : d k < d (suc k) % 4294967296 = subst (λ (x : ℕ). d k < x) (S.docs (suc k) (omega arith)) (subst (λ (x : ℕ). x < get_or out (suc k) 0) w (word-rose k h)) in
              rw (doc-next v strict first previous k) (no_wrap (d k) (gap_of strict + v (suc k)) q (omega (arith, gap-small strict, small (suc k) h)) (rw (doc-next v strict first previous k) at u))

          all_right : docs_right v strict first previous n limit ≡ true
          all_right = fit-right fits-at (λ k h. omega (arith, word-rose k h, word_at k (omega arith) (fits-at k (omega arith)), word_at (suc k) h (fits-at (suc k) h)))

        pub rising-right : {r : Bool} → r ≡ every (n - 1) up → r ≡ docs_right v strict first previous n limit
        rising-right e = e ∙ same_test (every (n - 1) up) (docs_right v strict first previous n limit) all_right (λ r. all up (n - 1) (λ i h. lt-ltb (get_or out i 0) (get_or out (i + 1) 0) (rw add-one (omega (arith, ltb-true (d i) (d (suc i)) (right-rises r (suc i) (omega arith)), right-word r i (omega arith), right-word r (suc i) (omega arith))))))

      -- those of a narrow block cannot, and strict documents rise
      module _ (N : Narrow vs n strict previous) where
        low-at : (k : ℕ) → k < n → d k ≤ previous + suc k * 16777216
        unfolding doc_at base_at
        low-at zero h = omega (arith, start-low strict first previous, N.small 0 h)
        low-at (suc k) h = rw (doc-next v strict first previous k) (omega (arith, low-at k (omega arith), N.small (suc k) h, gap-small strict))

        pub narrow-right : true ≡ docs_right v strict first previous n limit
        narrow-right = sym (fit-right (λ k h. omega (arith, low-at k h, N.low)) (λ k h. rw (doc-next v strict first previous k) (omega (arith, ap gap_of N.strict-is))))
