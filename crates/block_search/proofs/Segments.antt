-- The search by segments: in a sorted block a value is below the target where it stands below the count.
use mathlib.Core.Path.{◌≡◌, refl, sym, ap, ◌∙◌, subst}
use mathlib.Core.List.{List}
use mathlib.Core.Bool.{Bool}
use mathlib.Core.Logic.{⊎_elim}
use Prim.Native.Nat.{ℕ, zero, suc, ◌+◌, ◌-◌, ◌*◌, ◌≤◌, ◌<◌}
use native.Mathlib.Nat.{le_refl, le_trans, le_of_eq, le_of_lt, zero-add, lt_of_le_of_lt, add-zero, zero-mul, add-mul, one-mul, mul-le-mul_right, not-suc-le-zero}
use native.Mathlib.Numerals.{add-one}
use native.Mathlib.Omega.{arith}
use lib.Dec.{ltb}
use lib.ListN.{get_or}
use borrow.Author.Tests.{lt-ltb, le-ltb}
use Rattle.arrays.proofs.Order.{lt-or-ge, climbs}
use Rattle.block_search.specs.Search.{one_if, count_below}
use Rattle.block_search.specs.Inner.Segments.{Sorted, ends_below}

module _ (values : List ℕ) (sorted : Sorted values) (target : ℕ) where
  abbrev value : ℕ → ℕ
  value k = get_or values k 0

  abbrev count : ℕ → ℕ
  count n = count_below n values target

  never-falls : (i j : ℕ) → i ≤ j → j < 128 → value i ≤ value j
  never-falls i j h l = climbs value i j h (λ k m. rw add-one at (sorted k (omega arith)))

  one_more : (n : ℕ) → value n < target → count (suc n) ≡ count n + 1
  unfolding count_below
  one_more n h = ap (λ (b : Bool). count n + one_if b) (lt-ltb (value n) target h)

  no_more : (n : ℕ) → target ≤ value n → count (suc n) ≡ count n
  unfolding count_below
  no_more n h = ap (λ (b : Bool). count n + one_if b) (le-ltb (value n) target h) ∙ add-zero (count n)

  -- all of the first n are below the target, or the count of them is that of those before i
  all-below : (n : ℕ) → ((k : ℕ) → k < n → value k < target) → count n ≡ n
  unfolding count_below
  all-below zero h = refl
  all-below (suc n) h = one_more n (h n (omega arith)) ∙ ap (λ (x : ℕ). x + 1) (all-below n (λ k l. h k (omega arith))) ∙ add-one n

  grows : (m n : ℕ) → m ≤ n → count m ≤ count n
  grows m n h = climbs count m n h (λ k l. ⊎_elim (λ b. rw (one_more k b) (omega arith)) (λ b. rw (no_more k b) (le_refl (count k))) (lt-or-ge (value k) target))

  few : (n : ℕ) → count n ≤ n
  unfolding count_below
  few zero = omega arith
  few (suc n) = ⊎_elim (λ k. rw (one_more n k) (omega (arith, few n))) (λ k. rw (no_more n k) (omega (arith, few n))) (lt-or-ge (value n) target)

  stops : (i n : ℕ) → target ≤ value i → n ≤ 128 → count n ≤ i
  unfolding count_below
  stops i zero h l = omega arith
  stops i (suc n) h l = ⊎_elim
      (λ k. le_trans (few (suc n)) (omega arith))
      (λ k. rw (no_more n (le_trans h (never-falls i n k (omega arith)))) (stops i n h (omega arith)))
      (lt-or-ge n i)

  -- a test of a value is one of its place
  pub place-test : (i : ℕ) → i < 128 → ltb (value i) target ≡ ltb i (count 128)
  place-test i h = ⊎_elim
      (λ l. lt-ltb (value i) target l ∙ sym (lt-ltb i (count 128) (le_trans (le_of_eq (sym (all-below (suc i) (λ k m. lt_of_le_of_lt (never-falls k i (omega arith) h) l)))) (grows (suc i) 128 h))))
      (λ l. le-ltb (value i) target l ∙ sym (le-ltb i (count 128) (stops i 128 l (le_refl 128))))
      (lt-or-ge (value i) target)

-- seven tests, one for each segment's end
module _ (values : List ℕ) (base step target : ℕ) where
  abbrev test : ℕ → ℕ
  test j = one_if (ltb (get_or values j 0) target)

  pub seven-ends : {a b c d e f g : ℕ} → a ≡ test (base + step - 1) → b ≡ test (base + 2 * step - 1) → c ≡ test (base + 3 * step - 1) → d ≡ test (base + 4 * step - 1)
      → e ≡ test (base + 5 * step - 1) → f ≡ test (base + 6 * step - 1) → g ≡ test (base + 7 * step - 1) → a + b + c + d + e + f + g ≡ ends_below 7 values base step target
  unfolding ends_below
  seven-ends ea eb ec ed ee ef eg = rw (ea, eb, ec, ed, ee, ef, eg, one-mul step, zero-add)

-- the count lies in the r-th of eight segments of `step` values from base on, or on its borders
pub record Segment (count base step r : ℕ) : Type 0 where
  pub few : r ≤ 7
  pub low : base + r * step ≤ count
  pub high : count ≤ base + r * step + step

-- of k segment ends from base on, r lie below the count, and the first after these does not
pub record Passed (count base step k r : ℕ) : Type 0 where
  pub few : r ≤ k
  pub low : base + r * step ≤ count
  pub high : r < k → count < base + r * step + step

module _ {count base step : ℕ} where
  none : base ≤ count → Passed count base step 0 0
  none h = record { few = omega arith; low = omega (arith, zero-mul step); high = λ l. absurd (not-suc-le-zero l) }

  -- the next segment ends just before the place j
  next : {k r : ℕ} (j : ℕ) {x : ℕ} → Passed count base step k r → j + 1 ≡ base + (k + 1) * step → x ≡ one_if (ltb j count) → Passed count base step (k + 1) (r + x)
  next {k} {r} j {x} P e f = ⊎_elim
      (λ l.
      let one : x ≡ 1 = f ∙ ap one_if (lt-ltb j count l) in
      let all : r ≡ k = ⊎_elim (λ m. absurd (over l m)) (λ m. omega (arith, P.few)) (lt-or-ge r k) in
      rw (one, all) (record { few = omega arith; low = omega arith; high = λ m. omega arith }))
      (λ l.
      let same : r + x ≡ r = ap (λ (y : ℕ). r + y) (f ∙ ap one_if (le-ltb j count l)) ∙ add-zero r in
      rw same (record { few = omega (arith, P.few); low = P.low; high = λ m. ⊎_elim P.high (λ n. last l (omega (arith, P.few))) (lt-or-ge r k) }))
      (lt-or-ge j count)
    where
      step-more : (m : ℕ) → (m + 1) * step ≡ m * step + step
      step-more m = add-mul m 1 step ∙ ap (λ (y : ℕ). m * step + y) (one-mul step)

      over : j < count → r < k → ⊥
      over l m = omega (arith, P.high m, step-more r, mul-le-mul_right {m = r + 1} {n = k + 1} step (omega arith))

      last : count ≤ j → r ≡ k → count < base + r * step + step
      last l q = rw q (omega (arith, step-more k))

  segment : {r : ℕ} → Passed count base step 7 r → count ≤ base + 8 * step → Segment count base step r
  segment {r} P h = record { few = P.few; low = P.low; high = ⊎_elim (λ l. le_of_lt (P.high l)) (λ l. let e : r ≡ 7 = omega (arith, P.few) in rw e (omega arith)) (lt-or-ge r 7) }

-- segments of one value
pub last-two : {count base : ℕ} (x y : ℕ) → Passed count base 1 2 (x + y) → count ≤ base + 2 → base + x + y ≡ count
last-two x y P h = ⊎_elim (λ l. omega (arith, P.low, P.high l)) (λ l. omega (arith, P.few, P.low)) (lt-or-ge (x + y) 2)

-- the values at the ends of segments, the first and each further one
module _ (values : List ℕ) (sorted : Sorted values) (target : ℕ) where
  abbrev total : ℕ
  total = count_below 128 values target

  pub at_most : total ≤ 128
  at_most = few values sorted target 128

  pub first-end : (base step j : ℕ) {x : ℕ} → base ≤ total → j + 1 ≡ base + step → j < 128 → x ≡ one_if (ltb (get_or values j 0) target) → Passed total base step 1 x
  first-end base step j {x} b e h f = subst (Passed total base step 1) (zero-add x) (next j (none b) (e ∙ ap (λ (y : ℕ). base + y) (sym (one-mul step))) (f ∙ ap one_if (place-test values sorted target j h)))

  pub next-end : {base step k r : ℕ} (j : ℕ) {x : ℕ} → Passed total base step k r → j + 1 ≡ base + (k + 1) * step → j < 128 → x ≡ one_if (ltb (get_or values j 0) target) → Passed total base step (k + 1) (r + x)
  next-end j P e h f = next j P e (f ∙ ap one_if (place-test values sorted target j h))

  -- the ends below the target are those that the count has passed
  ends-passed : (base step : ℕ) → 0 < step → base ≤ total → (k : ℕ) → base + k * step ≤ 128 → Passed total base step k (ends_below k values base step target)
  unfolding ends_below
  ends-passed base step s b zero h = none b
  ends-passed base step s b (suc k) h =
      let e : suc k * step ≡ (k + 1) * step = rw (add-one k) in
      let m = add-mul k 1 step ∙ ap (λ (y : ℕ). k * step + y) (one-mul step) in
      subst (λ (n : ℕ). Passed total base step n (ends_below (suc k) values base step target)) (add-one k)
      (next-end (base + (k + 1) * step - 1) (ends-passed base step s b k (omega arith)) (omega arith) (omega arith) refl)

  pub ends-are : (base step : ℕ) → 0 < step → base + 8 * step ≤ 128 → base ≤ total → total ≤ base + 8 * step
      → {r : ℕ} → r ≡ ends_below 7 values base step target → Segment total base step r
  ends-are base step s h b t e = rw e (segment (ends-passed base step s b 7 (omega arith)) t)
