-- The highest of 128 scores, by eight maxima: maximum k is that of the scores k, k + 8, ..
use mathlib.Core.Path.{◌≡◌, refl, sym, ◌∙◌, subst}
use mathlib.Core.Bool.{Bool, true, false, cond, true≢false, ◌||◌}
use mathlib.Core.List.{List}
use mathlib.Core.Logic.{◌⊎◌, inl, inr, ⊎_elim}
use Prim.Native.Nat.{ℕ, ◌+◌, ◌*◌, ◌/◌, ◌%◌, ◌≤◌, ◌<◌}
use native.Mathlib.Nat.{le_of_eq}
use native.Mathlib.Omega.{arith}
use lib.Dec.{T}
use lib.ListN.{get_or}
use lib.Ieee.{Float, nan, inf, fin, up, down, lt, le, eq}
use borrow.Author.Tests.{eqb-true, eq-eqb, le-ltb}
use Rattle.arrays.proofs.Every.{and-true, first-true}
use Rattle.arrays.proofs.Order.{lt-or-ge}
use Rattle.floats.specs.Step.{within}
use Rattle.floats.specs.Inner.Maximum.{larger}
use Rattle.floats.proofs.Order.{not-above, below-le, lower-below}
use Rattle.bm25_pair.specs.Pair.{highest}
use Rattle.bm25_pair.proofs.Highest.{highest-only}
use Rattle.bm25_pair.proofs.Numbers.{not-below-itself, still-not-below}
use Rattle.posting_tests.specs.Inner.Tops.{Numbers, IsTop}

-- the larger of two numbers is one of them, and lies below nothing that one of them does not lie below
module _ (x y : Float) (p : T (within 1000 x)) (q : T (within 1000 y)) where
  over_first : (z : Float) → lt x z ≡ false → lt (larger x y) z ≡ false
  unfolding larger
  over_first z h = go (lt x y) refl
    where
      go : (b : Bool) → lt x y ≡ b → lt (cond b y x) z ≡ false
      go true e = still-not-below 1000 x y z p q (below-le x y e) h
      go false e = h

  over-second : (z : Float) → lt y z ≡ false → lt (larger x y) z ≡ false
  unfolding larger
  over-second z h = go (lt x y) refl
    where
      go : (b : Bool) → lt x y ≡ b → lt (cond b y x) z ≡ false
      go true e = h
      go false e = still-not-below 1000 y x z q p (not-above 1000 y x q p e) h

either : (x y : Float) → (larger x y ≡ x) ⊎ (larger x y ≡ y)
unfolding larger
either x y = go (lt x y)
  where
    go : (b : Bool) → (cond b y x ≡ x) ⊎ (cond b y x ≡ y)
    go true = inr refl
    go false = inl refl

-- of t rows of eight, v is the highest score of n columns from one on
pub record Column (scores : List Float) (t from n : ℕ) (v : Float) : Type 0 where
  pub place : ℕ
  pub inside : place < 128
  pub same : v ≡ get_or scores place nan
  pub most : (m k : ℕ) → m < t → from ≤ k → k < from + n → lt v (get_or scores (8 * m + k) nan) ≡ false

module _ {scores : List Float} (N : Numbers scores) where
  number : {t from n : ℕ} {v : Float} → Column scores t from n v → T (within 1000 v)
  number C = subst (λ (x : Float). T (within 1000 x)) (sym C.same) (N C.place C.inside)

  -- the first row
  pub first-row : (k : ℕ) → k < 128 → {v : Float} → v ≡ get_or scores k nan → Column scores 1 k 1 v
  first-row k h {v} e = record {
    place = k;
    inside = h;
    same = e;
    most = λ m j a b c.
        let z : 8 * m + j ≡ k = omega arith in
        rw (z, e) (not-below-itself 1000 (get_or scores k nan) (N k h));
  }

  -- one row more
  pub next_row : {t k : ℕ} {v : Float} → Column scores t k 1 v → (i : ℕ) → i ≡ 8 * t + k → i < 128 → {x r : Float} → x ≡ get_or scores i nan
      → r ≡ larger v x
      → Column scores (t + 1) k 1 r
  next_row {t} {k} {v} C i ei h {x} {r} ex er = ⊎_elim
      (λ e. record { place = C.place; inside = C.inside; same = er ∙ e ∙ C.same; most = tops })
      (λ e. record { place = i; inside = h; same = er ∙ e ∙ ex; most = tops })
      (either v x)
    where
      X : T (within 1000 x)
      X = subst (λ (z : Float). T (within 1000 z)) (sym ex) (N i h)

      tops : (m j : ℕ) → m < t + 1 → k ≤ j → j < k + 1 → lt r (get_or scores (8 * m + j) nan) ≡ false
      tops m j a b c = subst (λ (z : Float). lt z (get_or scores (8 * m + j) nan) ≡ false) (sym er)
          (⊎_elim (λ l. over_first v x (number C) X _ (C.most m j l b c))
          (λ g. let z : 8 * m + j ≡ i = omega arith in over-second v x (number C) X _
          (rw (z, ex) (not-below-itself 1000 (get_or scores i nan) (N i h)))) (lt-or-ge m t))

  -- columns beside each other
  pub beside : {t from n k : ℕ} {v u : Float} → Column scores t from n v → Column scores t (from + n) k u → {r : Float} → r ≡ larger v u
      → Column scores t from (n + k) r
  beside {t} {from} {n} {k} {v} {u} C D {r} er = ⊎_elim
      (λ e. record { place = C.place; inside = C.inside; same = er ∙ e ∙ C.same; most = tops })
      (λ e. record { place = D.place; inside = D.inside; same = er ∙ e ∙ D.same; most = tops })
      (either v u)
    where
      tops : (m j : ℕ) → m < t → from ≤ j → j < from + (n + k) → lt r (get_or scores (8 * m + j) nan) ≡ false
      tops m j a b c = subst (λ (z : Float). lt z (get_or scores (8 * m + j) nan) ≡ false) (sym er)
          (⊎_elim (λ l. over_first v u (number C) (number D) _ (C.most m j a b l))
          (λ g. over-second v u (number C) (number D) _ (D.most m j a g (omega arith))) (lt-or-ge j (from + n)))

  -- all of them
  pub whole : {v : Float} → Column scores 16 0 8 v → IsTop scores v
  whole {v} C = record {
    place = C.place;
    inside = C.inside;
    same = C.same;
    most = λ i h.
        let e : 8 * (i / 8) + i % 8 ≡ i = omega arith in
        subst (λ (k : ℕ). lt v (get_or scores k nan) ≡ false) e (C.most (i / 8) (i % 8) (omega arith) (omega arith) (omega arith));
  }

-- the eight maxima, up to place i
pub record Columns (scores : List Float) (a b c d e f g h : Float) (i : ℕ) : Type 0 where
  pub rows : ℕ
  pub top : i ≤ 128
  pub at : i ≡ 8 * rows
  pub in-a : Column scores rows 0 1 a
  pub in_b : Column scores rows 1 1 b
  pub in_c : Column scores rows 2 1 c
  pub in-d : Column scores rows 3 1 d
  pub in_e : Column scores rows 4 1 e
  pub in_f : Column scores rows 5 1 f
  pub in_g : Column scores rows 6 1 g
  pub in-h : Column scores rows 7 1 h

module _ {scores : List Float} (N : Numbers scores) {a b c d e f g h : Float} where
  pub begun : a ≡ get_or scores 0 nan → b ≡ get_or scores 1 nan → c ≡ get_or scores 2 nan → d ≡ get_or scores 3 nan → e ≡ get_or scores 4 nan
      → f ≡ get_or scores 5 nan → g ≡ get_or scores 6 nan → h ≡ get_or scores 7 nan → Columns scores a b c d e f g h 8
  begun q0 q1 q2 q3 q4 q5 q6 q7 = record {
    rows = 1;
    top = omega arith;
    at = refl;
    in-a = first-row N 0 (omega arith) q0;
    in_b = first-row N 1 (omega arith) q1;
    in_c = first-row N 2 (omega arith) q2;
    in-d = first-row N 3 (omega arith) q3;
    in_e = first-row N 4 (omega arith) q4;
    in_f = first-row N 5 (omega arith) q5;
    in_g = first-row N 6 (omega arith) q6;
    in-h = first-row N 7 (omega arith) q7;
  }

  module _ {i : ℕ} (C : Columns scores a b c d e f g h i) where
    pub goes_on : i < 128 → {a' b' c' d' e' f' g' h' : Float}
        → a' ≡ larger a (get_or scores i nan) → b' ≡ larger b (get_or scores (i + 1) nan) → c' ≡ larger c (get_or scores (i + 2) nan)
        → d' ≡ larger d (get_or scores (i + 3) nan) → e' ≡ larger e (get_or scores (i + 4) nan) → f' ≡ larger f (get_or scores (i + 5) nan)
        → g' ≡ larger g (get_or scores (i + 6) nan) → h' ≡ larger h (get_or scores (i + 7) nan)
        → Columns scores a' b' c' d' e' f' g' h' (i + 8)
    goes_on l q0 q1 q2 q3 q4 q5 q6 q7 = record {
      rows = C.rows + 1;
      top = omega (arith, C.at);
      at = omega (arith, C.at);
      in-a = next_row N C.in-a i (omega (arith, C.at)) (omega (arith, C.at)) refl q0;
      in_b = next_row N C.in_b (i + 1) (omega (arith, C.at)) (omega (arith, C.at)) refl q1;
      in_c = next_row N C.in_c (i + 2) (omega (arith, C.at)) (omega (arith, C.at)) refl q2;
      in-d = next_row N C.in-d (i + 3) (omega (arith, C.at)) (omega (arith, C.at)) refl q3;
      in_e = next_row N C.in_e (i + 4) (omega (arith, C.at)) (omega (arith, C.at)) refl q4;
      in_f = next_row N C.in_f (i + 5) (omega (arith, C.at)) (omega (arith, C.at)) refl q5;
      in_g = next_row N C.in_g (i + 6) (omega (arith, C.at)) (omega (arith, C.at)) refl q6;
      in-h = next_row N C.in-h (i + 7) (omega (arith, C.at)) (omega (arith, C.at)) refl q7;
    }

    -- the highest of the eight
    pub joined : 128 ≤ i → {ab cd low ef gh high r : Float} → ab ≡ larger a b → cd ≡ larger c d → low ≡ larger ab cd → ef ≡ larger e f
        → gh ≡ larger g h
        → high ≡ larger ef gh → r ≡ larger low high → IsTop scores r
    joined l q0 q1 q2 q3 q4 q5 q6 =
        let z : C.rows ≡ 16 = omega (arith, C.at, C.top) in
        let low = beside N (beside N C.in-a C.in_b q0) (beside N C.in_c C.in-d q1) q2 in
        let high = beside N (beside N C.in_e C.in_f q3) (beside N C.in_g C.in-h q4) q5 in
        whole N (subst (λ (t : ℕ). Column scores t 0 8 _) z (beside N low high q6))

-- numbers that are equal: neither lies below the other
equal-not-below : (x y : Float) → T (within 1000 x) → T (within 1000 y) → eq x y ≡ true → lt x y ≡ false
unfolding lt eq
equal-not-below nan y p q e = absurd p
equal-not-below (inf s) y p q e = absurd p
equal-not-below (fin true m d) y p q e = absurd p
equal-not-below (fin false m d) nan p q e = absurd q
equal-not-below (fin false m d) (inf s) p q e = absurd q
equal-not-below (fin false m d) (fin true n c) p q e = absurd q
equal-not-below (fin false m d) (fin false n c) p q e =
    let z = eqb-true (m * up d * down c) (n * up c * down d) (first-true _ _ e) in
    le-ltb (m * up d * down c) (n * up c * down d) (le_of_eq (sym z))

equal-itself : (x : Float) → T (within 1000 x) → eq x x ≡ true
unfolding eq
equal-itself nan p = absurd p
equal-itself (inf s) p = absurd p
equal-itself (fin true m d) p = absurd p
equal-itself (fin false m d) p = and-true _ _ (eq-eqb (m * up d * down d) (m * up d * down d) refl) refl

-- of two that are not equal, the one that is not above lies below
strictly : (x y : Float) → T (le x y) → eq x y ≡ false → lt x y ≡ true
unfolding le
strictly x y h e = go (lt x y) (eq x y) h e
  where
    go : (a b : Bool) → T (a || b) → b ≡ false → a ≡ true
    go true b t f = refl
    go false true t f = absurd (true≢false f)
    go false false t f = absurd t

-- one that lies below another lies below all that is not below the other
pub below-through : (x y z : Float) → T (within 1000 x) → T (within 1000 z) → lt x y ≡ true → lt z y ≡ false → lt x z ≡ true
below-through x y z p q h l = go (lt x z) refl
  where
    go : (b : Bool) → lt x z ≡ b → lt x z ≡ true
    go true e = e
    go false e = absurd (true≢false (sym (lower-below 1000 z x y q p (not-above 1000 z x q p e) h) ∙ l))

-- the scan for the highest score
module _ (scores : List Float) (N : Numbers scores) (top : Float) (I : IsTop scores top) where
  abbrev score : ℕ → Float
  score i = get_or scores i nan

  top-number : T (within 1000 top)
  top-number = subst (λ (x : Float). T (within 1000 x)) (sym I.same) (N I.place I.inside)

  module _ (i : ℕ) (h : i < 128) (past : (k : ℕ) → k < i → eq (score k) top ≡ false) where
    pub found : eq (score i) top ≡ true → (i ≡ highest score 128) × (i < 128)
    found e = (sym (highest-only 1000 score 128 i N h (record { most = most; first = first })), h)
      where
        level : lt (score i) top ≡ false
        level = equal-not-below (score i) top (N i h) top-number e

        most : (k : ℕ) → k < 128 → lt (score i) (score k) ≡ false
        most k l = still-not-below 1000 top (score i) (score k) top-number (N i h) (not-above 1000 top (score i) top-number (N i h) level)
            (I.most k l)

        first : (k : ℕ) → k < i → lt (score k) (score i) ≡ true
        first k l =
            let K = N k (omega arith) in
            below-through (score k) top (score i) K (N i h)
            (strictly (score k) top (not-above 1000 (score k) top K top-number (I.most k (omega arith))) (past k l)) level

    -- where no earlier score is equal to it, the last is
    pub at_last : 127 ≤ i → (i ≡ highest score 128) × (i < 128)
    at_last l = found (⊎_elim (λ k. absurd (true≢false (sym (itself I.place refl) ∙ past I.place k)))
        (λ k. itself i (omega (arith, I.inside))) (lt-or-ge I.place i))
      where
        itself : (k : ℕ) → k ≡ I.place → eq (score k) top ≡ true
        itself k e = rw (e, I.same) (equal-itself (score I.place) (N I.place I.inside))
