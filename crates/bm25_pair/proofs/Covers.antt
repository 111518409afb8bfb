-- The score of a document's norm code and its frequency's code, as the reader takes it, is at least the document's score.
use mathlib.Core.Path.{◌≡◌, refl, sym, ◌∙◌, subst}
use mathlib.Core.Logic.{⊎_elim}
use mathlib.Core.Bool.{true, false, not}
use Prim.Native.Nat.{ℕ, ◌+◌, ◌*◌, ◌^◌, ◌≤◌, ◌<◌}
use native.Mathlib.Nat.{le_trans, le_of_lt, lt_of_lt_of_le, mul-one, mul_assoc, mul-le-mul_right, mul-lt-mul_of_pos_right, add-mul}
use native.Mathlib.Omega.{arith}
use lib.IntN.{ℤ}
use lib.Dec.{T, lit<, lit≤}
use lib.Pow.{pow_pos}
use lib.Ieee.{Float, nan, inf, fin, binary32, up, down, round, of_int, add, div, le, lt}
use lib.Ieee.Exact.{HasValue, round_exact}
use lib.Ieee.Nearest.{closest, closest_mono}
use lib.Ieee.Scale.{grid, round_val}
use Rattle.arrays.proofs.Order.{lt-or-ge}
use Rattle.floats.specs.Whole.{whole_f32}
use Rattle.floats.specs.Step.{within}
use Rattle.floats.proofs.Digits.{closest-ge, whole-rounds}
use Rattle.floats.proofs.Order.{not-above}
use Rattle.floats.proofs.Range.{High, Low, Exact, high-round, low-round, round-either, grid-exact, le-add, div-unit}
use Rattle.floats.proofs.Range.{high-not-inf, within-high}
use Rattle.fieldnorm.specs.Code.{fieldnorm}
use Rattle.fieldnorm.proofs.Rising.{fieldnorm-top}
use Rattle.bm25.specs.Bound.{max_tf}
use Rattle.bm25.specs.Limits.{average_ok, weight_ok}
use Rattle.bm25.specs.Score.{norm_of, score_at, score_of}
use Rattle.bm25.proofs.Bounds.{norm-high, norm-low, score-within}
use Rattle.bm25_pair.specs.Pair.{freq_code}
use Rattle.bm25_pair.proofs.FreqCode.{read_low, read-high, read_small}
use Rattle.bm25_pair.proofs.Numbers.{not-below-itself, not-under}
use Rattle.bm25_pair.proofs.Rising.{mul-rises}
use Rattle.bm25_pair.proofs.Relative.{value-high, value_low}
use Rattle.bm25_pair.proofs.Sums.{top, Below, top_fine, top-low, sum-fine, sum-least}
use Rattle.bm25_pair.proofs.Sums.{norm-small, freq-small, norm-large, norm-middle}

-- f / (f + norm), each operation rounded
abbrev tf : Float → ℕ → Float
tf norm f = div binary32 (whole_f32 f) (add binary32 (whole_f32 f) norm)

record Under (norm : Float) (f : ℕ) : Type 0 where
  order : T (le (tf norm f) (tf norm 4294967295))
  fine : High (tf norm f) 1 1

-- multiples of 128 below 2 ^ 31
multiple-exact : (q : ℕ) → q < 2 ^ 24 → Exact (q * 128) 1
multiple-exact q h =
    let room : 2 ^ 24 * 2 ^ 156 ≤ 2 ^ 277 = lit≤ tt in
    let less : q * 2 ^ 156 < 2 ^ 277 = lt_of_lt_of_le (mul-lt-mul_of_pos_right h (pow_pos 156)) room in
    round_exact binary32 false (q * 128) 1 q 156 (lit< tt) h less (mul_assoc q 128 (2 ^ 149) ∙ sym (mul-one (q * 2 ^ 156)))

module _ (m : ℕ) (e : ℤ) (high : High (fin false m e) (2 ^ 38) 1) (least : Low (fin false m e) 1 4) where
  abbrev norm : Float
  norm = fin false m e

  abbrev n : ℕ
  n = m * up e

  abbrev d : ℕ
  d = down e

  -- 4,294,967,295 as a float is 2 ^ 32
  pub top-unit : High (tf norm 4294967295) 1 1
  unfolding of_int round
  top-unit = div-unit top (add binary32 top norm) (2 ^ 38) 1 4294967296 1 (lit< tt) (lit≤ tt) (top-low m e high least)
      (le-add 4294967296 1 norm (2 ^ 38) 1 (2 ^ 39) 1 (high-not-inf top (2 ^ 38) 1 (lit≤ tt)) high (top_fine m e high least))

  module _ (f : ℕ) (some : 0 < f) (most : f ≤ 2013265944) where
    abbrev u : Float
    u = round binary32 false f 1

    u-high : High u (2 ^ 38) 1
    unfolding round
    u-high = high-round f 1 (2 ^ 38) 1 (lit< tt) (lit< tt) (let l : f * 1 ≤ 2 ^ 38 * 1 = omega arith in l) (refl, refl)

    u-low : Low u 1 1
    unfolding round
    u-low = low-round f 1 1 1 (2 ^ 38) 1 (lit< tt) (lit< tt) (let l : 1 * 1 ≤ f * 1 = omega arith in l) (refl, refl) u-high

    under : (a c : ℕ) → 0 < a → 0 < c → HasValue u false a c → Exact a c
        → Below u norm → Under norm f
    unfolding of_int round
    under a c A C v x o = record {
      order = o;
      fine = div-unit u (add binary32 u norm) (2 ^ 38) 1 a c A u-high (sum-least m e high least u a c A C v x u-high)
          (le-add f 1 norm (2 ^ 38) 1 (2 ^ 39) 1 (high-not-inf u (2 ^ 38) 1 u-high) high (sum-fine m e high least u a c A C v x u-high));
    }

    -- below 2 ^ 30
    module _ (small : f < 1073741824) where
      u-small : High u 1073741824 1
      unfolding round
      u-small = high-round f 1 1073741824 1 (lit< tt) (lit< tt) (let l : f * 1 ≤ 1073741824 * 1 = omega arith in l) (refl, refl)

      by_value : (a c : ℕ) → 0 < c → HasValue u false a c → Exact a c → Under norm f
      by_value a c C v x =
          let A : 0 < a = (let l = value_low u a c 1 1 v u-low in omega arith) in
          let b : a ≤ 1073741824 * c = (let l = value-high u a c 1073741824 1 v u-small in omega arith) in
          under a c A C v x (⊎_elim (λ l. norm-small m e high least u a c A C v x u-high (le_of_lt l))
          (λ l. freq-small m e high least u a c A C v x u-high b l) (lt-or-ge n (256 * d)))

      under-small : Under norm f
      under-small = ⊎_elim (λ i. absurd (high-not-inf u (2 ^ 38) 1 u-high i))
          (λ l. by_value (grid binary32 f 1) (2 ^ 149) (pow_pos 149) (round_val binary32 f 1 l) (grid-exact f 1 l)) (round-either f 1)

    -- from 2 ^ 30 on
    module _ (large : 1073741824 ≤ f) where
      abbrev q : ℕ
      q = closest f 128

      q-most : q ≤ 15728640
      q-most = closest_mono f 128 2013265944 128 (lit< tt) (lit< tt) (mul-le-mul_right 128 most)

      q-least : 8388608 ≤ q
      q-least = closest-ge f 128 8388608 (lit< tt) large

      rounds : u ≡ round binary32 false (q * 128) 1
      rounds = whole-rounds binary32 f 7 large (let l : f < 2147483648 = omega arith in l) (lit< tt)

      by_digits : (q : ℕ) → 8388608 ≤ q → q ≤ 15728640 → u ≡ round binary32 false (q * 128) 1 → Under norm f
      by_digits q lo hi e' =
          let x = multiple-exact q (omega arith) in
          let x' = subst (λ (z : ℕ). Exact z 1) (add-mul q 2 128) (multiple-exact (q + 2) (omega arith)) in
          let v : HasValue u false (q * 128) 1 = subst (λ (z : Float). HasValue z false (q * 128) 1) (sym e') x in
          let A : 0 < q * 128 = omega arith in
          under (q * 128) 1 A (lit< tt) v x
          (⊎_elim (λ l. norm-small m e high least u (q * 128) 1 A (lit< tt) v x u-high (le_of_lt l))
          (λ l. ⊎_elim (λ k. norm-middle m e high least u (q * 128) A v x x' u-high (omega arith) l (le_of_lt k))
          (λ k. norm-large m e high least u (q * 128) 1 A (lit< tt) v x u-high (omega arith) k) (lt-or-ge n (512 * d)))
          (lt-or-ge n (256 * d)))

      under-large : Under norm f
      under-large = by_digits q q-least q-most rounds

    under_all : Under norm f
    under_all = ⊎_elim under-small under-large (lt-or-ge f 1073741824)

-- ---- the scores
score-rises : (weight norm : Float) (f : ℕ) → T (weight_ok weight) → High norm (2 ^ 38) 1 → Low norm 1 4 → 0 < f → f ≤ 2013265944
    → T (le (score_at weight norm f) (score_at weight norm 4294967295))
unfolding score_at
score-rises weight nan f w h l s k = absurd h
score-rises weight (inf t) f w h l s k = absurd h
score-rises weight (fin true m e) f w h l s k = absurd h
score-rises weight (fin false m e) f w h l s k =
    let U = under_all m e h l f s k in
    mul-rises weight (tf (fin false m e) f) (tf (fin false m e) 4294967295) 1000 1 1 1 1 1
    (within-high 1000 weight w) U.fine (top-unit m e h l) U.order

module _ (weight average : Float) (code f : ℕ) (w-ok : T (weight_ok weight)) (a-ok : T (average_ok average)) (c-ok : code < 256)
    (some : 0 < f) (most : f ≤ 2013265944) where
  abbrev score : Float
  score = score_of weight average code f

  abbrev bound : Float
  bound = score_of weight average code (max_tf (freq_code f))

  score-ok : T (within 1000 score)
  score-ok = score-within weight average code f w-ok a-ok c-ok (omega arith)

  pub bound-ok : T (within 1000 bound)
  bound-ok = score-within weight average code (max_tf (freq_code f)) w-ok a-ok c-ok (read_small f)

  above-254 : T (le score (score_of weight average code 4294967295))
  unfolding score_of
  above-254 =
      let length = fieldnorm code in
      let in_table = le_trans (fieldnorm-top code c-ok) (lit≤ tt) in
      score-rises weight (norm_of length average) f w-ok
      (norm-high length average in_table a-ok) (norm-low length average in_table a-ok) some most

  -- the bound by a posting's pair is at least the posting's score
  pub pair-covers : T (le score bound)
  pair-covers = ⊎_elim (λ l. rw (read-high f l) above-254)
      (λ l. rw (read_low f l) (not-above 1000 score score score-ok score-ok (not-below-itself 1000 score score-ok))) (lt-or-ge 254 f)

  -- so it does not lie below it, as row 9 of the table tests
  pub pair-not-below : lt bound score ≡ false
  pair-not-below = not-under 1000 score bound score-ok bound-ok pair-covers
