-- With an average and a weight within their limits, every norm is from 1/4 to 2 ^ 38, and every score is an f32, finite, of clear sign and at most 1,000.
use mathlib.Core.Path.{◌≡◌, refl, sym}
use mathlib.Core.Bool.{true, false}
use Prim.Native.Nat.{ℕ, ◌^◌, ◌≤◌, ◌<◌}
use native.Mathlib.Nat.{le_trans, le_of_eq, le_of_lt, mul-one}
use native.Mathlib.Omega.{arith}
use lib.IntN.{negsuc}
use lib.Dec.{T, lit<, lit≤}
use lib.Ieee.{Float, nan, inf, fin, binary32, fits, round, of_int, add, sub, mul, div, le}
use lib.Ieee.Fits.{and_l, mul-fits}
use lib.Ieee.Positive.{above_of_le}
use Rattle.floats.specs.Whole.{whole_f32, f32_of}
use Rattle.floats.specs.Step.{within}
use Rattle.floats.proofs.Order.{le→cross}
use Rattle.floats.proofs.Stepped.{step_fits, step-within}
use Rattle.floats.proofs.Range.{add-comm-high, High, Low, Exact, high-round, mul-high, mul_low, add-high, add_low, div-high, div-unit, le-add, high-not-inf, high-within, within-high}
use Rattle.fieldnorm.specs.Code.{fieldnorm}
use Rattle.fieldnorm.proofs.Rising.{fieldnorm-top}
use Rattle.bm25.specs.Scoring.{scored}
use Rattle.bm25.specs.Score.{K1, B, one, norm_of, score_at, score_of}
use Rattle.bm25.specs.Limits.{average_ok, weight_ok}
use Rattle.bm25.specs.declared.Scoring.{Scoring}
use Rattle.bm25.specs.declared.Scoring.TheVariants.{Unstepped, Stepped}

-- a whole number below 2 ^ 32 as a float
whole-under : (n N : ℕ) → n ≤ N → Exact N 1 → High (whole_f32 n) N 1
unfolding of_int
whole-under n N h x = high-round n 1 N 1 (lit< tt) (lit< tt) (le_trans (le_of_eq (mul-one n)) (le_trans h (le_of_eq (sym (mul-one N))))) x

whole-high : (n : ℕ) → n ≤ 2 ^ 32 → High (whole_f32 n) (2 ^ 32) 1
unfolding round
whole-high n h = whole-under n (2 ^ 32) h (refl, refl)

pub average-low : (x : Float) → T (average_ok x) → Low x 1 16
unfolding average_ok round le
average-low nan t = absurd t
average-low (inf true) t = absurd t
average-low (inf false) t = absurd t
average-low (fin true m e) t = above_of_le (f32_of 1 16) (fin true m e) tt (and_l (le (f32_of 1 16) (fin true m e)) (le (fin true m e) (f32_of 2147483648 1)) t)
average-low (fin false m e) t = le→cross 1 (negsuc 3) m e (and_l (le (f32_of 1 16) (fin false m e)) (le (fin false m e) (f32_of 2147483648 1)) t)

-- the constants
b-high : High B 1 1
unfolding B round
b-high = lit≤ tt

quarter : sub binary32 one B ≡ fin false 1 (negsuc 1)
unfolding one B sub round
quarter = refl

k1-high : High K1 2 1
unfolding K1 round
k1-high = lit≤ tt

k1-low : Low K1 1 1
unfolding K1 round
k1-low = lit≤ tt

module _ (n : ℕ) (average : Float) (n-in : n ≤ 2 ^ 32) (ok : T (average_ok average)) where
  part : Float
  part = div binary32 (mul binary32 B (whole_f32 n)) average

  part-high : High part (2 ^ 36) 1
  unfolding part round
  part-high = div-high (mul binary32 B (whole_f32 n)) average (2 ^ 32) 1 1 16 (lit< tt) (lit< tt)
      (mul-high B (whole_f32 n) 1 1 (2 ^ 32) 1 (lit< tt) (lit< tt) b-high (whole-high n n-in) (refl, refl))
      (average-low average ok) (refl, refl)

  inner : Float
  inner = add binary32 (sub binary32 one B) part

  inner-high : High inner (2 ^ 37) 1
  unfolding inner round
  inner-high = rw quarter (add-high (fin false 1 (negsuc 1)) part (2 ^ 36) (2 ^ 36) 1 (lit< tt) (lit≤ tt) part-high (refl, refl))

  inner-low : Low inner 1 4
  unfolding inner round
  inner-low = rw quarter (add_low (fin false 1 (negsuc 1)) part 1 4 (2 ^ 36) 1 (2 ^ 37) 1 (lit< tt) (lit≤ tt) part-high (refl, refl) (rw quarter at inner-high))

  pub norm-high : High (norm_of n average) (2 ^ 38) 1
  unfolding norm_of inner part round
  norm-high = mul-high K1 inner 2 1 (2 ^ 37) 1 (lit< tt) (lit< tt) k1-high inner-high (refl, refl)

  pub norm-low : Low (norm_of n average) 1 4
  unfolding norm_of inner part round
  norm-low = mul_low K1 inner 1 1 1 4 (2 ^ 38) 1 (lit< tt) (lit< tt) k1-low inner-low (refl, refl) norm-high

-- a score at a norm from 1/4 to 2 ^ 38, from any frequency: f / (f + norm) is at most 1
module _ (weight norm : Float) (freq : ℕ) (w-ok : T (weight_ok weight)) (high : High norm (2 ^ 38) 1) (least : Low norm 1 4) (f-in : freq ≤ 2 ^ 32) where
  sum-high : High (add binary32 (whole_f32 freq) norm) (2 ^ 39) 1
  unfolding round
  sum-high = add-high (whole_f32 freq) norm (2 ^ 38) (2 ^ 38) 1 (lit< tt) (whole-under freq (2 ^ 38) (omega arith) (refl, refl)) high (refl, refl)

  sum_low : Low (add binary32 (whole_f32 freq) norm) 1 4
  unfolding round
  sum_low =
      let under = whole-under freq (2 ^ 38) (omega arith) (refl, refl) in
      rw (add-comm-high (whole_f32 freq) norm (2 ^ 38) 1 (2 ^ 38) 1 under high)
      (add_low norm (whole_f32 freq) 1 4 (2 ^ 38) 1 (2 ^ 39) 1 (lit< tt) least under (refl, refl)
      (rw (add-comm-high (whole_f32 freq) norm (2 ^ 38) 1 (2 ^ 38) 1 under high) at sum-high))

  sum-le : T (le (whole_f32 freq) (add binary32 (whole_f32 freq) norm))
  unfolding of_int
  sum-le = le-add freq 1 norm (2 ^ 38) 1 (2 ^ 39) 1 (high-not-inf (whole_f32 freq) (2 ^ 32) 1 (whole-high freq f-in)) high sum-high

  tf-high : High (div binary32 (whole_f32 freq) (add binary32 (whole_f32 freq) norm)) 1 1
  tf-high = div-unit (whole_f32 freq) (add binary32 (whole_f32 freq) norm) (2 ^ 32) 1 1 4 (lit< tt) (whole-high freq f-in) sum_low sum-le

  pub score-at-within : T (within 1000 (score_at weight norm freq))
  unfolding score_at round
  score-at-within = high-within 1000 (score_at weight norm freq)
      (mul-high weight (div binary32 (whole_f32 freq) (add binary32 (whole_f32 freq) norm)) 1000 1 1 1 (lit< tt) (lit< tt) (within-high 1000 weight w-ok) tf-high (refl, refl))

-- every score and bound that the table lets through, a bound's frequency 4,294,967,295 among them: finite, of clear sign, at most 1,000
pub score-within : (weight average : Float) (code freq : ℕ) → T (weight_ok weight) → T (average_ok average) → code < 256 → freq < 2 ^ 32
    → T (within 1000 (score_of weight average code freq))
unfolding score_of
score-within weight average code freq w a c f =
    let small = le_trans (fieldnorm-top code c) (lit≤ tt) in
    score-at-within weight (norm_of (fieldnorm code) average) freq w (norm-high (fieldnorm code) average small a) (norm-low (fieldnorm code) average small a) (le_of_lt f)

-- the same in either scoring
pub scored-within : (scoring : Scoring) (x : Float) → T (within 1000 x) → T (within 1000 (scored scoring x))
scored-within Unstepped x w = w
scored-within Stepped x w = step-within 1000 x (lit≤ tt) w

-- every score is an f32, whatever it is made of
pub score-fits : (weight average : Float) (code freq : ℕ) → T (fits binary32 (score_of weight average code freq))
unfolding score_of score_at
score-fits weight average code freq =
    let norm = norm_of (fieldnorm code) average in
    mul-fits binary32 weight (div binary32 (whole_f32 freq) (add binary32 (whole_f32 freq) norm))

pub scored-fits : (scoring : Scoring) (x : Float) → T (fits binary32 x) → T (fits binary32 (scored scoring x))
scored-fits Unstepped x h = h
scored-fits Stepped x h = step_fits x
