-- A multiple of 1/1024 up to 16,000, times 1,024, is a whole number that an f32 holds: its steps.
use Rattle.std.proofs.Common.{◌≡◌, ℕ, ◌+◌, ◌*◌, ◌/◌, ◌%◌, ◌^◌, ◌<◌, ◌≤◌, true, false, T, eqb, leb, pos, sym, refl, ap, ◌∙◌, true≢false, mul-lt-mul_of_pos_right, div-add-mod', arith, lit<, le→leb, eqb→eq, lt→ltb, ltb-false}
use native.Mathlib.Nat.{zero-div}
use lib.Ieee.{Float, nan, inf, fin, binary32, up, down, mul, lt, of_int, in_float, to_unsigned}
use lib.Ieee.Exact.{HasValue}
use lib.Ieee.Fits.{down_pos, and_l, and_r}
use lib.Ieee.Scale.{round_same}
use lib.Ieee.Back.{round_whole, unsigned_back}
use Rattle.floats.specs.Step.{steps}
use Rattle.floats.specs.Threshold.{threshold_ok}
use Rattle.floats.proofs.Step.{lt-value}
use Rattle.floats.proofs.Stepped.{steps-within}

abbrev zero-f : Float
zero-f = fin false 0 (pos 0)

abbrev product : Float → Float
product x = mul binary32 x (fin false 1 (pos 10))

-- what is not above 0 has no steps
pub low-steps : (x : Float) → lt zero-f x ≡ false → 0 ≡ steps x
low-steps nan h = refl
low-steps (inf s) h = refl
low-steps (fin true m e) h = refl
low-steps (fin false m e) h =
    let k = ltb-false (0 * 1 * down e) (m * up e * 1) (sym (lt-value 0 (pos 0) (fin false m e) (m * up e) (down e) (down_pos e) (refl, refl)) ∙ h) in
    let z : m * up e ≡ 0 = omega arith in
    sym (ap (λ (n : ℕ). n * 1024 / down e) z ∙ zero-div (down e))

-- what is above 0 has a clear sign, and its product is a whole number
pub product_is : (x : Float) → T (threshold_ok x) → lt zero-f x ≡ true → (product x ≡ of_int binary32 (pos (steps x))) × (steps x ≤ 16384000)
unfolding mul of_int lt
product_is nan t h = absurd t
product_is (inf s) t h = absurd t
product_is (fin true m e) t h = absurd (true≢false (sym h))
product_is (fin false m e) t h =
    let M = m * up e in
    let D = down e in
    let w = and_l (leb M (16000 * D)) (eqb (M * 1024 % D) 0) t in
    let z = eqb→eq (M * 1024 % D) 0 (and_r (leb M (16000 * D)) (eqb (M * 1024 % D) 0) t) in
    let p : M * 1024 / D * D + M * 1024 % D ≡ M * 1024 = div-add-mod' (M * 1024) D in
    (round_same binary32 false (M * (1 * 1024)) (D * 1) (M * 1024 / D) 1 (let d = down_pos e in omega arith) (lit< tt) (omega arith), steps-within 16000 (fin false m e) w)

module _ (n : ℕ) (h : n ≤ 16384000) where
  whole : HasValue (of_int binary32 (pos n)) false n 1
  unfolding of_int
  whole = round_whole binary32 false n (omega arith)

  pub whole_back : to_unsigned 64 (of_int binary32 (pos n)) ≡ n
  unfolding in_float
  whole_back = (unsigned_back binary32 64 n (le→leb n (2 ^ 24) (omega arith)) (omega arith)).1

  -- it lies between -1 and 2 ^ 64
  between : (x : Float) → HasValue x false n 1 → T (lt (fin true 1 (pos 0)) x) × T (lt x (fin false 1 (pos 64)))
  unfolding lt
  between nan v = absurd v
  between (inf s) v = absurd v
  between (fin true m e) v = absurd (true≢false v.0)
  between (fin false m e) v =
      let d = down_pos e in
      let k : n * down e < 2 ^ 64 * down e = (let g : n < 2 ^ 64 = omega arith in mul-lt-mul_of_pos_right g d) in
      let z = v.1 in
      (lt→ltb 0 (1 * down e + m * up e * 1) (omega arith), lt→ltb (m * up e * 1) (1 * 2 ^ 64 * down e) (omega arith))

  pub whole-between : T (lt (fin true 1 (pos 0)) (of_int binary32 (pos n))) × T (lt (of_int binary32 (pos n)) (fin false 1 (pos 64)))
  whole-between = between (of_int binary32 (pos n)) whole
