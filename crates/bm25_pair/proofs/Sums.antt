-- f / (f + norm) is at most the same of 2 ^ 32, for a frequency f as a float, at most 15 * 2 ^ 27, and a norm from 1/4 to 2 ^ 38.
-- Up to a norm of 256 the larger sum is 2 ^ 32. Above that the sums' relative errors are small enough, but for frequencies from
-- 2 ^ 30 on with norms up to 512: these are multiples of 128, so that their sums with 256 are exact, and the larger sum is at
-- most 2 ^ 32 + 512.
use mathlib.Core.Path.{◌≡◌, refl, sym, ap, ◌∙◌, subst}
use mathlib.Core.Bool.{true, false}
use Prim.Native.Nat.{ℕ, ◌+◌, ◌*◌, ◌^◌, ◌≤◌, ◌<◌}
use native.Mathlib.Nat.{le_refl, le_trans, le_of_eq, mul-one, mul_comm, mul_assoc, mul_left_comm, mul_right_comm}
use native.Mathlib.Nat.{mul-pos, mul-le-mul_right, mul-add, add-mul}
use native.Mathlib.Omega.{arith}
use lib.IntN.{ℤ, pos}
use lib.Dec.{T, lit<, lit≤}
use lib.Ieee.{Float, nan, inf, fin, binary32, up, down, round, add, div, le}
use lib.Ieee.Fits.{down_pos}
use lib.Ieee.Exact.{HasValue}
use lib.Ieee.Order.{round_mono}
use Rattle.floats.proofs.Order.{le→cross}
use Rattle.floats.proofs.Sum.{add_at}
use Rattle.floats.proofs.Value.{rescale}
use Rattle.floats.proofs.Range.{High, Low, Exact, low-round, add-high, add_low}
use Rattle.bm25_pair.proofs.Relative.{low-of-value, round-high, round-low}
use Rattle.bm25_pair.proofs.Rising.{div-rises}

-- 2 ^ 32
abbrev pub top : Float
top = fin false 1 (pos 32)

-- u / (u + norm) is at most the same of 2 ^ 32
abbrev pub Below : Float → Float → Type 0
Below u norm = T (le (div binary32 u (add binary32 u norm)) (div binary32 top (add binary32 top norm)))

-- 2 ^ 32 + 256 is half-way to the next f32, and rounds down
half-way : round binary32 false 4294967552 1 ≡ top
unfolding round
half-way = refl

below_top : (x : Float) (p q : ℕ) → High x p q → T (le x top) → High x 4294967296 1
below_top nan p q h l = h
below_top (inf s) p q h l = h
below_top (fin true m e) p q h l = h
below_top (fin false m e) p q h l = le→cross m e 1 (pos 32) l

-- two parts of a product: a and c of the frequency, d and n of the norm
rest : (a c d n : ℕ) → a * (16777217 * (4294967296 * d + n)) ≤ 4294967296 * (16777215 * (a * d + n * c))
    → a * (16777216 * (c * d)) * (16777217 * (4294967296 * d + n)) ≤ 4294967296 * (16777216 * d) * (16777215 * (a * d + n * c) * c)
rest a c d n h =
    let S = 16777217 * (4294967296 * d + n) in
    let R = 16777215 * (a * d + n * c) in
    let left : a * (16777216 * (c * d)) * S ≡ a * S * (16777216 * (c * d)) = mul_right_comm a (16777216 * (c * d)) S in
    let right : 4294967296 * (16777216 * d) * (R * c) ≡ 4294967296 * R * (16777216 * (c * d)) = turn 4294967296 16777216 d R c in
    le_trans (le_of_eq left) (le_trans (mul-le-mul_right (16777216 * (c * d)) h) (le_of_eq (sym right)))
  where
    turn : (k l d R c : ℕ) → k * (l * d) * (R * c) ≡ k * R * (l * (c * d))
    turn k l d R c = simp (mul_assoc, mul_comm, mul_left_comm)

spread : (a d n : ℕ) → a * (16777217 * (4294967296 * d + n)) ≡ 16777217 * (4294967296 * (a * d) + a * n)
spread a d n =
    mul_left_comm a 16777217 (4294967296 * d + n)
    ∙ ap (λ (z : ℕ). 16777217 * z) (mul-add a (4294967296 * d) n ∙ ap (λ (z : ℕ). z + a * n) (mul_left_comm a 4294967296 d))

weigh : (x y z u : ℕ) → x ≤ 1073741824 * u → y ≤ 1073741824 * z → 256 * u ≤ z
    → 16777217 * (4294967296 * x + y) ≤ 4294967296 * (16777215 * (x + z))
weigh x y z u h k l = omega arith

weigh-more : (x y z u : ℕ) → x ≤ 2013265920 * u → y ≤ 2013265920 * z → 512 * u ≤ z
    → 16777217 * (4294967296 * x + y) ≤ 4294967296 * (16777215 * (x + z))
weigh-more x y z u h k l = omega arith

times : (a b c d : ℕ) → a ≤ b * c → a * d ≤ b * (c * d)
times a b c d h = le_trans (mul-le-mul_right d h) (le_of_eq (mul_assoc b c d))

module _ (m : ℕ) (e : ℤ) (high : High (fin false m e) (2 ^ 38) 1) (least : Low (fin false m e) 1 4) where
  abbrev norm : Float
  norm = fin false m e

  abbrev n : ℕ
  n = m * up e

  abbrev d : ℕ
  d = down e

  top-sum : add binary32 top norm ≡ round binary32 false (4294967296 * d + n) d
  top-sum = add_at binary32 top norm (4294967296 * d) n d (down_pos e) (refl, sym (mul-one (4294967296 * d))) (refl, refl)

  pub top_fine : High (add binary32 top norm) (2 ^ 39) 1
  unfolding round
  top_fine = add-high top norm (2 ^ 38) (2 ^ 38) 1 (lit< tt) (lit≤ tt) high (refl, refl)

  fine-sum : High (round binary32 false (4294967296 * d + n) d) (2 ^ 39) 1
  fine-sum = subst (λ (z : Float). High z (2 ^ 39) 1) top-sum top_fine

  top-large : d ≤ 4 * (4294967296 * d + n)
  top-large = omega arith

  top-high : High (add binary32 top norm) (16777217 * (4294967296 * d + n)) (16777216 * d)
  top-high = subst (λ (z : Float). High z (16777217 * (4294967296 * d + n)) (16777216 * d)) (sym top-sum)
      (round-high (4294967296 * d + n) d (down_pos e) top-large (2 ^ 39) 1 fine-sum)

  pub top-low : Low (add binary32 top norm) 4294967296 1
  unfolding round
  top-low = add_low top norm 4294967296 1 (2 ^ 38) 1 (2 ^ 39) 1 (lit< tt) (lit≤ tt) high (refl, refl) top_fine

  to-top : n ≤ 256 * d → T (le (round binary32 false (4294967296 * d + n) d) top)
  to-top h = subst (λ (z : Float). T (le (round binary32 false (4294967296 * d + n) d) z)) half-way
      (round_mono binary32 (4294967296 * d + n) d 4294967552 1 (down_pos e) (lit< tt) (omega arith))

  top-stays : n ≤ 256 * d → High (add binary32 top norm) 4294967296 1
  top-stays h = below_top (add binary32 top norm) (2 ^ 39) 1 top_fine (subst (λ (z : Float). T (le z top)) (sym top-sum) (to-top h))

  top-next : n ≤ 512 * d → High (add binary32 top norm) 4294967808 1
  unfolding round
  top-next h = add-high top norm 4294967296 512 1 (lit< tt) (lit≤ tt) (let l : n * 1 ≤ 512 * d = omega arith in l) (refl, refl)

  -- a frequency, a / c as a float
  module _ (u : Float) (a c : ℕ) (A : 0 < a) (C : 0 < c) (v : HasValue u false a c) (x : Exact a c) (fine : High u (2 ^ 38) 1) where
    sum_is : add binary32 u norm ≡ round binary32 false (a * d + n * c) (c * d)
    sum_is = add_at binary32 u norm (a * d) (n * c) (c * d) (mul-pos C (down_pos e))
        (rescale u false a c (a * d) (c * d) C (mul_right_comm a d c ∙ mul_assoc a c d) v) (refl, sym (mul_assoc n c d))

    pub sum-fine : High (add binary32 u norm) (2 ^ 39) 1
    unfolding round
    sum-fine = add-high u norm (2 ^ 38) (2 ^ 38) 1 (lit< tt) fine high (refl, refl)

    fine-rounded : High (round binary32 false (a * d + n * c) (c * d)) (2 ^ 39) 1
    fine-rounded = subst (λ (z : Float). High z (2 ^ 39) 1) sum_is sum-fine

    sum-large : c * d ≤ 4 * (a * d + n * c)
    sum-large =
        let l : d * c ≤ n * 4 * c = mul-le-mul_right c (let k : d ≤ n * 4 = omega arith in k) in
        let s : n * 4 * c ≡ n * c * 4 = mul_right_comm n 4 c in
        let t : c * d ≡ d * c = mul_comm c d in
        omega arith

    sum_near : Low (add binary32 u norm) (16777215 * (a * d + n * c)) (16777216 * (c * d))
    sum_near = subst (λ (z : Float). Low z (16777215 * (a * d + n * c)) (16777216 * (c * d))) (sym sum_is)
        (round-low (a * d + n * c) (c * d) (mul-pos C (down_pos e)) sum-large (2 ^ 39) 1 fine-rounded)

    pub sum-least : Low (add binary32 u norm) a c
    sum-least = add_low u norm a c (2 ^ 38) 1 (2 ^ 39) 1 C (low-of-value u a c a c C v (le_refl (a * c))) high x sum-fine

    rises : (p q r s : ℕ) → 0 < q → 0 < s → 0 < r → a * s * p ≤ 4294967296 * q * (r * c) → High (add binary32 top norm) p q
        → Low (add binary32 u norm) r s → Below u norm
    rises p q r s Q S R order h l =
        div-rises 1 (pos 32) a c 4294967296 p q r s C Q S R (refl, refl) order
        u (add binary32 u norm) (add binary32 top norm) 4294967296 1 (lit< tt) v l h top-low

    -- a small norm
    pub norm-small : n ≤ 256 * d → Below u norm
    norm-small h = rises 4294967296 1 a c (lit< tt) C A (le_of_eq (mul_comm (a * c) 4294967296)) (top-stays h) sum-least

    -- by relative errors
    by-errors : a * (16777217 * (4294967296 * d + n)) ≤ 4294967296 * (16777215 * (a * d + n * c))
        → Below u norm
    by-errors h = rises (16777217 * (4294967296 * d + n)) (16777216 * d) (16777215 * (a * d + n * c)) (16777216 * (c * d))
        (mul-pos (lit< tt) (down_pos e)) (mul-pos (lit< tt) (mul-pos C (down_pos e)))
        (mul-pos (lit< tt) (let z = mul-pos A (down_pos e) in omega arith)) (rest a c d n h) top-high sum_near

    scaled : (k : ℕ) → k * d ≤ n → k * (c * d) ≤ n * c
    scaled k h = le_trans (le_of_eq (ap (λ (z : ℕ). k * z) (mul_comm c d) ∙ sym (mul_assoc k d c))) (mul-le-mul_right c h)

    pub freq-small : a ≤ 1073741824 * c → 256 * d ≤ n → Below u norm
    freq-small h k = by-errors (le_trans (le_of_eq (spread a d n))
        (weigh (a * d) (a * n) (n * c) (c * d) (times a 1073741824 c d h)
        (le_trans (times a 1073741824 c n h) (le_of_eq (ap (λ (z : ℕ). 1073741824 * z) (mul_comm c n)))) (scaled 256 k)))

    pub norm-large : a ≤ 2013265920 * c → 512 * d ≤ n → Below u norm
    norm-large h k = by-errors (le_trans (le_of_eq (spread a d n))
        (weigh-more (a * d) (a * n) (n * c) (c * d) (times a 2013265920 c d h)
        (le_trans (times a 2013265920 c n h) (le_of_eq (ap (λ (z : ℕ). 2013265920 * z) (mul_comm c n)))) (scaled 512 k)))

  -- a whole frequency a, where the format holds a + 256
  module _ (u : Float) (a : ℕ) (A : 0 < a) (v : HasValue u false a 1) (x : Exact a 1) (x' : Exact (a + 256) 1)
      (fine : High u (2 ^ 38) 1) where
    whole_sum : add binary32 u norm ≡ round binary32 false (a * d + n) d
    whole_sum = add_at binary32 u norm (a * d) n d (down_pos e) (rescale u false a 1 (a * d) d (lit< tt) (mul-one (a * d)) v) (refl, refl)

    whole-fine : High (round binary32 false (a * d + n) d) (2 ^ 39) 1
    whole-fine = subst (λ (z : Float). High z (2 ^ 39) 1) whole_sum (sum-fine u a 1 A (lit< tt) v x fine)

    whole-low : 256 * d ≤ n → Low (add binary32 u norm) (a + 256) 1
    whole-low h = subst (λ (z : Float). Low z (a + 256) 1) (sym whole_sum)
        (low-round (a * d + n) d (a + 256) 1 (2 ^ 39) 1 (down_pos e) (lit< tt) (let z = add-mul a 256 d in omega arith) x' whole-fine)

    pub norm-middle : a ≤ 2013265920 → 256 * d ≤ n → n ≤ 512 * d
        → Below u norm
    norm-middle h k l =
        rises u a 1 A (lit< tt) v x fine 4294967808 1 (a + 256) 1 (lit< tt) (lit< tt) (omega arith) (omega arith) (top-next l) (whole-low k)
