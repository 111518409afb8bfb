-- The limits on a weight and an average, as tests of the bit pattern.
use mathlib.Core.Path.{◌≡◌, refl, sym, ap, ◌∙◌}
use mathlib.Core.Bool.{true, false}
use Prim.Native.Nat.{ℕ, ◌*◌, ◌^◌, ◌≤◌, ◌<◌}
use native.Mathlib.Nat.{le_trans, le_of_eq, lt_of_not-le, not-le_of_lt, le_of_suc-le-suc, le_of_mul-le-mul_right, mul-le-mul_right, mul_right_comm, mul-one}
use native.Mathlib.Omega.{arith}
use lib.IntN.{pos}
use lib.Dec.{T, leb, leb→le, le→leb, lit<}
use lib.Pow.{pow_pos}
use lib.Ieee.{Float, nan, inf, fin, binary32, up, down, round, of_bits, le}
use lib.Ieee.Fits.{and_r, and_i, down_pos}
use lib.Ieee.Exact.{HasValue}
use Rattle.floats.specs.Step.{within}
use Rattle.floats.specs.Whole.{f32_of}
use Rattle.floats.proofs.Tests.{same_test}
use Rattle.floats.proofs.Pattern.{below_inf}
use Rattle.floats.proofs.PatternOrder.{mag, mag-lt, pattern-value, pattern-le, within-bits, within-pattern}
use Rattle.floats.proofs.Range.{Low}
use Rattle.floats.proofs.Order.{le→cross}
use Rattle.bm25.specs.Limits.{average_ok, weight_ok}
use Rattle.bm25.proofs.Bounds.{average-low}

pub weight-bits : (b : ℕ) → b < 4294967296 → leb b 0x447a_0000 ≡ weight_ok (of_bits binary32 b)
unfolding mag
weight-bits b h = within-bits 1000 0x447a_0000 refl (lit< tt) b h

-- ---- the average
low_value : (x : Float) (a c p q : ℕ) → 0 < c → HasValue x false a c → Low x p q → p * c ≤ a * q
low_value nan a c p q C v h = absurd v
low_value (inf s) a c p q C v h = absurd v
low_value (fin true m e) a c p q C v h = absurd h
low_value (fin false m e) a c p q C v h =
    le_of_mul-le-mul_right
    (le_trans (le_of_eq (mul_right_comm p c (down e))) (le_trans (mul-le-mul_right c h) (le_of_eq (mul_right_comm (m * up e) q c ∙ ap (λ (z : ℕ). z * q) v.1 ∙ mul_right_comm a (down e) q))))
    (down_pos e)

average-within : (x : Float) → Low x 1 16 → T (average_ok x) → T (within 2147483648 x)
unfolding average_ok round le
average-within nan l t = absurd l
average-within (inf s) l t = absurd l
average-within (fin true m e) l t = absurd l
average-within (fin false m e) l t =
    le→leb (m * up e) (2147483648 * down e)
    (le_trans (le_of_eq (sym (mul-one (m * up e)))) (le→cross m e 1 (pos 31) (and_r (le (f32_of 1 16) (fin false m e)) (le (fin false m e) (f32_of 2147483648 1)) t)))

low-is : f32_of 1 16 ≡ of_bits binary32 0x3d80_0000
unfolding round of_bits
low-is = refl

high_is : f32_of 2147483648 1 ≡ of_bits binary32 0x4f00_0000
unfolding round of_bits
high_is = refl

average-fwd : (b : ℕ) → 0x3d80_0000 ≤ b → b ≤ 0x4f00_0000 → T (average_ok (of_bits binary32 b))
unfolding average_ok round le
average-fwd b l h =
    and_i (le (f32_of 1 16) (of_bits binary32 b)) (le (of_bits binary32 b) (f32_of 2147483648 1))
    (rw low-is (pattern-le 0x3d80_0000 b (lit< tt) (omega arith) l))
    (rw high_is (pattern-le b 0x4f00_0000 (omega arith) (lit< tt) h))

average-back : (b : ℕ) → b < 4294967296 → T (average_ok (of_bits binary32 b)) → (0x3d80_0000 ≤ b) × (b ≤ 0x4f00_0000)
unfolding mag
average-back b h t =
    let x = of_bits binary32 b in
    let l = average-low x t in
    let w = average-within x l t in
    let top : b ≤ 0x4f00_0000 = within-pattern 2147483648 0x4f00_0000 refl (lit< tt) b h w in
    let v : 1 * 2 ^ 149 ≤ mag b * 16 = low_value x (mag b) (2 ^ 149) 1 16 (pow_pos 149) (pattern-value b (below_inf 2147483648 b h w)) l in
    let m : mag 0x3d80_0000 * 16 ≤ mag b * 16 = v in
    (le_of_suc-le-suc (lt_of_not-le (λ (g : b < 0x3d80_0000). not-le_of_lt (mag-lt b 0x3d80_0000 g) (le_of_mul-le-mul_right m (lit< tt)))), top)

pub average-bits-low : (b : ℕ) → b < 0x3d80_0000 → false ≡ average_ok (of_bits binary32 b)
average-bits-low b h = same_test false (average_ok (of_bits binary32 b)) (λ t. absurd t) (λ t. absurd (not-le_of_lt h (average-back b (omega arith) t).0))

pub average-bits : (b : ℕ) → b < 4294967296 → 0x3d80_0000 ≤ b → leb b 0x4f00_0000 ≡ average_ok (of_bits binary32 b)
average-bits b h l = same_test (leb b 0x4f00_0000) (average_ok (of_bits binary32 b)) (λ t. average-fwd b l (leb→le b 0x4f00_0000 t)) (λ t. le→leb b 0x4f00_0000 (average-back b h t).1)
