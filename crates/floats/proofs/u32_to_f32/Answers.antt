-- `floats::u32_to_f32` meets its contract: above 2 ^ 24, the kept digits times 2 ^ k round to what n rounds to.
use mathlib.Core.Path.{◌≡◌, sym, ◌∙◌, subst}
use Prim.Native.Nat.{ℕ, suc, suc-le-suc, ◌^◌, ◌*◌, ◌%◌, ◌+◌, ◌-◌, ◌<◌, ◌≤◌}
use native.Mathlib.Nat.{lt_of_lt_of_le, lt_of_not-le, not-le_of_lt, le_trans, le_of_eq, le_of_lt, one-mul}
use native.Mathlib.Omega.{arith}
use lib.Dec.{T, le→leb}
use lib.IntN.{pos}
use lib.Pow.{pow_pos, pow_mono, pow-add}
use lib.Count.{count_leading_zeros, leading_top}
use lib.Ieee.{binary32, mul, of_int, in_float}
use lib.Ieee.Nearest.{closest}
use Rattle.floats.specs.Whole.{whole_f32}
use Rattle.floats.proofs.Digits.{closest-le, closest-ge, one_shift, whole-rounds, mul-whole}
use Rattle.floats.proofs.u32_to_f32.Goals as goal

in-float : (n : ℕ) → n ≤ 16777216 → T (in_float binary32 (pos n))
unfolding in_float
in-float n h = le→leb n 16777216 h

-- what the count of leading zeros says of an n above 2 ^ 24: n has 24 + k digits, k = 8 - zeros
module _ (n : ℕ) (big : 16777216 < n) (small : n < 4294967296) where
  abbrev k : ℕ
  k = 8 - count_leading_zeros 32 n

  at_top : (j : ℕ) × (count_leading_zeros 32 n + suc j ≡ 32) × (2 ^ j ≤ n) × (n < 2 ^ suc j)
  at_top = leading_top 32 n (omega arith) small

  top-ge : 24 ≤ at_top.0
  top-ge = lt_of_not-le (λ (g : at_top.0 ≤ 23). not-le_of_lt (lt_of_lt_of_le at_top.3 (pow_mono (suc-le-suc g))) (le_of_lt big))

  zeros : count_leading_zeros 32 n ≤ 7
  zeros = omega (arith, at_top.1, top-ge)

  lo : 2 ^ (24 + k - 1) ≤ n
  lo = subst (λ (j : ℕ). 2 ^ j ≤ n) (omega (arith, at_top.1, top-ge)) at_top.2

  hi : n < 2 ^ (24 + k)
  hi = subst (λ (j : ℕ). n < 2 ^ j) (omega (arith, at_top.1, top-ge)) at_top.3

  u-is : 1 * 2 ^ k % 4294967296 ≡ 2 ^ k
  u-is = one_shift k (omega arith)

  u-small : 2 ^ k ≤ 16777216
  u-small = pow_mono {j = 24} (omega arith)

  p-small : closest n (2 ^ k) ≤ 16777216
  p-small = closest-le n (2 ^ k) 16777216 (pow_pos k) (lt_of_lt_of_le hi (le_of_eq (pow-add 2 24 k)))

  p-pos : 0 < closest n (2 ^ k)
  p-pos = closest-ge n (2 ^ k) 1 (pow_pos k) (le_trans (le_of_eq (one-mul (2 ^ k))) (le_trans u-small (le_of_lt big)))

  result : mul binary32 (of_int binary32 (pos (closest n (2 ^ k)))) (of_int binary32 (pos (2 ^ k))) ≡ whole_f32 n
  unfolding of_int
  result = mul-whole binary32 (closest n (2 ^ k)) (2 ^ k) p-pos (pow_pos k) p-small u-small ∙ sym (whole-rounds binary32 n k lo hi (omega arith))

pub overflow_sub-dropped : goal.overflow_sub-dropped
overflow_sub-dropped c = omega (arith, zeros c.args.n c.if-n-le16777216.false (omega arith))

pub rounded_shift-kept-requires : goal.rounded_shift-kept-requires
rounded_shift-kept-requires c = omega (arith, zeros c.args.n c.if-n-le16777216.false (omega arith))

pub int_to_float-result-2 : goal.int_to_float-result-2
int_to_float-result-2 c =
    in-float c.rounded_shift-kept.result (rw c.rounded_shift-kept.ensures (p-small c.args.n c.if-n-le16777216.false (omega arith)))

pub returns : goal.returns
returns c =
    let n = c.args.n in
    let b = c.if-n-le16777216.false in
    rw (u-is n b (omega arith), c.rounded_shift-kept.ensures) (result n b (omega arith))
