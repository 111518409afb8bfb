-- An f32's bit pattern, of clear sign: n / 2 ^ 23 is the exponent's field, n % 2 ^ 23 the digits.
use mathlib.Core.Path.{◌≡◌, refl, sym, ap, ◌∙◌, subst}
use mathlib.Core.Bool.{Bool, true, false, not, cond, false≢true}
use Prim.Native.Nat.{ℕ, zero, suc, ◌+◌, ◌*◌, ◌/◌, ◌%◌, ◌^◌, ◌<◌}
use native.Mathlib.Nat.{mul-one, le_of_suc-le-suc}
use native.Mathlib.Omega.{arith}
use lib.Dec.{T, leb, eqb, nleb→lt}
use lib.Arith.{lt_of_le-ne}
use lib.Ieee.{Float, nan, inf, fin, binary32, odd, fits, is_nan, of_fields, of_bits, to_bits}
use lib.Ieee.Bits.{of_bits-to_bits, of_bits-fits, to_bits-of_bits, to_bits-lt}
use lib.Ieee.Exact.{HasValue, odd_sign}
use borrow.Author.Tests.{lt-leb, ne_eqb}
use mir.Facts.{eqb_no}
use Rattle.floats.specs.Step.{within}

-- fields make a pattern
of_bits-fields : (X t : ℕ) → X < 256 → t < 8388608 → of_bits binary32 (X * 8388608 + t) ≡ of_fields binary32 false X t
unfolding of_bits
of_bits-fields X t h_x ht =
    let n = X * 8388608 + t in
    let a : leb 2147483648 n ≡ false = lt-leb 2147483648 n (omega arith) in
    let b : n % 2147483648 / 8388608 ≡ X = omega arith in
    let c : n % 8388608 ≡ t = omega arith in
    ap (λ (s : Bool). of_fields binary32 s (n % 2147483648 / 8388608) (n % 8388608)) a
    ∙ ap (λ (z : ℕ). of_fields binary32 false z (n % 8388608)) b
    ∙ ap (λ (z : ℕ). of_fields binary32 false X z) c

-- the value of a pattern whose exponent's field is from 1 to 254
fields_value : (X t : ℕ) → suc X < 255 → HasValue (of_fields binary32 false (suc X) t) false ((8388608 + t) * 2 ^ X) (2 ^ 149)
unfolding of_fields
fields_value X t h =
    subst (λ (b : Bool). HasValue (cond b (cond (eqb t 0) (inf false) nan) (odd 24 false (8388608 + t) X 149)) false ((8388608 + t) * 2 ^ X) (2 ^ 149))
    (sym (ne_eqb (suc X) 255 (λ e. omega arith)))
    (odd_sign 24 false (8388608 + t) X 149)

pub bits-value : (X t : ℕ) → suc X < 255 → t < 8388608 → HasValue (of_bits binary32 (suc X * 8388608 + t)) false ((8388608 + t) * 2 ^ X) (2 ^ 149)
bits-value X t h_x ht = subst (λ (x : Float). HasValue x false ((8388608 + t) * 2 ^ X) (2 ^ 149)) (sym (of_bits-fields (suc X) t (omega arith) ht)) (fields_value X t h_x)

-- a field of 0: the digits alone
pub bits-zero-value : (t : ℕ) → t < 8388608 → HasValue (of_bits binary32 t) false t (2 ^ 149)
unfolding of_fields
bits-zero-value t ht =
    subst (λ (x : Float). HasValue x false t (2 ^ 149)) (sym (of_bits-fields 0 t (omega arith) ht) ∙ ap (of_bits binary32) (omega arith))
    (subst (λ (z : ℕ). HasValue (odd 24 false t 0 149) false z (2 ^ 149)) (mul-one t) (odd_sign 24 false t 0 149))

-- ---- what `within` says of the fields
negative-out : (N : ℕ) (x : Float) (a c : ℕ) → HasValue x true a c → T (within N x) → ⊥
negative-out N nan a c v w = v
negative-out N (inf s) a c v w = v
negative-out N (fin true m e) a c v w = w
negative-out N (fin false m e) a c v w = false≢true v.0

fields_in : (N : ℕ) (s : Bool) (X t : ℕ) → X < 256 → T (within N (of_fields binary32 s X t)) → (s ≡ false) × (X < 255)
unfolding of_fields
fields_in N true zero t h w = absurd (negative-out N (odd 24 true t 0 149) (t * 2 ^ 0) (2 ^ 149) (odd_sign 24 true t 0 149) w)
fields_in N false zero t h w = (refl, omega arith)
fields_in N s (suc X) t h w = go (eqb (suc X) 255) (eqb t 0) (λ n. lt_of_le-ne (le_of_suc-le-suc h) (eqb_no n)) s w
  where
    go : (b z : Bool) → (T (not b) → suc X < 255) → (s : Bool) → T (within N (cond b (cond z (inf s) nan) (odd 24 s (8388608 + t) X 149))) → (s ≡ false) × (suc X < 255)
    go true true f s w = absurd w
    go true false f s w = absurd w
    go false z f true w = absurd (negative-out N (odd 24 true (8388608 + t) X 149) ((8388608 + t) * 2 ^ X) (2 ^ 149) (odd_sign 24 true (8388608 + t) X 149) w)
    go false z f false w = (refl, f tt)

bits_in : (N : ℕ) (x : Float) → T (fits binary32 x) → T (within N x) → (to_bits binary32 x < 2147483648) × (to_bits binary32 x / 8388608 < 255)
unfolding of_bits
bits_in N x p w =
    let n = to_bits binary32 x in
    let b : n < 4294967296 = to_bits-lt binary32 x p in
    let k = fields_in N (leb 2147483648 n) (n % 2147483648 / 8388608) (n % 8388608) (omega arith) (subst (λ (y : Float). T (within N y)) (sym (of_bits-to_bits binary32 x p)) w) in
    let l : n < 2147483648 = nleb→lt 2147483648 n (subst (λ (b : Bool). T (not b)) (sym k.0) tt) in
    (l, omega (arith, k.1))

-- ---- no NaN
pub within-not-nan : (N : ℕ) (x : Float) → T (within N x) → T (not (is_nan x))
unfolding is_nan
within-not-nan N nan w = absurd w
within-not-nan N (inf s) w = absurd w
within-not-nan N (fin s m e) w = tt

-- what is within a bound has a pattern below an infinity's
pub below_inf : (N b : ℕ) → b < 4294967296 → T (within N (of_bits binary32 b)) → b < 0x7f80_0000
below_inf N b h w =
    let x = of_bits binary32 b in
    let e : to_bits binary32 x ≡ b = to_bits-of_bits binary32 b h (within-not-nan N x w) in
    let k = bits_in N x (of_bits-fits binary32 b) w in
    let k0 : b < 2147483648 = subst (λ (z : ℕ). z < 2147483648) e k.0 in
    let k1 : b / 8388608 < 255 = subst (λ (z : ℕ). z / 8388608 < 255) e k.1 in
    omega arith

-- ---- a value that is no NaN has one pattern, so that equal scores are equal patterns
pub one-pattern : (n : ℕ) (x : Float) → n < 2 ^ 32 → of_bits binary32 n ≡ x → is_nan x ≡ false → n ≡ to_bits binary32 x
one-pattern n x h e f =
    sym (to_bits-of_bits binary32 n h (subst (λ (b : Bool). T (not b)) (sym (ap is_nan e ∙ f)) tt)) ∙ ap (to_bits binary32) e

pub same_bits : (x y : Float) → T (fits binary32 x) → T (fits binary32 y) → to_bits binary32 x ≡ to_bits binary32 y → x ≡ y
same_bits x y p q e = sym (of_bits-to_bits binary32 x p) ∙ ap (of_bits binary32) e ∙ of_bits-to_bits binary32 y q
