-- Values that a format holds, as data: each is told by its sign and size, and a fraction that a value has rounds to it.
use mathlib.Core.Path.{◌≡◌, refl, sym, ap, ◌∙◌, subst}
use mathlib.Core.Logic.{◌⊎◌, inl, inr}
use mathlib.Core.Bool.{Bool, true, false, cond, ◌&&◌}
use Prim.Native.Nat.{ℕ, zero, suc, ◌+◌, ◌-◌, ◌*◌, ◌/◌, ◌%◌, ◌^◌, ◌≤◌, ◌<◌}
use native.Mathlib.Nat.{mul_right_comm, mul_assoc, mul-one, mul_comm, zero-mul, eq-or-lt_of_le, one-mul, eq_of_mul-eq-mul_right, mul-lt-mul_of_pos_right, lt_of_lt_of_le, le_of_eq, lt_of_not-le, not-le_of_lt, le_of_suc-le-suc, lt_of_le_of_lt, sub-add_cancel}
use lib.Dec.{T, leb, ltb, eqb, lit<, leb→le, ltb→lt}
use lib.IntN.{ℤ, pos, negsuc}
use lib.Pow.{pow-add, pow_pos, pow-lt}
use lib.Ieee.{Float, nan, inf, fin, Format, binary32, binary64, prec, emax, low, up, down, size, round, fits, to_bits, of_bits, top, hid}
use lib.Ieee.Bits.{of_bits-to_bits}
use lib.Ieee.Fits.{down_pos, round-fits}
use lib.Ieee.Nearest.{div_same}
use lib.Ieee.Exact.{HasValue, round_exact}
use lib.Ieee.Scale.{round_same}

-- from one fraction to another of the same size
pub rescale : (x : Float) (s : Bool) (a c b d : ℕ) → 0 < c → b * c ≡ a * d → HasValue x s a c → HasValue x s b d
rescale nan s a c b d C h v = v
rescale (inf t) s a c b d C h v = v
rescale (fin t m e) s a c b d C h v = (
  v.0,
  eq_of_mul-eq-mul_right c C (m * up e * d) (b * down e)
      (mul_right_comm (m * up e) d c ∙ ap (λ (x : ℕ). x * d) v.1 ∙ mul_right_comm a (down e) d ∙ ap (λ (x : ℕ). x * down e) (sym h) ∙ mul_right_comm b c (down e)),
)

-- the bit pattern of a finite value of sign s and size n units
pattern_of : Format → Bool → ℕ → ℕ
pattern_of f s n = cond s (top f) 0 + (size n - prec f) * hid f + n / 2 ^ (size n - prec f)

pattern-is : (f : Format) (x : Float) (s : Bool) (a c : ℕ) → 0 < c → HasValue x s a c → to_bits f x ≡ pattern_of f s (a * 2 ^ low f / c)
unfolding to_bits pattern_of
pattern-is f nan s a c C v = absurd v
pattern-is f (inf t) s a c C v = absurd v
pattern-is f (fin t m e) s a c C v =
    let n : m * up e * 2 ^ low f / down e ≡ a * 2 ^ low f / c = div_same (m * up e * 2 ^ low f) (down e) (a * 2 ^ low f) c (down_pos e) C
    (mul_right_comm (m * up e) (2 ^ low f) c ∙ ap (λ (z : ℕ). z * 2 ^ low f) v.1 ∙ mul_right_comm a (down e) (2 ^ low f)) in
    ap (λ (b : Bool). pattern_of f b (m * up e * 2 ^ low f / down e)) v.0 ∙ ap (λ (z : ℕ). pattern_of f s z) n

-- two values of one sign and one size are equal: their bit patterns are computed from those alone
pub value-unique : (f : Format) (x y : Float) (s : Bool) (a c : ℕ) → 0 < c → T (fits f x) → T (fits f y) → HasValue x s a c → HasValue y s a c → x ≡ y
value-unique f x y s a c C p q v w =
    sym (of_bits-to_bits f x p) ∙ ap (of_bits f) (pattern-is f x s a c C v ∙ sym (pattern-is f y s a c C w)) ∙ of_bits-to_bits f y q

one-small : (f : Format) → 1 < 2 ^ prec f
one-small binary32 = lit< tt
one-small binary64 = lit< tt

-- `round_exact` with one more number, 2 ^ prec
pub round-exact-le : (f : Format) (s : Bool) (num den q j : ℕ) → 0 < den → q ≤ 2 ^ prec f → q * 2 ^ j < 2 ^ (low f + suc (emax f))
    → num * 2 ^ low f ≡ q * 2 ^ j * den → HasValue (round f s num den) s num den
round-exact-le f s num den q j D h fine e = go (eq-or-lt_of_le h)
  where
    go : (q ≡ 2 ^ prec f) ⊎ (q < 2 ^ prec f) → HasValue (round f s num den) s num den
    go (inr l) = round_exact f s num den q j D l fine e
    go (inl p) =
        let z : q * 2 ^ j ≡ 1 * 2 ^ (prec f + j) = ap (λ (x : ℕ). x * 2 ^ j) p ∙ sym (pow-add 2 (prec f) j) ∙ sym (one-mul (2 ^ (prec f + j))) in
        round_exact f s num den 1 (prec f + j) D (one-small f) (subst (λ (x : ℕ). x < 2 ^ (low f + suc (emax f))) z fine) (e ∙ ap (λ (x : ℕ). x * den) z)

-- ---- a value that the format holds is exact
pow_le_back : (i j : ℕ) → 2 ^ i ≤ 2 ^ j → i ≤ j
pow_le_back i j h = le_of_suc-le-suc (lt_of_not-le (λ (g : suc j ≤ i). not-le_of_lt (pow-lt g) h))

-- what `fits` says of a significand above 0: it is below 2 ^ prec, and the value is neither too fine nor too large
last-three : (a b c d : Bool) → T (a && b && c && d) → T b × (T c × T d)
last-three true true true true t = (tt, (tt, tt))
last-three false b c d t = absurd t
last-three true false c d t = absurd t
last-three true true false d t = absurd t
last-three true true true false t = absurd t

pub held : (f : Format) (s : Bool) (m : ℕ) (e : ℤ) → T (fits f (fin s (suc m) e))
    → (suc m < 2 ^ prec f) × ((down e ≤ 2 ^ low f) × (suc m * up e < 2 ^ suc (emax f) * down e))
unfolding fits
held f s m e p =
    let t = last-three (eqb (suc m % 2) 1) (ltb (suc m) (2 ^ prec f)) (leb (down e) (2 ^ low f)) (ltb (suc m * up e) (2 ^ suc (emax f) * down e)) p in
    (ltb→lt (suc m) (2 ^ prec f) t.0, (leb→le (down e) (2 ^ low f) t.1.0, ltb→lt (suc m * up e) (2 ^ suc (emax f) * down e) t.1.1))

limit : (f : Format) → 2 ^ suc (emax f) * 2 ^ low f ≡ 2 ^ (low f + suc (emax f))
limit f = mul_comm (2 ^ suc (emax f)) (2 ^ low f) ∙ sym (pow-add 2 (low f) (suc (emax f)))

own-exact : (f : Format) (s : Bool) (m : ℕ) (e : ℤ) → T (fits f (fin s m e)) → HasValue (round f s (m * up e) (down e)) s (m * up e) (down e)
own-exact f s zero e p =
    round_exact f s (0 * up e) (down e) 0 0 (down_pos e) (pow_pos (prec f)) (pow_pos (low f + suc (emax f))) (simp zero-mul)
own-exact f s (suc m) (pos k) p =
    let h = held f s m (pos k) p in
    let same : suc m * 2 ^ k * 2 ^ low f ≡ suc m * 2 ^ (k + low f) = mul_assoc (suc m) (2 ^ k) (2 ^ low f) ∙ ap (λ (z : ℕ). suc m * z) (sym (pow-add 2 k (low f))) in
    round_exact f s (suc m * 2 ^ k) 1 (suc m) (k + low f) (lit< tt) h.0
    (lt_of_le_of_lt (le_of_eq (sym same)) (lt_of_lt_of_le (mul-lt-mul_of_pos_right h.1.1 (pow_pos (low f))) (le_of_eq (ap (λ (z : ℕ). z * 2 ^ low f) (mul-one (2 ^ suc (emax f))) ∙ limit f))))
    (same ∙ sym (mul-one (suc m * 2 ^ (k + low f))))
own-exact f s (suc m) (negsuc k) p =
    let h = held f s m (negsuc k) p in
    let l : suc k ≤ low f = pow_le_back (suc k) (low f) h.1.0 in
    let back : 2 ^ (low f - suc k) * 2 ^ suc k ≡ 2 ^ low f = sym (pow-add 2 (low f - suc k) (suc k)) ∙ ap (λ (z : ℕ). 2 ^ z) (sub-add_cancel l) in
    round_exact f s (suc m * 1) (2 ^ suc k) (suc m) (low f - suc k) (pow_pos (suc k)) h.0
    (lt_of_le_of_lt (le_of_eq (ap (λ (z : ℕ). z * 2 ^ (low f - suc k)) (sym (mul-one (suc m)))))
    (lt_of_lt_of_le (mul-lt-mul_of_pos_right h.1.1 (pow_pos (low f - suc k)))
    (le_of_eq (mul_assoc (2 ^ suc (emax f)) (2 ^ suc k) (2 ^ (low f - suc k)) ∙ ap (λ (z : ℕ). 2 ^ suc (emax f) * z) (mul_comm (2 ^ suc k) (2 ^ (low f - suc k)) ∙ back) ∙ limit f))))
    (ap (λ (z : ℕ). z * 2 ^ low f) (mul-one (suc m)) ∙ ap (λ (z : ℕ). suc m * z) (sym back) ∙ sym (mul_assoc (suc m) (2 ^ (low f - suc k)) (2 ^ suc k)))

-- a fraction that a value has rounds to that value
pub round-of-value : (f : Format) (x : Float) (s : Bool) (a c : ℕ) → 0 < c → T (fits f x) → HasValue x s a c → round f s a c ≡ x
round-of-value f nan s a c C p v = absurd v
round-of-value f (inf t) s a c C p v = absurd v
round-of-value f (fin t m e) s a c C p v =
    round_same f s a c (m * up e) (down e) C (down_pos e) (sym v.1)
    ∙ value-unique f (round f s (m * up e) (down e)) (fin t m e) s (m * up e) (down e) (down_pos e) (round-fits f s (m * up e) (down e)) p
    (own-exact f s m e (subst (λ (b : Bool). T (fits f (fin b m e))) v.0 p)) (v.0, refl)
