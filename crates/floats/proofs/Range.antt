-- Bounds through rounded operations on finite f32 values of clear sign: a bound that the format holds, once it holds before the rounding, holds after it.
use mathlib.Core.Path.{◌≡◌, refl, sym, ap, ◌∙◌, subst}
use mathlib.Core.Logic.{◌⊎◌, inl, inr}
use mathlib.Core.Bool.{Bool, true, false, not, cond, true≢false}
use Prim.Native.Nat.{ℕ, ◌+◌, ◌*◌, ◌/◌, ◌%◌, ◌^◌, ◌≤◌, ◌<◌, compare}
use native.Mathlib.Nat.{le_trans, le_of_eq, lt_of_lt_of_le, lt_irrefl, mul-one, one-mul, mul_comm, mul_assoc, mul_right_comm, mul-mul-mul_comm, mul-le-mul_right, mul-le-mul, le_of_mul-le-mul_right, add-mul, add_comm, add-le-add, le-add_right, mul-pos, div-div-eq-div-mul}
use lib.Dec.{T, ltb, eqb, leb→le, le→leb, ltb→lt, lit<}
use lib.Pow.{pow_pos}
use lib.Ieee.{Float, nan, inf, fin, binary32, up, down, odd, units, round, sum, add, mul, div, le}
use lib.Ieee.Fits.{up_pos, down_pos, round_is, nearest-le, kept-lt}
use lib.Ieee.Bits.{cond_no}
use lib.Ieee.Exact.{HasValue}
use lib.Ieee.Order.{drop, kept, round_mono}
use lib.Ieee.Scale.{grid, overflow, round_val}
use lib.Ieee.Positive.{first_pos}
use mir.Facts.{no_eqb}
use Rattle.floats.specs.Step.{within}
use Rattle.floats.proofs.Value.{round-exact-le}
use Rattle.floats.proofs.Order.{le→cross, cross→le}

-- x is finite, of clear sign, and at most a / c; at least a / c
abbrev pub High : Float → ℕ → ℕ → Type 0
High nan a c = ⊥
High (inf s) a c = ⊥
High (fin true m e) a c = ⊥
High (fin false m e) a c = m * up e * c ≤ a * down e

abbrev pub Low : Float → ℕ → ℕ → Type 0
Low nan a c = ⊥
Low (inf s) a c = ⊥
Low (fin true m e) a c = ⊥
Low (fin false m e) a c = a * down e ≤ m * up e * c

-- the format holds a / c
abbrev pub Exact : ℕ → ℕ → Type 0
Exact a c = HasValue (round binary32 false a c) false a c

-- ---- a rounded fraction is an infinity, or has a size
units-infinite : (q k : ℕ) → T (not (ltb (q * 2 ^ k) (2 ^ 277))) → units binary32 false q k ≡ inf false
unfolding units
units-infinite q k t = cond_no (ltb (q * 2 ^ k) (2 ^ 277)) (odd 25 false q k 149) (inf false) t

pub round-either : (a c : ℕ) → (round binary32 false a c ≡ inf false) ⊎ (grid binary32 a c < overflow binary32)
round-either a c = go (ltb (grid binary32 a c) (overflow binary32)) (ltb→lt (grid binary32 a c) (overflow binary32))
    (λ t. round_is binary32 false a c ∙ units-infinite (kept 24 (a * 2 ^ 149) c) (drop 24 (a * 2 ^ 149) c) t)
  where
    go : (b : Bool) → (T b → grid binary32 a c < overflow binary32) → (T (not b) → round binary32 false a c ≡ inf false)
        → (round binary32 false a c ≡ inf false) ⊎ (grid binary32 a c < overflow binary32)
    go true f g = inr (f tt)
    go false f g = inl (g tt)

-- ---- an order and a value make a bound
through : (M E N D a c : ℕ) → 0 < D → M * D ≤ N * E → N * c ≡ a * D → M * c ≤ a * E
through M E N D a c D+ h v =
    le_of_mul-le-mul_right
    (le_trans (le_of_eq (mul_right_comm M c D)) (le_trans (mul-le-mul_right c h) (le_of_eq (mul_right_comm N E c ∙ ap (λ (z : ℕ). z * E) v ∙ mul_right_comm a D E))))
    D+

through-low : (M E N D a c : ℕ) → 0 < D → N * E ≤ M * D → N * c ≡ a * D → a * E ≤ M * c
through-low M E N D a c D+ h v =
    le_of_mul-le-mul_right
    (le_trans (le_of_eq (mul_right_comm a E D ∙ ap (λ (z : ℕ). z * E) (sym v) ∙ mul_right_comm N c E)) (le_trans (mul-le-mul_right c h) (le_of_eq (mul_right_comm M D c))))
    D+

high-of-le : (x y : Float) (u l a c : ℕ) → HasValue x false u l → HasValue y false a c → T (le x y) → High x a c
high-of-le nan y u l a c v w h = absurd v
high-of-le (inf s) y u l a c v w h = absurd v
high-of-le (fin true m e) y u l a c v w h = absurd (true≢false v.0)
high-of-le (fin false m e) nan u l a c v w h = absurd w
high-of-le (fin false m e) (inf s) u l a c v w h = absurd w
high-of-le (fin false m e) (fin true n d) u l a c v w h = absurd (true≢false w.0)
high-of-le (fin false m e) (fin false n d) u l a c v w h = through (m * up e) (down e) (n * up d) (down d) a c (down_pos d) (le→cross m e n d h) w.1

low-of-le : (x y : Float) (a c b d : ℕ) → High x b d → HasValue y false a c → T (le y x) → Low x a c
low-of-le nan y a c b d v w h = v
low-of-le (inf s) y a c b d v w h = v
low-of-le (fin true m e) y a c b d v w h = v
low-of-le (fin false m e) nan a c b g v w h = absurd w
low-of-le (fin false m e) (inf s) a c b g v w h = absurd w
low-of-le (fin false m e) (fin true n d) a c b g v w h = absurd (true≢false w.0)
low-of-le (fin false m e) (fin false n d) a c b g v w h = through-low (m * up e) (down e) (n * up d) (down d) a c (down_pos d) (le→cross n d m e h) w.1

no-infinity : (y : Float) (a c : ℕ) → HasValue y false a c → T (le (inf false) y) → ⊥
unfolding le
no-infinity nan a c v h = v
no-infinity (inf s) a c v h = v
no-infinity (fin s m e) a c v h = h

pub high-round : (P C a c : ℕ) → 0 < C → 0 < c → P * c ≤ a * C → Exact a c → High (round binary32 false P C) a c
high-round P C a c C+ c+ h x =
    let o : T (le (round binary32 false P C) (round binary32 false a c)) = round_mono binary32 P C a c C+ c+ h in
    elim (round-either P C) [
      | inl e ↦ absurd (no-infinity (round binary32 false a c) a c x (subst (λ (z : Float). T (le z (round binary32 false a c))) e o))
      | inr l ↦ high-of-le (round binary32 false P C) (round binary32 false a c) (grid binary32 P C) (2 ^ 149) a c (round_val binary32 P C l) x o
    ]

pub low-round : (P C a c b d : ℕ) → 0 < C → 0 < c → a * C ≤ P * c → Exact a c → High (round binary32 false P C) b d → Low (round binary32 false P C) a c
low-round P C a c b d C+ c+ h x w = low-of-le (round binary32 false P C) (round binary32 false a c) a c b d w x (round_mono binary32 a c P C c+ C+ h)

-- ---- the operations
pub mul-high : (x y : Float) (a c b d : ℕ) → 0 < c → 0 < d → High x a c → High y b d → Exact (a * b) (c * d) → High (mul binary32 x y) (a * b) (c * d)
unfolding mul
mul-high nan y a c b d C D h k x = absurd h
mul-high (inf s) y a c b d C D h k x = absurd h
mul-high (fin true m e) y a c b d C D h k x = absurd h
mul-high (fin false m e) nan a c b d C D h k x = absurd k
mul-high (fin false m e) (inf s) a c b d C D h k x = absurd k
mul-high (fin false m e) (fin true n g) a c b d C D h k x = absurd k
mul-high (fin false m e) (fin false n g) a c b d C D h k x =
    high-round (m * up e * (n * up g)) (down e * down g) (a * b) (c * d) (mul-pos (down_pos e) (down_pos g)) (mul-pos C D)
    (le_trans (le_of_eq (mul-mul-mul_comm (m * up e) (n * up g) c d)) (le_trans (mul-le-mul h k) (le_of_eq (mul-mul-mul_comm a (down e) b (down g))))) x

pub mul_low : (x y : Float) (a c b d p q : ℕ) → 0 < c → 0 < d → Low x a c → Low y b d → Exact (a * b) (c * d) → High (mul binary32 x y) p q → Low (mul binary32 x y) (a * b) (c * d)
unfolding mul
mul_low nan y a c b d p q C D h k x w = absurd h
mul_low (inf s) y a c b d p q C D h k x w = absurd h
mul_low (fin true m e) y a c b d p q C D h k x w = absurd h
mul_low (fin false m e) nan a c b d p q C D h k x w = absurd k
mul_low (fin false m e) (inf s) a c b d p q C D h k x w = absurd k
mul_low (fin false m e) (fin true n g) a c b d p q C D h k x w = absurd k
mul_low (fin false m e) (fin false n g) a c b d p q C D h k x w =
    low-round (m * up e * (n * up g)) (down e * down g) (a * b) (c * d) p q (mul-pos (down_pos e) (down_pos g)) (mul-pos C D)
    (le_trans (le_of_eq (mul-mul-mul_comm a b (down e) (down g))) (le_trans (mul-le-mul h k) (le_of_eq (mul-mul-mul_comm (m * up e) c (n * up g) d)))) x w

spread : (M c a E G : ℕ) → M * c ≤ a * E → M * G * c ≤ a * (E * G)
spread M c a E G h = le_trans (le_of_eq (mul_right_comm M G c)) (le_trans (mul-le-mul_right G h) (le_of_eq (mul_assoc a E G)))

spread' : (N c b G E : ℕ) → N * c ≤ b * G → N * E * c ≤ b * (E * G)
spread' N c b G E h = le_trans (spread N c b G E h) (le_of_eq (ap (λ (z : ℕ). b * z) (mul_comm G E)))

spread-low : (M c a E G : ℕ) → a * E ≤ M * c → a * (E * G) ≤ M * G * c
spread-low M c a E G h = le_trans (le_of_eq (sym (mul_assoc a E G))) (le_trans (mul-le-mul_right G h) (le_of_eq (mul_right_comm M c G)))

-- at one denominator
pub add-high : (x y : Float) (a b c : ℕ) → 0 < c → High x a c → High y b c → Exact (a + b) c → High (add binary32 x y) (a + b) c
unfolding add
add-high nan y a b c C h k x = absurd h
add-high (inf s) y a b c C h k x = absurd h
add-high (fin true m e) y a b c C h k x = absurd h
add-high (fin false m e) nan a b c C h k x = absurd k
add-high (fin false m e) (inf s) a b c C h k x = absurd k
add-high (fin false m e) (fin true n g) a b c C h k x = absurd k
add-high (fin false m e) (fin false n g) a b c C h k x =
    let A = m * up e * down g in
    let B = n * up g * down e in
    let E = down e * down g in
    let p : A * c ≤ a * E = spread (m * up e) c a (down e) (down g) h in
    let q : B * c ≤ b * E = spread' (n * up g) c b (down g) (down e) k in
    high-round (A + B) E (a + b) c (mul-pos (down_pos e) (down_pos g)) C
    (le_trans (le_of_eq (add-mul A B c)) (le_trans (add-le-add p q) (le_of_eq (sym (add-mul a b E))))) x

-- the order of two summands is free
pub add-comm-high : (x y : Float) (a c b d : ℕ) → High x a c → High y b d → add binary32 x y ≡ add binary32 y x
unfolding add sum
add-comm-high nan y a c b d h k = absurd h
add-comm-high (inf s) y a c b d h k = absurd h
add-comm-high (fin true m e) y a c b d h k = absurd h
add-comm-high (fin false m e) nan a c b d h k = absurd k
add-comm-high (fin false m e) (inf s) a c b d h k = absurd k
add-comm-high (fin false m e) (fin true n g) a c b d h k = absurd k
add-comm-high (fin false m e) (fin false n g) a c b d h k =
    ap (λ (z : ℕ). round binary32 false z (down e * down g)) (add_comm (m * up e * down g) (n * up g * down e))
    ∙ ap (λ (z : ℕ). round binary32 false (n * up g * down e + m * up e * down g) z) (mul_comm (down e) (down g))

-- a sum is no less than its first part
pub add_low : (x y : Float) (a c b d p q : ℕ) → 0 < c → Low x a c → High y b d → Exact a c → High (add binary32 x y) p q → Low (add binary32 x y) a c
unfolding add
add_low nan y a c b d p q C h k x w = absurd h
add_low (inf s) y a c b d p q C h k x w = absurd h
add_low (fin true m e) y a c b d p q C h k x w = absurd h
add_low (fin false m e) nan a c b d p q C h k x w = absurd k
add_low (fin false m e) (inf s) a c b d p q C h k x w = absurd k
add_low (fin false m e) (fin true n g) a c b d p q C h k x w = absurd k
add_low (fin false m e) (fin false n g) a c b d p q C h k x w =
    let A = m * up e * down g in
    let B = n * up g * down e in
    low-round (A + B) (down e * down g) a c p q (mul-pos (down_pos e) (down_pos g)) C
    (le_trans (spread-low (m * up e) c a (down e) (down g) h) (le_trans (le-add_right (A * c) (B * c)) (le_of_eq (sym (add-mul A B c))))) x w

-- a divisor that is at least b / d, b above 0, is not 0
low-pos : (n : ℕ) (u b d g : ℕ) → 0 < b → 0 < g → b * g ≤ n * u * d → 0 < n
low-pos n u b d g B G h = first_pos n u (first_pos (n * u) d (lt_of_lt_of_le (mul-pos B G) h))

picked : (n : ℕ) (z x : Float) → 0 < n → cond (eqb n 0) z x ≡ x
picked n z x h = cond_no (eqb n 0) z x (no_eqb (λ e. lt_irrefl 0 (subst (λ (k : ℕ). 0 < k) e h)))

pub div-high : (x y : Float) (a c b d : ℕ) → 0 < c → 0 < b → High x a c → Low y b d → Exact (a * d) (c * b) → High (div binary32 x y) (a * d) (c * b)
unfolding div
div-high nan y a c b d C B h k x = absurd h
div-high (inf s) y a c b d C B h k x = absurd h
div-high (fin true m e) y a c b d C B h k x = absurd h
div-high (fin false m e) nan a c b d C B h k x = absurd k
div-high (fin false m e) (inf s) a c b d C B h k x = absurd k
div-high (fin false m e) (fin true n g) a c b d C B h k x = absurd k
div-high (fin false m e) (fin false n g) a c b d C B h k x =
    let M = m * up e in
    let N = n * up g in
    let n+ = low-pos n (up g) b d (down g) B (down_pos g) k in
    subst (λ (z : Float). High z (a * d) (c * b)) (sym (picked n (cond (eqb m 0) nan (inf false)) (round binary32 false (M * down g) (N * down e)) n+))
    (high-round (M * down g) (N * down e) (a * d) (c * b) (mul-pos (mul-pos n+ (up_pos g)) (down_pos e)) (mul-pos C B)
    (le_trans (le_of_eq (mul-mul-mul_comm M (down g) c b ∙ ap (λ (z : ℕ). M * c * z) (mul_comm (down g) b)))
    (le_trans (mul-le-mul h k) (le_of_eq (ap (λ (z : ℕ). a * down e * z) (mul_comm N d) ∙ mul-mul-mul_comm a (down e) d N ∙ ap (λ (z : ℕ). a * d * z) (mul_comm (down e) N)))))
    x)

one-exact : Exact 1 1
unfolding round
one-exact = (refl, refl)

-- x / y is at most 1 where x is at most y
pub div-unit : (x y : Float) (a c b d : ℕ) → 0 < b → High x a c → Low y b d → T (le x y) → High (div binary32 x y) 1 1
unfolding div
div-unit nan y a c b d B h k l = absurd h
div-unit (inf s) y a c b d B h k l = absurd h
div-unit (fin true m e) y a c b d B h k l = absurd h
div-unit (fin false m e) nan a c b d B h k l = absurd k
div-unit (fin false m e) (inf s) a c b d B h k l = absurd k
div-unit (fin false m e) (fin true n g) a c b d B h k l = absurd k
div-unit (fin false m e) (fin false n g) a c b d B h k l =
    let M = m * up e in
    let N = n * up g in
    let n+ = low-pos n (up g) b d (down g) B (down_pos g) k in
    subst (λ (z : Float). High z 1 1) (sym (picked n (cond (eqb m 0) nan (inf false)) (round binary32 false (M * down g) (N * down e)) n+))
    (high-round (M * down g) (N * down e) 1 1 (mul-pos (mul-pos n+ (up_pos g)) (down_pos e)) (lit< tt)
    (le_trans (le_of_eq (mul-one (M * down g))) (le_trans (le→cross m e n g l) (le_of_eq (sym (one-mul (N * down e)))))) one-exact)

-- ---- a rounded value, rounded again
kept-le : (n den : ℕ) → kept 24 n den ≤ 2 ^ 24
kept-le n den =
    let k = drop 24 n den in
    let u = den * 2 ^ k in
    le_trans (nearest-le (n / u) (compare (n % u * 2) u)) (subst (λ (x : ℕ). x < 2 ^ 24) (div-div-eq-div-mul n den (2 ^ k)) (kept-lt 24 (n / den)))

pub grid-exact : (a c : ℕ) → grid binary32 a c < overflow binary32 → Exact (grid binary32 a c) (2 ^ 149)
grid-exact a c h =
    let q = kept 24 (a * 2 ^ 149) c in
    let j = drop 24 (a * 2 ^ 149) c in
    round-exact-le binary32 false (grid binary32 a c) (2 ^ 149) q j (pow_pos 149) (kept-le (a * 2 ^ 149) c) h refl

low-of-value : (x : Float) (a c : ℕ) → HasValue x false a c → Low x a c
low-of-value nan a c v = v
low-of-value (inf s) a c v = v
low-of-value (fin true m e) a c v = absurd (true≢false v.0)
low-of-value (fin false m e) a c v = le_of_eq (sym v.1)

le-of-low : (x y : Float) (a c : ℕ) → 0 < c → HasValue x false a c → Low y a c → T (le x y)
le-of-low nan y a c C v k = absurd v
le-of-low (inf s) y a c C v k = absurd v
le-of-low (fin true m e) y a c C v k = absurd (true≢false v.0)
le-of-low (fin false m e) nan a c C v k = absurd k
le-of-low (fin false m e) (inf s) a c C v k = absurd k
le-of-low (fin false m e) (fin true n g) a c C v k = absurd k
le-of-low (fin false m e) (fin false n g) a c C v k =
    cross→le m e n g (le_of_mul-le-mul_right
    (le_trans (le_of_eq (mul_right_comm (m * up e) (down g) c ∙ ap (λ (z : ℕ). z * down g) v.1 ∙ mul_right_comm a (down e) (down g)))
    (le_trans (mul-le-mul_right (down e) k) (le_of_eq (mul_right_comm (n * up g) c (down e))))) C)

-- a rounded x is at most the rounded x + y
pub le-add : (P C : ℕ) (y : Float) (b d p q : ℕ) → (round binary32 false P C ≡ inf false → ⊥) → High y b d → High (add binary32 (round binary32 false P C) y) p q
    → T (le (round binary32 false P C) (add binary32 (round binary32 false P C) y))
le-add P C y b d p q n k w = elim (round-either P C) [
  | inl e ↦ absurd (n e)
  | inr l ↦
      let x = round binary32 false P C in
      let G = grid binary32 P C in
      let v : HasValue x false G (2 ^ 149) = round_val binary32 P C l in
      le-of-low x (add binary32 x y) G (2 ^ 149) (pow_pos 149) v (add_low x y G (2 ^ 149) b d p q (pow_pos 149) (low-of-value x G (2 ^ 149) v) k (grid-exact P C l) w)
]

pub high-not-inf : (x : Float) (a c : ℕ) → High x a c → x ≡ inf false → ⊥
high-not-inf x a c h e = subst (λ (z : Float). High z a c) e h

pub high-within : (N : ℕ) (x : Float) → High x N 1 → T (within N x)
high-within N nan h = h
high-within N (inf s) h = h
high-within N (fin true m e) h = h
high-within N (fin false m e) h = le→leb (m * up e) (N * down e) (le_trans (le_of_eq (sym (mul-one (m * up e)))) h)

pub within-high : (N : ℕ) (x : Float) → T (within N x) → High x N 1
within-high N nan h = h
within-high N (inf s) h = h
within-high N (fin true m e) h = h
within-high N (fin false m e) h = le_trans (le_of_eq (mul-one (m * up e))) (leb→le (m * up e) (N * down e) h)

pub within_more : (N N' : ℕ) (x : Float) → N ≤ N' → T (within N x) → T (within N' x)
within_more N N' nan h w = w
within_more N N' (inf s) h w = w
within_more N N' (fin true m e) h w = w
within_more N N' (fin false m e) h w = le→leb (m * up e) (N' * down e) (le_trans (leb→le (m * up e) (N * down e) w) (mul-le-mul_right (down e) h))

-- ---- by a value
pub within-value : (N : ℕ) (x : Float) (a c : ℕ) → HasValue x false a c → T (within N x) → a ≤ N * c
within-value N nan a c v w = absurd v
within-value N (inf s) a c v w = absurd v
within-value N (fin true m e) a c v w = absurd w
within-value N (fin false m e) a c v w =
    le_of_mul-le-mul_right
    (le_trans (le_of_eq (sym v.1)) (le_trans (mul-le-mul_right c (leb→le (m * up e) (N * down e) w)) (le_of_eq (mul_right_comm N (down e) c))))
    (down_pos e)

pub value-within : (N : ℕ) (x : Float) (a c : ℕ) → 0 < c → HasValue x false a c → a ≤ N * c → T (within N x)
value-within N nan a c C v h = v
value-within N (inf s) a c C v h = v
value-within N (fin true m e) a c C v h = absurd (true≢false v.0)
value-within N (fin false m e) a c C v h =
    le→leb (m * up e) (N * down e) (le_of_mul-le-mul_right (le_trans (le_of_eq v.1) (le_trans (mul-le-mul_right (down e) h) (le_of_eq (mul_right_comm N c (down e))))) C)
