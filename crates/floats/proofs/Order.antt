-- The order of finite values of clear sign, as an order of fractions.
use mathlib.Core.Path.{◌≡◌, refl, subst}
use mathlib.Core.Logic.{inl, inr}
use mathlib.Core.Bool.{true, false, ◌&&◌}
use Prim.Native.Nat.{ℕ, ◌*◌, ◌≤◌, ◌<◌}
use native.Mathlib.Nat.{le_of_eq, le_of_lt, le_trans, lt_of_le_of_lt, mul_right_comm, mul-le-mul_right, mul-lt-mul_of_pos_right, lt_of_mul-lt-mul_right}
use lib.IntN.{ℤ}
use lib.Dec.{T, ltb, eqb, ltb→lt, eqb→eq}
use lib.Ieee.{Float, nan, inf, fin, up, down, lt, le}
use lib.Ieee.Fits.{down_pos, and_l}
use lib.Ieee.Order.{le_of_values}
use borrow.Author.Tests.{ltb-true, ltb-false, lt-ltb}
use mir.Facts.{or_yes}
use Rattle.floats.specs.Step.{within}

pub le→cross : (m : ℕ) (e : ℤ) (n : ℕ) (d : ℤ) → T (le (fin false m e) (fin false n d)) → m * up e * down d ≤ n * up d * down e
unfolding le
le→cross m e n d t =
    let a = m * up e * down d in
    let b = n * up d * down e in
    elim (or_yes (ltb a b) (eqb a b && true) t) [ inl u ↦ le_of_lt (ltb→lt a b u) | inr u ↦ le_of_eq (eqb→eq a b (and_l (eqb a b) true u)) ]

pub cross→le : (m : ℕ) (e : ℤ) (n : ℕ) (d : ℤ) → m * up e * down d ≤ n * up d * down e → T (le (fin false m e) (fin false n d))
cross→le m e n d h = le_of_values (fin false m e) (fin false n d) (m * up e) (down e) (n * up d) (down d) (down_pos e) (down_pos d) (refl, refl) (refl, refl) h

-- of two finite values of clear sign, the one that is not above is at most the other
pub not-above : (N : ℕ) (x y : Float) → T (within N x) → T (within N y) → lt y x ≡ false → T (le x y)
unfolding lt
not-above N nan y p q h = absurd p
not-above N (inf s) y p q h = absurd p
not-above N (fin true m e) y p q h = absurd p
not-above N (fin false m e) nan p q h = absurd q
not-above N (fin false m e) (inf s) p q h = absurd q
not-above N (fin false m e) (fin true n d) p q h = absurd q
not-above N (fin false m e) (fin false n d) p q h = cross→le m e n d (ltb-false (n * up d * down e) (m * up e * down d) h)

pub below-le : (x y : Float) → lt x y ≡ true → T (le x y)
unfolding le
below-le x y h = rw h tt

-- x / a at most y / b, and that below s / c
through : (x a y b s c : ℕ) → 0 < a → x * b ≤ y * a → y * c < s * b → x * c < s * a
through x a y b s c A h l =
    lt_of_mul-lt-mul_right b
    (lt_of_le_of_lt (le_trans (le_of_eq (mul_right_comm x c b)) (le_trans (mul-le-mul_right c h) (le_of_eq (mul_right_comm y a c))))
    (subst (λ (z : ℕ). y * c * a < z) (mul_right_comm s b a) (mul-lt-mul_of_pos_right l A)))

-- of two finite values of clear sign, the one that is at most the other lies below all that the other lies below
pub lower-below : (N : ℕ) (x y s : Float) → T (within N x) → T (within N y) → T (le x y) → lt y s ≡ true → lt x s ≡ true
unfolding lt
lower-below N nan y s p q h l = absurd p
lower-below N (inf t) y s p q h l = absurd p
lower-below N (fin true m e) y s p q h l = absurd p
lower-below N (fin false m e) nan s p q h l = absurd q
lower-below N (fin false m e) (inf t) s p q h l = absurd q
lower-below N (fin false m e) (fin true n d) s p q h l = absurd q
lower-below N (fin false m e) (fin false n d) nan p q h l = l
lower-below N (fin false m e) (fin false n d) (inf t) p q h l = l
lower-below N (fin false m e) (fin false n d) (fin true k g) p q h l = l
lower-below N (fin false m e) (fin false n d) (fin false k g) p q h l =
    lt-ltb (m * up e * down g) (k * up g * down e)
    (through (m * up e) (down e) (n * up d) (down d) (k * up g) (down g) (down_pos e) (le→cross m e n d h) (ltb-true (n * up d * down g) (k * up g * down d) l))
