-- Tests as Booleans: when two of them are one, and what a chain of them says.
use mathlib.Core.Path.{◌≡◌, refl}
use mathlib.Core.Bool.{Bool, true, false, not, ◌&&◌, ◌||◌, true≢false, false≢true}
use Prim.Native.Nat.{ℕ, ◌<◌}
use lib.Dec.{T, ltb, eqb, ltb→lt, lt→ltb, eqb→eq}
use lib.Ieee.Fits.{eq→eqb}

pub and-true : (a : Bool) → (a && true) ≡ a
and-true true = refl
and-true false = refl

pub left-true : (a b : Bool) → T a → b ≡ (a && b)
left-true true b t = refl
left-true false b t = absurd t

pub or_left : (a b : Bool) → T a → T (a || b)
or_left true b t = tt
or_left false b t = absurd t

pub or_right : (a b : Bool) → T b → T (a || b)
or_right true b t = tt
or_right false b t = t

pub is_true : (b : Bool) → b ≡ true → T b
is_true true e = tt
is_true false e = false≢true e

pub is_false : (b : Bool) → b ≡ false → T (not b)
is_false true e = true≢false e
is_false false e = tt

pub same_test : (a b : Bool) → (T a → T b) → (T b → T a) → a ≡ b
same_test true true p q = refl
same_test true false p q = absurd (p tt)
same_test false true p q = absurd (q tt)
same_test false false p q = refl

pub same-ltb : (p q r s : ℕ) → (p < q → r < s) → (r < s → p < q) → ltb p q ≡ ltb r s
same-ltb p q r s f g = same_test (ltb p q) (ltb r s) (λ t. lt→ltb r s (f (ltb→lt p q t))) (λ t. lt→ltb p q (g (ltb→lt r s t)))

pub same-eqb : (p q r s : ℕ) → (p ≡ q → r ≡ s) → (r ≡ s → p ≡ q) → eqb p q ≡ eqb r s
same-eqb p q r s f g = same_test (eqb p q) (eqb r s) (λ t. eq→eqb (f (eqb→eq p q t))) (λ t. eq→eqb (g (eqb→eq r s t)))
