-- A float that equals itself is a number, and its bits give it back; one that does not is a NaN.
use mathlib.Core.Path.{◌≡◌, sym, ap, ◌∙◌, subst}
use mathlib.Core.Bool.{Bool, true, false, not}
use lib.Dec.{T}
use lib.Ieee.{Float, nan, inf, fin, binary32, fits, eq, ne, is_nan, of_bits, to_bits}
use lib.Ieee.Bits.{of_bits-to_bits}
use lib.Ieee.Compare.{differs_from_itself}

pub is_number : (x : Float) → eq x x ≡ true → T (not (is_nan x))
unfolding eq is_nan
is_number nan e = subst T (sym e) tt
is_number (inf s) e = tt
is_number (fin s m d) e = tt

-- a test on the bits is the test on the number
pub by_bits : (P : Float → Bool) (x : Float) {r : Bool} → fits binary32 x ≡ true → r ≡ P (of_bits binary32 (to_bits binary32 x)) → r ≡ P x
by_bits P x f e = e ∙ ap P (of_bits-to_bits binary32 x (subst T (sym f) tt))

-- no test that a NaN fails lets one through
pub no_number : (P : Float → Bool) (x : Float) → P nan ≡ false → eq x x ≡ false → false ≡ P x
unfolding ne
no_number P x n e = sym (ap P (differs_from_itself x (subst (λ (b : Bool). T (not b)) (sym e) tt)) ∙ n)
