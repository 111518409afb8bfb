-- Values of clear sign, finite or infinite: none is a NaN, their sums are such values too, and comparisons order them.
use mathlib.Core.Path.{◌≡◌, refl, sym, subst}
use mathlib.Core.Bool.{Bool, true, false, true≢false, cond}
use Prim.Native.Nat.{ℕ, zero, suc, ◌+◌, ◌*◌, ◌^◌}
use native.Mathlib.Nat.{le_of_lt}
use lib.Dec.{T, ltb}
use lib.Ieee.{Float, nan, inf, fin, binary32, is_nan, lt, up, down, odd, units, round, sum, add}
use lib.Ieee.Fits.{down_pos, round_is}
use lib.Ieee.Positive.{through}
use borrow.Author.Tests.{le-ltb, ltb-false, ltb-true}
use Rattle.floats.specs.Step.{within}
use Rattle.floats.specs.Inner.Sign.{clear}

pub clear-number : (x : Float) → T (clear x) → is_nan x ≡ false
unfolding is_nan
clear-number nan t = absurd t
clear-number (inf s) t = refl
clear-number (fin s m e) t = refl

pub within-clear : (N : ℕ) (x : Float) → T (within N x) → T (clear x)
within-clear N nan w = absurd w
within-clear N (inf s) w = absurd w
within-clear N (fin true m e) w = absurd w
within-clear N (fin false m e) w = tt

odd-clear : (d q k l : ℕ) → T (clear (odd d false q k l))
unfolding odd
odd-clear d zero k l = tt
odd-clear d (suc q) k l = tt

units-clear : (q k : ℕ) → T (clear (units binary32 false q k))
unfolding units
units-clear q k = go (ltb (q * 2 ^ k) (2 ^ 277))
  where
    go : (b : Bool) → T (clear (cond b (odd 25 false q k 149) (inf false)))
    go true = odd-clear 25 q k 149
    go false = tt

round-clear : (a c : ℕ) → T (clear (round binary32 false a c))
round-clear a c = subst (λ (x : Float). T (clear x)) (sym (round_is binary32 false a c)) (units-clear _ _)

-- infinities of clear sign do not cancel
pub add-clear : (x y : Float) → T (clear x) → T (clear y) → T (clear (add binary32 x y))
unfolding add sum
add-clear nan y p q = absurd p
add-clear (inf true) y p q = absurd p
add-clear (inf false) nan p q = absurd q
add-clear (inf false) (inf true) p q = absurd q
add-clear (inf false) (inf false) p q = tt
add-clear (inf false) (fin t n d) p q = tt
add-clear (fin s m e) nan p q = absurd q
add-clear (fin s m e) (inf t) p q = q
add-clear (fin true m e) (fin t n d) p q = absurd p
add-clear (fin false m e) (fin true n d) p q = absurd q
add-clear (fin false m e) (fin false n d) p q = round-clear (m * up e * down d + n * up d * down e) (down e * down d)

-- of two values one at most lies below the other
pub clear-asym : (x y : Float) → T (clear x) → T (clear y) → lt x y ≡ true → lt y x ≡ false
unfolding lt
clear-asym nan y p q h = absurd p
clear-asym (inf true) y p q h = absurd p
clear-asym (inf false) nan p q h = absurd q
clear-asym (inf false) (inf t) p q h = absurd (true≢false (sym h))
clear-asym (inf false) (fin t n d) p q h = absurd (true≢false (sym h))
clear-asym (fin s m e) nan p q h = absurd q
clear-asym (fin s m e) (inf true) p q h = absurd q
clear-asym (fin s m e) (inf false) p q h = refl
clear-asym (fin true m e) (fin t n d) p q h = absurd p
clear-asym (fin false m e) (fin true n d) p q h = absurd q
clear-asym (fin false m e) (fin false n d) p q h =
    le-ltb (n * up d * down e) (m * up e * down d) (le_of_lt (ltb-true (m * up e * down d) (n * up d * down e) h))

-- where x is not below y, and y not below z, x is not below z
pub clear-across : (x y z : Float) → T (clear x) → T (clear y) → T (clear z) → lt x y ≡ false → lt y z ≡ false → lt x z ≡ false
unfolding lt
clear-across nan y z p q r h k = absurd p
clear-across (inf true) y z p q r h k = absurd p
clear-across (inf false) y nan p q r h k = refl
clear-across (inf false) y (inf t) p q r h k = refl
clear-across (inf false) y (fin t n d) p q r h k = refl
clear-across (fin s m e) nan z p q r h k = absurd q
clear-across (fin s m e) (inf true) z p q r h k = absurd q
clear-across (fin s m e) (inf false) z p q r h k = absurd (true≢false h)
clear-across (fin s m e) (fin t n d) nan p q r h k = absurd r
clear-across (fin s m e) (fin t n d) (inf true) p q r h k = absurd r
clear-across (fin s m e) (fin t n d) (inf false) p q r h k = absurd (true≢false k)
clear-across (fin true m e) (fin t n d) (fin u o f) p q r h k = absurd p
clear-across (fin false m e) (fin true n d) (fin u o f) p q r h k = absurd q
clear-across (fin false m e) (fin false n d) (fin true o f) p q r h k = absurd r
clear-across (fin false m e) (fin false n d) (fin false o f) p q r h k =
    le-ltb (m * up e * down f) (o * up f * down e)
    (through (o * up f) (n * up d) (m * up e) (down f) (down d) (down e) (down_pos d)
    (ltb-false (n * up d * down f) (o * up f * down d) k) (ltb-false (m * up e * down d) (n * up d * down e) h))
