-- Where neither is a NaN and both signs are clear, as of every score, IEEE's two maximums are the comparison's.
use mathlib.Core.Path.{◌≡◌, refl}
use mathlib.Core.Bool.{Bool, true, false, cond}
use Prim.Native.Nat.{ℕ}
use lib.Dec.{T}
use lib.Ieee.{Float, nan, inf, fin, is_nan, lt}
use Rattle.floats.specs.Step.{within}
use Rattle.floats.specs.Inner.Maximum.{larger, maximum, maximum_number}

-- two tests that pick x or y, when x's sign is clear
picked : (a b : Bool) (x y : Float) → cond a y (cond b x (cond false y x)) ≡ cond a y x
picked true b x y = refl
picked false true x y = refl
picked false false x y = refl

pub maximums-agree : (N : ℕ) (x y : Float) → T (within N x) → T (within N y) → (maximum x y ≡ larger x y) × (maximum_number x y ≡ larger x y)
unfolding maximum maximum_number larger is_nan
maximums-agree N nan y p q = absurd p
maximums-agree N (inf s) y p q = absurd p
maximums-agree N (fin true m e) y p q = absurd p
maximums-agree N (fin false m e) nan p q = absurd q
maximums-agree N (fin false m e) (inf s) p q = absurd q
maximums-agree N (fin false m e) (fin true n d) p q = absurd q
maximums-agree N (fin false m e) (fin false n d) p q =
    let x = fin false m e in
    let y = fin false n d in
    (picked (lt x y) (lt y x) x y, picked (lt x y) (lt y x) x y)

-- the larger of two scores is a score
pub larger-within : (N : ℕ) (x y : Float) → T (within N x) → T (within N y) → T (within N (larger x y))
unfolding larger
larger-within N x y p q = go (lt x y)
  where
    go : (b : Bool) → T (within N (cond b y x))
    go true = q
    go false = p
