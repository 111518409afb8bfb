-- Codes of the frequencies about 254, the scores that they stand for, and the highest of four scores, of which two are equal.
use mathlib.Core.Path.{◌≡◌, refl}
use mathlib.Core.Bool.{true, false}
use mathlib.Core.List.{[], ◌∷◌}
use Prim.Native.Nat.{ℕ}
use lib.ListN.{get_or}
use lib.Ieee.{Float, nan, round, add, sub, mul, div, of_int, lt}
use Rattle.floats.specs.Step.{grid_f}
use Rattle.floats.specs.Whole.{f32_of}
use Rattle.bm25.specs.Bound.{max_tf}
use Rattle.bm25.specs.Score.{score_of}
use Rattle.bm25_pair.specs.Pair.{freq_code, highest}

pub codes : (freq_code 1 ≡ 1) × (freq_code 254 ≡ 254) × (freq_code 255 ≡ 255) × (freq_code 2013265944 ≡ 255)
codes = (refl, refl, refl, refl)

-- at norm code 1, average 8 and weight 1,000, as in 01's small file: frequency 300 scores above 254, and not above its code's bound
abbrev small_score : ℕ → Float
small_score freq = score_of (f32_of 1000 1) (f32_of 8 1) 1 freq

pub above-254 : (lt (small_score 254) (small_score 300) ≡ true) × (lt (small_score (max_tf (freq_code 300))) (small_score 300) ≡ false)
unfolding score_of add mul div sub of_int round lt
above-254 = (refl, refl)

abbrev four : ℕ → Float
four i = get_or (grid_f 5 ∷ grid_f 7 ∷ grid_f 7 ∷ grid_f 6 ∷ []) i nan

pub second-of-four : highest four 4 ≡ 1
unfolding highest grid_f round lt
second-of-four = refl
