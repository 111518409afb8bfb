-- Worked figures of 01: the scores of its small file (norm code 1, average 8, weights 1,000 and 500), case (j), and the frequency of case (i), whose score
-- is above the list bound.
use mathlib.Core.Path.{◌≡◌, refl}
use mathlib.Core.Bool.{true, false}
use Prim.Native.Nat.{ℕ}
use lib.Ieee.{Float, add, mul, div, sub, round, of_int, binary32, lt}
use Rattle.floats.specs.Whole.{f32_of}
use Rattle.floats.specs.Step.{grid_f, step_down}
use Rattle.bm25.specs.Score.{score_of}
use Rattle.bm25.specs.Bound.{max_tf}

-- the small file's score of a frequency, in a list of this weight
abbrev small_score : ℕ → ℕ → Float
small_score weight freq = score_of (f32_of weight 1) (f32_of 8 1) 1 freq

-- document 0 has frequency 1 in the list of 500, document 1 frequency 1 in the list of 1,000, and document 3 is in both, with 3 and 1
pub document-0 : step_down (small_score 500 1) ≡ grid_f 362477
unfolding score_of add mul div sub of_int step_down round
document-0 = refl

pub document-1 : step_down (small_score 1000 1) ≡ grid_f 724955
unfolding score_of add mul div sub of_int step_down round
document-1 = refl

pub document-3 : add binary32 (step_down (small_score 1000 3)) (step_down (small_score 500 1)) ≡ grid_f 1262696
unfolding score_of add mul div sub of_int step_down round
document-3 = refl

-- 01, (j): the two highest codes
pub case-j : (max_tf 254 ≡ 254) × (max_tf 255 ≡ 4294967295)
case-j = (refl, refl)

-- the list bound covers frequency 3, and not the 4 of case (i)
pub case-i : (lt (score_of (f32_of 1000 1) (f32_of 8 1) 255 2013265944) (small_score 1000 3) ≡ false)
    × (lt (score_of (f32_of 1000 1) (f32_of 8 1) 255 2013265944) (small_score 1000 4) ≡ true)
unfolding score_of add mul div sub of_int round lt
case-i = (refl, refl)
