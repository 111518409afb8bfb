-- The bounds of a list and of a full block (01, Pivots, windows and block bounds).
use Rattle.std.specs.Prelude.{Bool, cond, not, ℕ, eqb, Float}
use Rattle.std.specs.Float.Ieee.{lt}
use Rattle.arrays.specs.Every.{every}
use Rattle.bm25.specs.Score.{score_of}

-- on `skip.rs`: code 255 stands for the largest u32, any lower code for itself
abbrev pub max_tf : ℕ → ℕ
max_tf code = cond (eqb code 255) 4294967295 code

-- on `bm25.rs`: a list's bound is the score of code 255 and frequency 2,013,265,944
abbrev pub max_score : Float → Float → Float
max_score weight average = score_of weight average 255 2013265944

-- 01's table, row 9: whether a bound lies below none of n scores
abbrev pub all_covered : Float → ℕ → (ℕ → Float) → Bool
all_covered bound n score = every n (λ i. not (lt bound (score i)))
