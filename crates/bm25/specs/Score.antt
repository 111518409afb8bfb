-- BM25 in the form of Robertson and Zaragoza, with a ready weight: each operation on f32 is rounded once (IEEE 754-2019, 5.4.1).
use Rattle.std.specs.Prelude.{ℕ, Float}
use Rattle.std.specs.Float.{binary32}
use Rattle.std.specs.Float.Ieee.{add, sub, mul, div}
use Rattle.floats.specs.Whole.{whole_f32, f32_of}
use Rattle.fieldnorm.specs.Code.{fieldnorm}

-- 01, Scores, the constants: 1.2 and 0.75 as f32
unfoldable pub K1 : Float
K1 = f32_of 12 10

unfoldable pub B : Float
B = f32_of 75 100

unfoldable pub one : Float
one = f32_of 1 1

-- 01, Scores, the norm: K1 × ((1 - B) + (B × length) / average)
unfoldable pub norm_of : ℕ → Float → Float
unfolding K1 B one
norm_of length average = mul binary32 K1 (add binary32 (sub binary32 one B) (div binary32 (mul binary32 B (whole_f32 length)) average))

-- 01, Scores, the score of frequency f: weight × (f / (f + norm))
unfoldable pub score_at : Float → Float → ℕ → Float
score_at weight norm freq = mul binary32 weight (div binary32 (whole_f32 freq) (add binary32 (whole_f32 freq) norm))

-- the score of a document with this norm code, in a list of this weight, at this average
unfoldable pub score_of : Float → Float → ℕ → ℕ → Float
unfolding score_at norm_of fieldnorm
score_of weight average code freq = score_at weight (norm_of (fieldnorm code) average) freq
