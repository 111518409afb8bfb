-- Whole numbers and fractions as f32, each rounded once.
use Rattle.std.specs.Prelude.{false, ℕ, pos, Float}
use Rattle.std.specs.Float.{binary32}
use Rattle.std.specs.Float.Ieee.{of_int, round}

-- 01, Scores, on whole numbers: the nearest f32, a tie to the even one (IEEE 754-2019, 5.4.1, convertFromInt)
abbrev pub whole_f32 : ℕ → Float
whole_f32 n = of_int binary32 (pos n)

-- the f32 nearest to n / d, a tie to the even one: what a decimal literal of the paper means (IEEE 754-2019, 5.12.2)
abbrev pub f32_of : ℕ → ℕ → Float
f32_of n d = round binary32 false n d
