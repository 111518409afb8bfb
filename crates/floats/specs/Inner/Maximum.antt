-- The larger of two floats as the code takes it, and what IEEE 754-2019 says of it (9.6; the 2008 edition's maxNum is gone).
use Rattle.std.specs.Prelude.{Bool, false, ◌||◌, cond, Float}
use Rattle.std.specs.Float.{nan, inf, fin}
use Rattle.std.specs.Float.Ieee.{is_nan, lt}

-- by comparison: y where it is above x, else x
unfoldable pub larger : Float → Float → Float
larger x y = cond (lt x y) y x

-- the sign bit
abbrev pub sign_of : Float → Bool
sign_of nan = false
sign_of (inf s) = s
sign_of (fin s m e) = s

-- of two numbers the larger, where -0 is below +0
unfoldable pub larger_number : Float → Float → Float
larger_number x y = cond (lt x y) y (cond (lt y x) x (cond (sign_of x) y x))

-- maximum: a NaN where either is one
unfoldable pub maximum : Float → Float → Float
unfolding larger_number
maximum x y = cond (is_nan x || is_nan y) nan (larger_number x y)

-- maximum_number: a number where either is one; the Rust's f32::max, but for the sign of a zero
unfoldable pub maximum_number : Float → Float → Float
unfolding larger_number
maximum_number x y = cond (is_nan x) y (cond (is_nan y) x (larger_number x y))
