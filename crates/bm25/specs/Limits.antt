-- What the table asks of the floats of a note file.
use Rattle.std.specs.Prelude.{Bool, ◌&&◌, Float}
use Rattle.std.specs.Float.Ieee.{le}
use Rattle.floats.specs.Whole.{f32_of}
use Rattle.floats.specs.Step.{within}

-- 01's table, row 2: an average is at least 0.0625 and at most 2,147,483,648
unfoldable pub average_ok : Float → Bool
average_ok x = le (f32_of 1 16) x && le x (f32_of 2147483648 1)

-- 01's table, row 4: a weight is a number with a clear sign bit, at most 1,000
abbrev pub weight_ok : Float → Bool
weight_ok x = within 1000 x
