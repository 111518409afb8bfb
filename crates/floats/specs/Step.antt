-- The step of stepped scoring (01, Scores; the term is the paper's): a value is cut down to a multiple of 1/1024, counted in naturals.
use Rattle.std.specs.Prelude.{Bool, true, false, ℕ, ◌*◌, ◌/◌, leb, Float}
use Rattle.std.specs.Float.{nan, inf, fin}
use Rattle.std.specs.Float.Ieee.{up, down}
use Rattle.floats.specs.Whole.{f32_of}

-- x is finite, its sign bit is clear, and it is at most n
abbrev pub within : ℕ → Float → Bool
within n nan = false
within n (inf s) = false
within n (fin true m e) = false
within n (fin false m e) = leb (m * up e) (n * down e)

-- n / 1024 as an f32
unfoldable pub grid_f : ℕ → Float
grid_f n = f32_of n 1024

-- the whole part of 1024 * x, for a finite x of clear sign
abbrev pub steps : Float → ℕ
steps nan = 0
steps (inf s) = 0
steps (fin true m e) = 0
steps (fin false m e) = m * up e * 1024 / down e

-- The largest multiple of 1/1024 that is not above x. A score is finite and of clear sign; of other values a NaN and what
-- lies below 0 step to 0, and infinity stays.
unfoldable pub step_down : Float → Float
unfolding grid_f
step_down nan = grid_f 0
step_down (inf true) = grid_f 0
step_down (inf false) = inf false
step_down (fin s m e) = grid_f (steps (fin s m e))
