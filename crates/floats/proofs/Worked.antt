-- Worked figures: 01's case (l), ties at the edge of 24 digits, and the step of a value between two multiples of 1/1024.
use mathlib.Core.Path.{◌≡◌, refl}
use mathlib.Core.Bool.{false}
use lib.Ieee.{round, of_int}
use lib.Ieee.Exact.{HasValue}
use Rattle.floats.specs.Whole.{whole_f32, f32_of}
use Rattle.floats.specs.Step.{grid_f, step_down}

-- 01, (l): ties at 16,777,217 and 16,777,219 go to the even one
pub case-l : HasValue (whole_f32 16777217) false 16777216 1 × HasValue (whole_f32 16777219) false 16777220 1
unfolding of_int round
case-l = ((refl, refl), (refl, refl))

pub largest-u32 : HasValue (whole_f32 4294967295) false 4294967296 1
unfolding of_int round
largest-u32 = (refl, refl)

-- 0.7 is between 716/1024 and 717/1024, 1000 and 8192.5 are multiples
pub steps-down : (step_down (f32_of 7 10) ≡ grid_f 716) × ((step_down (f32_of 1000 1) ≡ f32_of 1000 1) × (step_down (f32_of 16385 2) ≡ f32_of 16385 2))
unfolding step_down round
steps-down = (refl, (refl, refl))
