-- Thresholds of stepped runs.
use Rattle.std.specs.Prelude.{Bool, true, false, ◌&&◌, ◌*◌, ◌%◌, leb, eqb, Float}
use Rattle.std.specs.Float.{nan, inf, fin}
use Rattle.std.specs.Float.Ieee.{up, down}

-- 01's table, row 11, on stepped runs: multiples of 1/1024, none below -1 or above 16,000
abbrev pub threshold_ok : Float → Bool
threshold_ok nan = false
threshold_ok (inf s) = false
threshold_ok (fin false m e) = leb (m * up e) (16000 * down e) && eqb (m * up e * 1024 % down e) 0
threshold_ok (fin true m e) = leb (m * up e) (1 * down e) && eqb (m * up e * 1024 % down e) 0
