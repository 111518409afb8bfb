-- 01's table, row 11: which rules a run may go by.
use Rattle.std.specs.Prelude.{Bool, true, false, ◌&&◌, not, List, [], ◌∷◌, leb, Float}
use Rattle.std.specs.Float.{nan, inf, fin}
use Rattle.std.specs.Float.Ieee.{lt}
use Rattle.floats.specs.Threshold.{threshold_ok}
use Rattle.bm25.specs.declared.Scoring.{Scoring}
use Rattle.bm25.specs.declared.Scoring.TheVariants.{Unstepped, Stepped}
use Rattle.rule.specs.declared.Rule.{Rule}
use Rattle.rule.specs.declared.Rule.TheVariants.{Script, BestK}

abbrev pub is_finite : Float → Bool
is_finite nan = false
is_finite (inf s) = false
is_finite (fin s m e) = true

-- a threshold is finite, and in stepped runs on the grid and in its range
abbrev pub threshold_right : Scoring → Float → Bool
threshold_right Unstepped x = is_finite x
threshold_right Stepped x = threshold_ok x

-- every entry of a script is a threshold, used or not, and none is below the one before it, the first not below the start
abbrev pub script_right : Scoring → Float → List Float → Bool
script_right s last [] = true
script_right s last (x ∷ xs) = threshold_right s x && (not (lt x last) && script_right s x xs)

-- k is from 1 to 64; best k does not look at a script
abbrev pub rule_right : Rule → Scoring → List Float → Bool
rule_right (Script start) s script = threshold_right s start && script_right s start script
rule_right (BestK start k) s script = threshold_right s start && (leb 1 k && leb k 64)
