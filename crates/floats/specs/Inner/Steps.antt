-- Values on the grid of 1/1024 as whole numbers: what the laws of sums, differences and thresholds are about.
use Rattle.std.specs.Prelude.{◌≡◌, true, false, ℕ, ◌+◌, ◌*◌, ◌/◌, ◌-◌, Float}
use Rattle.std.specs.Float.{nan, inf, fin}
use Rattle.std.specs.Float.Ieee.{up, down}

-- x is (a - b) / 1024, of either sign: sums and differences of such values are those of whole numbers
abbrev pub Steps : Float → ℕ → ℕ → Type 0
Steps nan a b = ⊥
Steps (inf s) a b = ⊥
Steps (fin false m e) a b = m * up e * 1024 + b * down e ≡ a * down e
Steps (fin true m e) a b = m * up e * 1024 + a * down e ≡ b * down e

-- 1024 * (x + 1) of such a threshold: from 0 to 16,385,024, so that thresholds are ordered as whole numbers
abbrev pub level : Float → ℕ
level nan = 0
level (inf s) = 0
level (fin false m e) = 1024 + m * up e * 1024 / down e
level (fin true m e) = 1024 - m * up e * 1024 / down e
