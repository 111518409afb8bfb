-- The pair of a full block (02, order 1): "A block's pair is that of its highest unstepped score, the lowest document among
-- equals, with frequencies above 254 coded 255."
use Rattle.std.specs.Prelude.{cond, ℕ, zero, suc, leb, Float}
use Rattle.std.specs.Float.Ieee.{lt}

-- a frequency's code: itself up to 254, and 255 above
abbrev pub freq_code : ℕ → ℕ
freq_code f = cond (leb f 254) f 255

-- the place of the highest of the first n scores, the first among equals
unfoldable pub highest : (ℕ → Float) → ℕ → ℕ
highest s zero = 0
highest s (suc n) = let m = highest s n in cond (lt (s m) (s n)) n m
