-- Shortest VInts: seven bits a byte, low first, until the rest fits the last byte, which has its high bit set.
use Rattle.std.specs.Prelude.{List, [], ◌∷◌, ◌++◌, cond, ℕ, zero, suc, ◌+◌, ◌/◌, ◌%◌, ltb}

-- in at most n bytes
unfoldable pub short_from : ℕ → ℕ → List ℕ
short_from zero v = []
short_from (suc n) v = cond (ltb v 128) ((v + 128) ∷ []) ((v % 128) ∷ short_from n (v / 128))

-- 32 bits fit five bytes
unfoldable pub short_vint : ℕ → List ℕ
unfolding short_from
short_vint v = short_from 5 v

-- those of n numbers, one after another, as a tail has them
unfoldable pub vint_row : ℕ → (ℕ → ℕ) → List ℕ
unfolding short_vint
vint_row zero v = []
vint_row (suc n) v = vint_row n v ++ short_vint (v n)
