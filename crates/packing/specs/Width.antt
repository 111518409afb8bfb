-- Least widths: the least that holds a block's values.
use Rattle.std.specs.Prelude.{List, Bool, cond, ℕ, zero, suc, ◌^◌, ltb, get_or}
use Rattle.arrays.specs.Every.{every}

-- whether w bits hold each of the first n values
unfoldable pub holds : ℕ → List ℕ → ℕ → Bool
holds n vs w = every n (λ i. ltb (get_or vs i 0) (2 ^ w))

-- the first of w, w + 1, .. that P holds of, when n are tried, or w + n
unfoldable pub first_from : ℕ → ℕ → (ℕ → Bool) → ℕ
first_from zero w P = w
first_from (suc n) w P = cond (P w) w (first_from n (suc w) P)

-- the least width of 128 values of at most 32 bits
unfoldable pub least_width : List ℕ → ℕ
unfolding holds first_from
least_width vs = first_from 32 0 (holds 128 vs)
