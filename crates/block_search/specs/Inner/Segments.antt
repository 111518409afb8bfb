-- The values that a search takes, and the segments that it looks at.
use Rattle.std.specs.Prelude.{List, ℕ, zero, suc, ◌+◌, ◌-◌, ◌*◌, ◌≤◌, ◌<◌, ltb, get_or}
use Rattle.block_search.specs.Search.{one_if}

-- the values of a block never fall
abbrev pub Sorted : List ℕ → Type 0
Sorted values = (i : ℕ) → i + 1 < 128 → get_or values i 0 ≤ get_or values (i + 1) 0

-- how many of the first k segments of `step` values from base on end below the target
unfoldable pub ends_below : ℕ → List ℕ → ℕ → ℕ → ℕ → ℕ
ends_below zero values base step target = 0
ends_below (suc k) values base step target =
    ends_below k values base step target + one_if (ltb (get_or values (base + (k + 1) * step - 1) 0) target)
