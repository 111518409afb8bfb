-- Worked examples of the definitions.
use Rattle.std.specs.Prelude.{Ok, Err}
use mathlib.Core.Path.{◌≡◌, refl}
use mathlib.Core.List.{List, [], ◌∷◌}
use Prim.Native.Nat.{ℕ}
use lib.ListN.{replicate}
use Rattle.block_search.specs.Search.{count_below, search_answer}

-- one that equals the target is not below it
pub below-five : count_below 4 (1 ∷ 4 ∷ 5 ∷ 9 ∷ []) 5 ≡ 2
unfolding count_below
below-five = refl

abbrev block : List ℕ
block = 1 ∷ 4 ∷ 5 ∷ replicate 125 9

-- 5 stands at its count, 6 does not, and all are below 10
pub hit-five : search_answer block 5 ≡ Ok 2
unfolding count_below
hit-five = refl

pub miss-six : search_answer block 6 ≡ Err 3
unfolding count_below
miss-six = refl

pub miss-ten : search_answer block 10 ≡ Err 128
unfolding count_below
miss-ten = refl
