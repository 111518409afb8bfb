-- The search in a block: the count of values below the target, and whether the value there is the target.
use Rattle.std.specs.Prelude.{List, Bool, Result, Ok, Err, true, false, cond, ℕ, zero, suc, ◌+◌, ltb, eqb, get_or}

abbrev pub one_if : Bool → ℕ
one_if true = 1
one_if false = 0

-- how many of the first n values are below the target
unfoldable pub count_below : ℕ → List ℕ → ℕ → ℕ
count_below zero values target = 0
count_below (suc n) values target = count_below n values target + one_if (ltb (get_or values n 0) target)

-- 02, order 2: a hit with its index, or a miss with the count
abbrev pub answer_if : Bool → ℕ → Result ℕ ℕ
answer_if true i = Ok i
answer_if false i = Err i

-- the value at place n of a block of 128 is the target; behind the last there is none
abbrev pub holds_at : List ℕ → ℕ → ℕ → Bool
holds_at values target n = cond (ltb n 128) (eqb (get_or values n 0) target) false

-- 02, order 2: a hit at 01's count where the value there is the target, else a miss with that count, which may be 128
abbrev pub search_answer : List ℕ → ℕ → Result ℕ ℕ
search_answer values target =
    let count = count_below 128 values target in
    answer_if (holds_at values target count) count
