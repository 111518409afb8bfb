-- What a posting seek answers (02, order 2).
use Rattle.std.specs.Prelude.{Result, Bool, false, cond, ℕ, eqb, ltb}
use Rattle.block_search.specs.Search.{answer_if}
use Rattle.route.specs.Postings.{TERMINATED}

-- a scorer on document doc has come to its target; `TERMINATED` stands for the list's end and is no document
abbrev pub stands_on : ℕ → ℕ → Bool
stands_on target doc = cond (eqb doc target) (ltb target TERMINATED) false

-- a hit with the scorer's place in its block exactly when the document there is the target, else a miss with that place
abbrev pub seek_answer : ℕ → ℕ → ℕ → Result ℕ ℕ
seek_answer target doc cur = answer_if (stands_on target doc) cur
