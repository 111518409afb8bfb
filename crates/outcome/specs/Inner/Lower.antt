-- The first of two refusals in the table's order.
use Rattle.std.specs.Prelude.{cond, ℕ, eqb, ltb}

-- the lower of two numbers of refusals, 0 being none
abbrev pub lower : ℕ → ℕ → ℕ
lower a b = cond (eqb a 0) b (cond (eqb b 0) a (cond (ltb b a) b a))
