-- Scores: the operations that a run uses, so that every definition is one text for both scorings.
use Rattle.std.specs.Prelude.{Bool, cond, List, [], ◌∷◌}

-- The arithmetic that a run uses: `nil` is 0.0, and `above x t` is the Rust's `x > t`, whose negation is its `x <= t`.
pub record Ops : Type 1 where
  pub S : Type 0
  pub nil : S
  pub add : S → S → S
  pub sub : S → S → S
  pub above : S → S → Bool

module _ (O : Ops) where
  -- the larger of two values, the first if they are equal: best k's threshold, and one comparison of the Rust's `max_score`
  abbrev pub larger : O.S → O.S → O.S
  larger s v = cond (O.above v s) v s

  -- the other one: the lower of two starts, where `larger` is the higher (01, demand 3)
  abbrev pub smaller : O.S → O.S → O.S
  smaller s v = cond (O.above v s) s v

  -- a running sum, one addition a value from the left
  abbrev pub sum_from : O.S → List O.S → O.S
  sum_from acc [] = acc
  sum_from acc (x ∷ xs) = sum_from (O.add acc x) xs

  -- `iter().sum()`, and sums begun at 0.0
  abbrev pub sum : List O.S → O.S
  sum xs = sum_from O.nil xs

  -- `running += ..` over `(0..num_secondaries).rev()`: from the right.
  abbrev pub sum_back : List O.S → O.S
  sum_back [] = O.nil
  sum_back (x ∷ xs) = O.add (sum_back xs) x
