-- What holds of all numbers below a bound, and of every member of a list.
use Rattle.std.specs.Prelude.{Bool, true, ◌&&◌, List, [], ◌∷◌, ℕ, zero, suc}

-- whether P holds of every number below n
abbrev pub every : ℕ → (ℕ → Bool) → Bool
every zero P = true
every (suc n) P = every n P && P n

-- P holds of each
abbrev pub All : {A : Type 0} → (A → Type 0) → List A → Type 0
All P [] = Unit {0}
All P (x ∷ xs) = P x × All P xs
