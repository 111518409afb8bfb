-- What conditions 10 and 11 leave of a query and a rule, as the theorems about runs take them.
use Rattle.std.specs.Prelude.{◌≡◌, false, List, [], ◌∷◌, ℕ, ◌≤◌, ◌<◌}
use Rattle.arrays.specs.Every.{All}
use Rattle.route.specs.Score.{Ops}
use Rattle.route.specs.Rule.{Rule, script, best}
use Rattle.route.specs.Plain.{Mode, union, intersection, single}

-- What refusal 10 asks of the number of lists named: one for single, two or more for an intersection.
abbrev pub Takes : Mode → ℕ → Type 0
Takes union n = Unit {0}
Takes intersection n = 2 ≤ n
Takes single n = n ≡ 1

module _ (O : Ops) where
  -- 01's condition 11 on a script: no entry is below the one before it, and the first is not below the start.
  abbrev pub Rises : O.S → List O.S → Type 0
  Rises start [] = Unit {0}
  Rises start (x ∷ xs) = (O.above start x ≡ false) × Rises x xs

  -- What condition 11 leaves: `Fin` thresholds, a script that rises, and k at least 1; that k is at most 64 matters to no
  -- theorem here.
  abbrev pub RuleOk : (O.S → Type 0) → Rule O.S → O.S → Type 0
  RuleOk Fin (script l) start = Fin start × Rises start l × All Fin l
  RuleOk Fin (best k) start = Fin start × (0 < k)
