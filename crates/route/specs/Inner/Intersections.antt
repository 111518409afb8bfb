-- What an intersection keeps of its scorers and of an open window.
use Rattle.std.specs.Prelude.{List, ◌∷◌, ℕ, ◌≤◌, length}
use Rattle.arrays.specs.Every.{All}
use Rattle.route.specs.Score.{Ops}
use Rattle.route.specs.Report.{Report}
use Rattle.route.specs.Postings.{TERMINATED}
use Rattle.route.specs.Scorer.{Scorer}
use Rattle.route.specs.Intersection.{Stage, called, early, over, window, within}
use Rattle.route.specs.Inner.Lists.{ListOk}
use Rattle.route.specs.Inner.Cursors.{Wf}

module _ (B N : ℕ) (O : Ops) where
  -- a scorer of a right list, well placed in it
  pub record WfS (s : Scorer O.S) : Type 0 where
    pub ok : ListOk B N s.list
    pub wf : Wf B s.list s.cur

  -- in a window d is at most its end e, and the candidates are of one block
  unfoldable pub InWindow : List (Report O.S) → ℕ → ℕ → Scorer O.S → List (Scorer O.S) → Type 0
  InWindow cs e d ld ss = All WfS (ld ∷ ss) × (d ≤ e) × (e ≤ TERMINATED) × (length cs ≤ B) × All (λ r. r.doc ≤ TERMINATED) cs

  unfoldable pub InterKept : Stage O.S → ℕ → Scorer O.S → List (Scorer O.S) → Type 0
  InterKept early d ld ss = All WfS (ld ∷ ss) × (d ≤ 2147483648)
  InterKept window d ld ss = All WfS (ld ∷ ss) × (d ≤ 2147483648)
  InterKept (within cs e bs) d ld ss = InWindow cs e d ld ss
  InterKept (called cs e bs) d ld ss = InWindow cs e d ld ss
  InterKept over d ld ss = Unit {0}
