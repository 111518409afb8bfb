-- Rows: where reports are written.
use Rattle.std.specs.Prelude.{◌≡◌, List, [], ◌∷◌, ◌++◌, map, ℕ, zero, suc, min, ◌≤◌, length, drop, Float}
use Rattle.route.specs.Report.{Report}
use Rattle.route.specs.Rule.{scores}

-- 01, on a run: two row buffers, documents and scores
pub record Rows : Type 0 where
  pub documents : List ℕ
  pub scores : List Float

abbrev pub rows : List ℕ → List Float → Rows
rows documents scores = record { documents = documents; scores = scores }

-- they are as many rows as the shorter has
abbrev pub rows_of : List ℕ → List Float → ℕ
rows_of documents scores = min (length documents) (length scores)

-- the documents reported, in order
abbrev pub docs : {S : Type 0} → List (Report S) → List ℕ
docs rs = map (λ r. r.doc) rs

-- the reports rs stand in the first rows, and every cell behind them is as it was
pub record Written (rs : List (Report Float)) (documents₀ : List ℕ) (scores₀ : List Float) (documents : List ℕ) (values : List Float) : Type 0 where
  pub fit : length rs ≤ rows_of documents₀ scores₀
  pub documents-are : documents ≡ docs rs ++ drop (length rs) documents₀
  pub scores-are : values ≡ scores rs ++ drop (length rs) scores₀

-- what stands in the first n rows, in order, each a document with its score
abbrev pub rows_in : ℕ → List ℕ → List Float → List (Report Float)
rows_in zero documents scores = []
rows_in (suc n) [] scores = []
rows_in (suc n) (d ∷ documents) [] = []
rows_in (suc n) (d ∷ documents) (s ∷ scores) = record { doc = d; score = s } ∷ rows_in n documents scores
