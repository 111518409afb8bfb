-- All matching documents above a threshold, whatever a run reports (02, order 4); which documents match is the plain scan's own (01).
use Rattle.std.specs.Prelude.{cond, List, [], ◌∷◌, ◌++◌, ℕ, zero, suc}
use Rattle.std.proofs.Math.Option.{Option, none, some}
use Rattle.route.specs.Score.{Ops}
use Rattle.route.specs.Report.{Report}
use Rattle.route.specs.Postings.{Postings}
use Rattle.route.specs.Plain.{Mode, hit}

-- a document with its score, if it matches
abbrev pub scored : {S : Type 0} → ℕ → Option S → List (Report S)
scored d none = []
scored d (some x) = record { doc = d; score = x } ∷ []

-- the same of the n documents from d upward
abbrev pub matching_from : {S : Type 0} → (ℕ → Option S) → ℕ → ℕ → List (Report S)
matching_from h zero d = []
matching_from h (suc n) d = scored d (h d) ++ matching_from h n (suc d)

module _ (O : Ops) where
  -- those that score above a threshold; an equal score does not
  abbrev pub above : O.S → List (Report O.S) → List (Report O.S)
  above t [] = []
  above t (x ∷ xs) = cond (O.above x.score t) (x ∷ above t xs) (above t xs)

  -- 'all matching documents above the start threshold', of the N that there are
  abbrev pub matches : Mode → List (Postings O.S) → O.S → ℕ → List (Report O.S)
  matches m q start N = above start (matching_from (hit O m q) N 0)
