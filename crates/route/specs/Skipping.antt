-- Skipping runs of every mode: one definition of the route, and one of a run's list.
use Rattle.std.specs.Prelude.{true, List, [], ◌∷◌, ℕ}
use Rattle.route.specs.Score.{Ops}
use Rattle.route.specs.Report.{Report}
use Rattle.route.specs.Rule.{Rule, ruled}
use Rattle.route.specs.Postings.{Postings}
use Rattle.route.specs.Ordering.{sort_by, retain}
use Rattle.route.specs.Scorer.{Scorer, doc_of, size_hint, scorers_from}
use Rattle.route.specs.Route.{Route, quiet, Ends}
use Rattle.route.specs.Single.{block_wand_single_scorer}
use Rattle.route.specs.Union.{block_wand}
use Rattle.route.specs.Intersection.{leader_route}
use Rattle.route.specs.Plain.{Mode, union, intersection, single}

-- The route of a query that refusal 10 stops: no turn is taken.
abbrev pub no_route : {S : Type 0} → Route S
no_route = record { Place = Unit {0}; first = tt; ended = λ p. true; turn = λ t p. quiet p []; scorers = λ p. [] }

module _ (B : ℕ) (O : Ops) where
  -- a single run takes one list (01, refusal 10)
  abbrev pub of_one : List (Scorer O.S) → Route O.S
  of_one [] = no_route
  of_one (s ∷ []) = block_wand_single_scorer B O s
  of_one (x ∷ y ∷ ss) = no_route

  -- `assert!(scorers.len() >= 2)`, here refusal 10
  abbrev pub of_two : List (Scorer O.S) → Route O.S
  of_two [] = no_route
  of_two (s ∷ []) = no_route
  of_two (x ∷ y ∷ ss) = leader_route B O x (y ∷ ss)

  -- The route of a skipping run (01): the three Rust functions over decoded lists, one text for both scorings.
  abbrev pub route : Mode → List (Postings O.S) → Route O.S
  route union q = block_wand B O (retain doc_of (scorers_from 0 q))
  route intersection q = of_two (sort_by size_hint (scorers_from 0 q))
  route single q = of_one (scorers_from 0 q)

  -- The list of the skipping run over q from `start` is `rows`.
  abbrev pub Skips : Mode → List (Postings O.S) → Rule O.S → O.S → List (Report O.S) → Type 0
  Skips m q rule start rows = Ends (ruled O rule start) (route m q) [] rows
