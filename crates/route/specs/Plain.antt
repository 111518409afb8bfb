-- The plain scan, which 01 adds to measure skipping runs by: every matching document upward, in all modes.
use Rattle.std.proofs.Math.Option.{Option, none, some}
use Rattle.std.specs.Prelude.{List, [], ◌∷◌, ◌++◌, ℕ, zero, suc}
use Rattle.route.specs.Score.{Ops, sum_from}
use Rattle.route.specs.Report.{Report, Callback, offer}
use Rattle.route.specs.Rule.{Rule, ruled}
use Rattle.route.specs.Postings.{Postings, score_of}

-- 01's three modes
pub data Mode : Type 0 where
  union intersection single : Mode

-- the score of a list that has the document
abbrev pub opt_list : {S : Type 0} → Option S → List S
opt_list none = []
opt_list (some x) = x ∷ []

-- one more list must have it too
abbrev pub and_also : {S : Type 0} → Option S → Option (List S) → Option (List S)
and_also none o = none
and_also (some x) none = none
and_also (some x) (some xs) = some (x ∷ xs)

-- Document d's scores in query order; a list that is named twice counts twice (01, the plain scan).
abbrev pub present : {S : Type 0} → ℕ → List (Postings S) → List S
present d [] = []
present d (l ∷ ls) = opt_list (score_of l d) ++ present d ls

-- the same, if all lists have the document
abbrev pub everywhere : {S : Type 0} → ℕ → List (Postings S) → Option (List S)
everywhere d [] = some []
everywhere d (l ∷ ls) = and_also (score_of l d) (everywhere d ls)

module _ (O : Ops) where
  -- no score is no match
  abbrev pub total_of : List O.S → Option O.S
  total_of [] = none
  total_of (x ∷ xs) = some (sum_from O x xs)

  -- a document that some list lacks is no match
  abbrev pub all_of : Option (List O.S) → Option O.S
  all_of none = none
  all_of (some xs) = total_of xs

  -- The sum of a document's scores if it matches: some list has it, or in an intersection every list (01, the plain scan).
  abbrev pub hit : Mode → List (Postings O.S) → ℕ → Option O.S
  hit union q d = total_of (present d q)
  hit intersection q d = all_of (everywhere d q)
  hit single q d = total_of (present d q)

  module _ (K : Callback O.S) where
    -- a document that matches is offered to the callback
    abbrev pub turn_of : Option O.S → ℕ → K.State → K.State
    turn_of none d r = r
    turn_of (some x) d r = offer O K d x r

    -- the n documents from d upward, each offered to the callback if it matches
    abbrev pub scan : (ℕ → Option O.S) → ℕ → ℕ → K.State → K.State
    scan h zero d r = r
    scan h (suc n) d r = scan h n (suc d) (turn_of (h d) d r)

  -- 01's plain scan: its reports over the documents below N, in order, however many they are.
  abbrev pub plain : Mode → List (Postings O.S) → Rule O.S → O.S → ℕ → List (Report O.S)
  plain m q rule start N = scan (ruled O rule start) (hit m q) N 0 []
