-- What the scorers on a pivot leave when they go on, in the route's words.
use Rattle.std.specs.Prelude.{◌≡◌, List, ℕ, ◌≤◌, drop, take}
use Rattle.route.specs.Union.{advance_all_scorers_on_pivot}
use Rattle.bm25.specs.declared.Scoring.{Scoring}
use Rattle.term_scorer.specs.declared.TermScorer.{TermScorer}
use Rattle.term_scorer.specs.Inner.Slots.{Held, Sixteen}
use Rattle.union_moves.specs.Inner.Seats.{Carried, on_route, terms_of}

module _ (file : List ℕ) (lists : List (List ℕ)) where
  -- the first len of scorers l have advanced, the finished are gone, and the rest is in order
  pub record Advanced (scoring : Scoring) (h : Held) (l : List TermScorer) (len : ℕ) (h' : Held) (l' : List TermScorer) : Type 0 where
    pub carried : Carried file lists h l h' l'
    pub scorers-are : on_route file lists scoring h' l'
        ≡ advance_all_scorers_on_pivot 128 (on_route file lists scoring h (take len l)) (on_route file lists scoring h (drop len l))

  -- of n slots in the row, so many are left
  pub record AdvancedAll (h : Held) (order : List ℕ) (n len : ℕ) (h' : Held) (order' : List ℕ) (r : ℕ) : Type 0 where
    pub on : (scoring : Scoring)
        → Advanced scoring h (terms_of file lists scoring h.places (take n order)) len h' (terms_of file lists scoring h'.places (take r order'))
    pub few : r ≤ n
    pub long : Sixteen order'
