-- What the moves of a union's turn leave, in the route's words.
use Rattle.std.specs.Prelude.{◌≡◌, Bool, true, false, List, [], ◌∷◌, map, ℕ, min, ◌≤◌, ◌<◌, drop, take, Float}
use Rattle.arrays.specs.Every.{All}
use Rattle.route.specs.Score.{sum}
use Rattle.route.specs.F32.{f32}
use Rattle.route.specs.Scorer.{block_max_score, seek_block}
use Rattle.route.specs.Union.{Around, aligned, align_scorers, block_max_was_too_low, missed, missed_on}
use Rattle.bm25.specs.declared.Scoring.{Scoring}
use Rattle.ordering.specs.Inner.Scorers.{Moving}
use Rattle.term_scorer.specs.declared.TermScorer.{TermScorer}
use Rattle.term_scorer.specs.Inner.Slots.{Held, last_at, Sixteen}
use Rattle.term_scorer.specs.Inner.Weights.{FloatRows, TopKept}
use Rattle.union_moves.specs.Inner.Seats.{Carried, Seat, Terms, on_route, scorer_at, terms, terms_of}
use Rattle.union_moves.specs.declared.align.Alignment.{Alignment}

-- the least of t and the last documents of the slots' present blocks
abbrev pub least_last_of : List (List ℕ) → ℕ → List ℕ → ℕ
least_last_of places t [] = t
least_last_of places t (q ∷ qs) = least_last_of places (min (last_at places q) t) qs

-- a slot whose present block's last document can be read
abbrev pub LastRead : List (List ℕ) → ℕ → Type 0
LastRead places q = (q < 16) × (last_at places q < 4294967296)

module _ (file : List ℕ) (lists : List (List ℕ)) where
  -- the first len of l have shallowly sought doc, and r is the sum of their block bounds, in their order
  pub record BlocksSought (T : Terms) (h : Held) (doc len : ℕ)
      (h' : Held) (floats' : List (List Float)) (r : Float) (l : List TermScorer) : Type 0 where
    pub seats : All (Seat file lists (terms T.scoring T.norms floats') h') l
    pub moving : Moving (seek_block 128 doc) (scorer_at file lists T.scoring h.places) l len
        (scorer_at file lists T.scoring h'.places) l
    pub sum_is : r ≡ sum f32 (map (block_max_score 128 f32) (on_route file lists T.scoring h' (take len l)))
    pub rows : FloatRows floats'

  -- the blocks of the first len of scorers l were too low, and one of them has gone on: the route's next scorers
  pub record OneOn (scoring : Scoring) (h : Held) (l : List TermScorer) (len : ℕ) (h' : Held) (l' : List TermScorer) : Type 0 where
    pub carried : Carried file lists h l h' l'
    pub scorers-are : on_route file lists scoring h' l'
        ≡ block_max_was_too_low 128 f32 (on_route file lists scoring h (take len l)) (on_route file lists scoring h (drop len l))

  -- of n slots in the row, whatever the scoring, if their list bounds are kept
  pub record TooLow (h : Held) (order : List ℕ) (n len : ℕ) (h' : Held) (order' : List ℕ) : Type 0 where
    pub one : (scoring : Scoring) → All (TopKept scoring file lists) (take n order)
        → OneOn scoring h (terms_of file lists scoring h.places (take n order)) len h' (terms_of file lists scoring h'.places (take n order'))
    pub long : Sixteen order'

  -- all came to the pivot: the first before scorers have sought it, and the others stay
  pub record OnPivot (p : ℕ) (h : Held) (l : List TermScorer) (before : ℕ) (h' : Held) (l' : List TermScorer) : Type 0 where
    pub carried : Carried file lists h l h' l'
    pub aligned-are : (scoring : Scoring)
        → align_scorers 128 p (on_route file lists scoring h (take before l)) ≡ aligned (on_route file lists scoring h' (take before l'))
    pub rest-are : (scoring : Scoring) → on_route file lists scoring h' (drop before l') ≡ on_route file lists scoring h (drop before l)

  -- one went past it, and is in its place again, or gone
  pub record PastPivot (p : ℕ) (h : Held) (l : List TermScorer) (before : ℕ) (h' : Held) (l' : List TermScorer) : Type 0 where
    pub carried : Carried file lists h l h' l'
    pub missed-is : (scoring : Scoring) → (m : Around Float)
        × (align_scorers 128 p (on_route file lists scoring h (take before l)) ≡ missed m)
        × (on_route file lists scoring h' l' ≡ missed_on m (on_route file lists scoring h (drop before l)))

  -- by `align_scorers`' answer
  abbrev pub AlignedBy : Bool → ℕ → Held → List TermScorer → ℕ → Held → List TermScorer → Type 0
  AlignedBy true = OnPivot
  AlignedBy false = PastPivot

  -- what `align_scorers` leaves of n slots in the row
  pub record Aligns (p : ℕ) (h : Held) (order : List ℕ) (n before : ℕ) (h' : Held) (order' : List ℕ) (r : Alignment) : Type 0 where
    pub by : (scoring : Scoring)
        → AlignedBy r.on_pivot p h (terms_of file lists scoring h.places (take n order)) before
        h' (terms_of file lists scoring h'.places (take r.len order'))
    pub few : r.len ≤ n
    pub all : r.on_pivot ≡ true → r.len ≡ n
    pub long : Sixteen order'
