-- A turn of the union's loop, in code and on the route.
use Rattle.std.specs.Prelude.{◌≡◌, None, Some, List, map, ℕ, ◌≤◌, drop, take, Float}
use Rattle.arrays.specs.Every.{All}
use Rattle.route.specs.F32.{f32}
use Rattle.route.specs.Route.{Load, Turn}
use Rattle.route.specs.Union as route
use Rattle.route.specs.Union.{UnionPlace, after_align, align_scorers, called, looking, over, scored, union_turn}
use Rattle.route.specs.Inner.Unions.{SafeS, UnionKept}
use Rattle.bm25.specs.declared.Scoring.{Scoring}
use Rattle.reports.specs.Inner.Due.{due_of}
use Rattle.reports.specs.declared.Step.{Step}
use Rattle.ordering.specs.Inner.Pivots.{pivot_of, Found}
use Rattle.term_scorer.specs.declared.TermScorer.{TermScorer}
use Rattle.notefile.specs.Header.{documents}
use Rattle.term_scorer.specs.Inner.Slots.{Held, Sixteen}
use Rattle.union_moves.specs.Inner.Seats.{Seated, Terms, on_route, scorer_at, terms, terms_of}
use Rattle.union_pivot.specs.declared.Span.{Span}
use Rattle.union_turn.specs.declared.Stage.{Stage}
use Rattle.union_turn.specs.declared.Stage.TheVariants.{Called, Looking, Over}
use Rattle.union_turn.specs.declared.Union.{Union}

-- the route's stage
abbrev pub stage_of : Stage → route.Stage
stage_of Looking = looking
stage_of (Called n) = called n
stage_of Over = over

-- a step without a report
abbrev pub quiet_step : ℕ → Stage → Step Union
quiet_step len stage = record { to = record { len = len; stage = stage }; due = None }

module _ (file : List ℕ) (lists : List (List ℕ)) where
  -- the route's place
  abbrev pub place_in : Scoring → List (List ℕ) → Stage → List TermScorer → UnionPlace Float
  place_in scoring places stage l = record { stage = stage_of stage; scorers = map (scorer_at file lists scoring places) l }

module _ (file : List ℕ) (lists : List (List ℕ)) where
  -- the scorers that a step leaves, by the row
  abbrev pub left_by : Scoring → Held → List ℕ → Step Union → List TermScorer
  left_by scoring h order r = terms_of file lists scoring h.places (take r.to.len order)

  -- a step is the route's turn: where it leads, and what is due
  pub record Does (scoring : Scoring) (u : Turn (UnionPlace Float) Float) (h' : Held) (order' : List ℕ) (r : Step Union) : Type 0 where
    pub next-is : u.next ≡ place_in file lists scoring h'.places r.to.stage (left_by scoring h' order' r)
    pub due-is : u.due ≡ due_of r.due

  -- the scorers that a step leaves are seated
  abbrev pub Left : Terms → Held → List ℕ → List (List Float) → Step Union → Type 0
  Left T h' order' floats' r = Seated file lists (terms T.scoring T.norms floats') h' (left_by T.scoring h' order' r)

  -- scorers at a pivot whose blocks are high enough: seated, and safe on the route
  pub record AtPivot (T : Terms) (h : Held) (l : List TermScorer) (at : Span) : Type 0 where
    pub found : Found l at.pivot.before_pivot_len at.pivot.pivot_len at.pivot.pivot_doc
    pub seated : Seated file lists T h l
    pub safe : All (SafeS 128 (documents file)) (on_route file lists T.scoring h l)

  -- the first len of n slots, all on document p, were scored at threshold t, and went on if no report is due
  pub record Hit (T : Terms) (t : Float) (h : Held) (order : List ℕ) (n len p : ℕ) (h' : Held) (order' : List ℕ)
      (floats' : List (List Float)) (r : Step Union) : Type 0 where
    pub left : Left T h' order' floats' r
    pub does : (ls : List Load)
        → let l = terms_of file lists T.scoring h.places (take n order) in
        let route = on_route file lists T.scoring h in
        Does T.scoring (scored 128 f32 t p ls (route (take len l)) (route (drop len l))) h' order' r
    pub few : r.to.len ≤ n
    pub long : Sixteen order'

  -- what the route does from there, at threshold t
  pub record Pivoted (T : Terms) (t : Float) (h : Held) (order : List ℕ) (n : ℕ) (at : Span)
      (h' : Held) (order' : List ℕ) (floats' : List (List Float)) (r : Step Union) : Type 0 where
    pub left : Left T h' order' floats' r
    pub does :
        let l = terms_of file lists T.scoring h.places (take n order) in
        let route = on_route file lists T.scoring h in
        let pre = route (take at.pivot.before_pivot_len l) in
        Does T.scoring
        (after_align 128 f32 t pre (align_scorers 128 at.pivot.pivot_doc pre) at.pivot.pivot_doc
        (route (drop at.pivot.before_pivot_len (take at.pivot.pivot_len l)))
        (route (drop at.pivot.pivot_len l)))
        h' order' r
    pub few : r.to.len ≤ n
    pub long : Sixteen order'

  -- n slots, and the pivot that was found among their scorers
  pub record ToPivot (T : Terms) (t : Float) (h : Held) (order : List ℕ) (n : ℕ) (at : Span) : Type 0 where
    pub few : n ≤ 16
    pub long : Sixteen order
    pub found : Some at.pivot ≡ pivot_of t (terms_of file lists T.scoring h.places (take n order))
    pub seated : Seated file lists T h (terms_of file lists T.scoring h.places (take n order))
    pub kept : UnionKept 128 (documents file) f32
        (place_in file lists T.scoring h.places Looking (terms_of file lists T.scoring h.places (take n order)))

  -- a turn at threshold t is the route's, and the scorers are seated after it
  pub record Turned (T : Terms) (t : Float) (stage : Stage) (h : Held) (order : List ℕ) (n : ℕ) (h' : Held) (order' : List ℕ)
      (floats' : List (List Float)) (r : Step Union) : Type 0 where
    pub does : Does T.scoring
        (union_turn 128 f32 t (place_in file lists T.scoring h.places stage (terms_of file lists T.scoring h.places (take n order))))
        h' order' r
    pub left : Left T h' order' floats' r
    pub few : r.to.len ≤ n
    pub long : Sixteen order'
