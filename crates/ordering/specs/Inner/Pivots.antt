-- What is found by the scorers' list bounds: the pivot, and the scorer to seek.
use Rattle.std.specs.Prelude.{cond, Option, Some, None, List, [], ◌∷◌, ◌≡◌, ℕ, suc, ◌+◌, ◌≤◌, ◌<◌, eqb, drop, length, take, Float}
use Rattle.arrays.specs.Every.{All}
use Rattle.route.specs.F32.{f32}
use Rattle.route.specs.Postings.{TERMINATED}
use Rattle.term_scorer.specs.declared.TermScorer.{TermScorer}
use Rattle.ordering.specs.declared.Pivot.{Pivot}

-- how many scorers at the front stand on document d
abbrev pub count_on : ℕ → List TermScorer → ℕ
count_on d [] = 0
count_on d (s ∷ ss) = cond (eqb s.doc d) (suc (count_on d ss)) 0

-- a pivot, by its places and its document
abbrev pub pivot : ℕ → ℕ → ℕ → Pivot
pivot before len doc = record { before_pivot_len = before; pivot_len = len; pivot_doc = doc }

-- the pivot's places, of the scorers from place b on: the first is on it, with those that follow on its document;
-- a finished scorer is on none
abbrev pub pivot_at : ℕ → List TermScorer → Option Pivot
pivot_at b [] = None
pivot_at b (s ∷ ss) = cond (eqb s.doc TERMINATED) None (Some (pivot b (b + 1 + count_on s.doc ss) s.doc))

-- how many stand before the scorer with which the sum of list bounds, from acc on, exceeds t; all, if it never does
abbrev pub before_pivot : Float → Float → List TermScorer → ℕ
before_pivot t acc [] = 0
before_pivot t acc (s ∷ ss) =
    cond (f32.above (f32.add acc s.max_score) t) 0 (suc (before_pivot t (f32.add acc s.max_score) ss))

-- `find_pivot_doc`
unfoldable pub pivot_of : Float → List TermScorer → Option Pivot
pivot_of t ss = let b = before_pivot t f32.nil ss in pivot_at b (drop b ss)

-- the highest list bound of x ∷ xs
abbrev pub highest : TermScorer → List TermScorer → Float
highest x [] = x.max_score
highest x (y ∷ ys) = cond (f32.above x.max_score (highest y ys)) x.max_score (highest y ys)

-- its place, the last among equals
abbrev pub place_of_highest : TermScorer → List TermScorer → ℕ
place_of_highest x [] = 0
place_of_highest x (y ∷ ys) = cond (f32.above x.max_score (highest y ys)) 0 (suc (place_of_highest y ys))

-- `scorer_to_seek` of `block_max_was_too_low_advance_one_scorer`, among scorers of which there is one at least
abbrev pub place_to_seek : List TermScorer → ℕ
place_to_seek [] = 0
place_to_seek (x ∷ xs) = place_of_highest x xs

-- the scorers from place `before` on, up to len, stand on doc, which is a document
pub record Found (l : List TermScorer) (before len doc : ℕ) : Type 0 where
  pub first : before < len
  pub inside : len ≤ length l
  pub on : All (λ s. s.doc ≡ doc) (drop before (take len l))
  pub live : doc ≡ TERMINATED → ⊥
