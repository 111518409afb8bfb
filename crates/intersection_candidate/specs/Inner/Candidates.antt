-- A candidate of the leader against the secondaries, and the candidates of a window.
use Rattle.std.specs.Prelude.{◌≡◌, cond, Some, None, List, [], ◌∷◌, ℕ, suc, min, ◌+◌, ◌-◌, ◌≤◌, ◌<◌, get_or, Float}
use Rattle.std.specs.Prelude as prelude
use Rattle.std.proofs.Math.Option.{Option, none, some}
use Rattle.block_search.specs.Search.{count_below}
use Rattle.block_search.specs.Inner.Segments.{Sorted}
use Rattle.route.specs.F32.{f32}
use Rattle.route.specs.Report.{Report}
use Rattle.route.specs.Postings.{Postings, doc_at, start}
use Rattle.route.specs.Cursor.{find_in}
use Rattle.route.specs.Intersection.{candidates_from, try_candidate}
use Rattle.route.specs.Inner.Lists.{ListOk}
use Rattle.term_scorer.specs.Inner.Slots.{Held, SameRows}
use Rattle.term_scorer.specs.Inner.Weights.{BlockScores}
use Rattle.intersection_order.specs.Inner.Scorers.{Query, Rests, secondaries_in, slot_at, SlotsIn, StillKept}
use Rattle.intersection_candidate.specs.declared.candidate.Posting.{Posting}
use Rattle.intersection_candidate.specs.declared.leader.Candidates.{Candidates}

-- a report is due where all secondaries have the candidate and its score is above the threshold
abbrev pub candidate_of : Float → Option Float → prelude.Option Float
candidate_of t none = None
candidate_of t (some total) = cond (f32.above total t) (Some total) None

-- what the secondaries made of candidate c: they stand where the route's do, and the leader stays
pub record Tries (x : Query) (c : ℕ) (score t : Float) (rests : List Float) (h h' : Held) (r : prelude.Option Float) : Type 0 where
  pub seated : SlotsIn x h'
  pub leader : SameRows h h' (slot_at x 0)
  pub bounds : StillKept x h.places h'.places
  pub secs-are : (bs : List Float) → Rests x.len bs rests
      → (try_candidate 128 f32 c t score (secondaries_in x h.places) bs).secs ≡ secondaries_in x h'.places
  pub answer-is : (bs : List Float) → Rests x.len bs rests
      → r ≡ candidate_of t (try_candidate 128 f32 c t score (secondaries_in x h.places) bs).found

-- ---- the candidates of a window

-- two rows are of block b of a list: its documents, rising, and its postings' scores
pub record BlockRows (l : Postings Float) (b : ℕ) (docs : List ℕ) (scores : List Float) : Type 0 where
  pub limit : ℕ
  pub ok : ListOk 128 limit l
  pub sorted : Sorted docs
  pub docs-are : (i : ℕ) → i < 128 → get_or docs i 0 ≡ doc_at l (start 128 b + i)
  pub below-is : (d : ℕ) → find_in l d 128 (start 128 b) ≡ start 128 b + count_below 128 docs d
  pub scores-are : BlockScores l b scores

-- those above ts, up to document e, from place i of the leader's block b on
abbrev pub candidates_left : Postings Float → ℕ → Float → ℕ → ℕ → List (Report Float)
candidates_left l b ts e i =
    let p = start 128 b + i in
    candidates_from f32 l ts (min (find_in l (suc e) 128 (start 128 b)) l.len - p) p

abbrev pub left_in : Postings Float → ℕ → Candidates → List (Report Float)
left_in l b c = candidates_left l b c.score_threshold c.window_end c.next

-- the candidates behind place i
abbrev pub behind : Candidates → ℕ → Candidates
behind c i = record { next = i; window_end = c.window_end; score_threshold = c.score_threshold }

-- a candidate that was found, as the route has it
abbrev pub report_of : Posting → Report Float
report_of p = record { doc = p.doc; score = p.score }

-- what is found of the candidates left: none, or the first
abbrev pub FindsBy : Postings Float → ℕ → Candidates → prelude.Option (ℕ × Posting) → Type 0
FindsBy l b c None = left_in l b c ≡ []
FindsBy l b c (Some r) = (left_in l b c ≡ report_of r.1 ∷ left_in l b (behind c r.0)) × (r.0 ≤ 128) × (r.1.doc < 2147483647)

pub record Finds (l : Postings Float) (b : ℕ) (c : Candidates) (r : prelude.Option (ℕ × Posting)) : Type 0 where
  pub finds : FindsBy l b c r
