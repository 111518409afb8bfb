-- The route of `block_wand`: a pivot, then one scorer past blocks that are too low, or the scorers onto the pivot.
use Rattle.std.specs.Prelude.{Bool, true, false, cond, List, [], ◌∷◌, ◌++◌, map, ℕ, suc, min, eqb, length, take, drop}
use Rattle.std.proofs.Math.Option.{Option, none, some}
use Rattle.route.specs.Score.{Ops, sum}
use Rattle.route.specs.Report.{due_at}
use Rattle.route.specs.Postings.{TERMINATED}
use Rattle.route.specs.Ordering.{restore_ordering, sort_by, sweep, put_back}
use Rattle.route.specs.Scorer.{Scorer, doc_of, score_here, max_score, last_doc_in_block, seek_block, seek, advance, block_max_score}
use Rattle.route.specs.Route.{Load, load_of, loads_of, loads_back, Turn, quiet, Route}
use Rattle.route.specs.Single.{block_wand_single_scorer}

-- `find_pivot_doc`'s answer: the scorers up to `before_pivot_len`, on to `pivot_len`, the rest, and `pivot_doc`.
pub record Pivot (S : Type 0) : Type 0 where
  pub pre : List (Scorer S)
  pub piv : List (Scorer S)
  pub post : List (Scorer S)
  pub doc : ℕ

-- a list of scorers around one of them
pub record Around (S : Type 0) : Type 0 where
  pub left : List (Scorer S)
  pub one : Scorer S
  pub right : List (Scorer S)

-- `align_scorers`' answer: the scorers on the pivot, or those around the one that went past it
pub data Aligned (S : Type 0) : Type 0 where
  aligned : List (Scorer S) → Aligned S
  missed : Around S → Aligned S

-- At the `while let`; behind a call of the callback, with so many scorers on the pivot that have still to advance; returned.
pub data Stage : Type 0 where
  looking : Stage
  called : ℕ → Stage
  over : Stage

-- the run has returned
abbrev pub is_over : Stage → Bool
is_over looking = false
is_over (called n) = false
is_over over = true

-- the stage, and the scorers in their present order
pub record UnionPlace (S : Type 0) : Type 0 where
  pub stage : Stage
  pub scorers : List (Scorer S)

-- the loop goes on over these scorers
abbrev pub go_on : {S : Type 0} → List (Scorer S) → UnionPlace S
go_on ss = record { stage = looking; scorers = ss }

-- `if doc_to_seek_after != TERMINATED { doc_to_seek_after += 1; }`
abbrev pub behind : ℕ → ℕ
behind e = cond (eqb e TERMINATED) e (suc e)

module _ {S : Type 0} where
  -- `take_while(|scorer| scorer.doc() == pivot_doc)`
  abbrev pub on_doc : ℕ → List (Scorer S) → List (Scorer S)
  on_doc d [] = []
  on_doc d (s ∷ ss) = cond (eqb (doc_of s) d) (s ∷ on_doc d ss) []

  -- the scorers behind those on the pivot
  abbrev pub off_doc : ℕ → List (Scorer S) → List (Scorer S)
  off_doc d [] = []
  off_doc d (s ∷ ss) = cond (eqb (doc_of s) d) (off_doc d ss) (s ∷ ss)

  -- one more scorer before the pivot
  abbrev pub push_pre : Scorer S → Option (Pivot S) → Option (Pivot S)
  push_pre s none = none
  push_pre s (some c) = some (record { pre = s ∷ c.pre; piv = c.piv; post = c.post; doc = c.doc })

  -- `if pivot_doc == TERMINATED { return None; }`
  abbrev pub live_only : Option (Pivot S) → Option (Pivot S)
  live_only none = none
  live_only (some c) = cond (eqb c.doc TERMINATED) none (some c)

  -- the least document of the scorers behind the pivot, or t
  abbrev pub least_doc : ℕ → List (Scorer S) → ℕ
  least_doc t [] = t
  least_doc t (y ∷ ys) = least_doc (min (doc_of y) t) ys

  -- after a miss: the scorers before it, then it and those behind it in order
  abbrev pub missed_on : Around S → List (Scorer S) → List (Scorer S)
  missed_on m rest = m.left ++ put_back doc_of m.one (m.right ++ rest)

  module _ (B : ℕ) where
    -- the least `last_doc_in_block()` of x ∷ xs
    abbrev pub least_last_doc : Scorer S → List (Scorer S) → ℕ
    least_last_doc x [] = last_doc_in_block B x
    least_last_doc x (y ∷ ys) = min (last_doc_in_block B x) (least_last_doc y ys)

    -- one turn of the loop: s seeks the pivot, unless one behind it missed
    abbrev pub align_on : ℕ → Scorer S → Aligned S → Aligned S
    align_on p s (missed m) = missed (record { left = s ∷ m.left; one = m.one; right = m.right })
    align_on p s (aligned ss) =
        cond (eqb (doc_of (seek B p s)) p) (aligned (seek B p s ∷ ss)) (missed (record { left = []; one = seek B p s; right = ss }))

    -- `align_scorers`: from the last to the first, until one misses the pivot p
    abbrev pub align_scorers : ℕ → List (Scorer S) → Aligned S
    align_scorers p [] = aligned []
    align_scorers p (s ∷ ss) = align_on p s (align_scorers p ss)

    -- `advance_all_scorers_on_pivot`, over the scorers on the pivot and those behind it
    abbrev pub advance_all_scorers_on_pivot : List (Scorer S) → List (Scorer S) → List (Scorer S)
    advance_all_scorers_on_pivot on post = let all = map (advance B) on ++ post in sort_by doc_of (sweep doc_of (length all) all)

module _ (O : Ops) where
  -- the `while` of `find_pivot_doc`, with the list bounds added up so far
  abbrev pub pivot_from : O.S → O.S → List (Scorer O.S) → Option (Pivot O.S)
  pivot_from t acc [] = none
  pivot_from t acc (s ∷ ss) =
      cond (O.above (O.add acc (max_score s)) t)
      (some (record { pre = []; piv = s ∷ on_doc (doc_of s) ss; post = off_doc (doc_of s) ss; doc = doc_of s }))
      (push_pre s (pivot_from t (O.add acc (max_score s)) ss))

  -- `find_pivot_doc`
  abbrev pub find_pivot_doc : O.S → List (Scorer O.S) → Option (Pivot O.S)
  find_pivot_doc t ss = live_only (pivot_from t O.nil ss)

  -- `scorer_to_seek`: the highest list bound of x ∷ xs, the last among equals
  abbrev pub scorer_to_seek : Scorer O.S → List (Scorer O.S) → Around O.S
  scorer_to_seek x [] = record { left = []; one = x; right = [] }
  scorer_to_seek x (y ∷ ys) =
      let m = scorer_to_seek y ys in
      cond (O.above (max_score x) (max_score m.one))
      (record { left = []; one = x; right = y ∷ ys })
      (record { left = x ∷ m.left; one = m.one; right = m.right })

module _ (B : ℕ) (O : Ops) where
  -- `block_max_was_too_low_advance_one_scorer`, over the scorers up to `pivot_len` and those behind: the one that seeks
  abbrev pub past_low : Scorer O.S → List (Scorer O.S) → List (Scorer O.S) → Scorer O.S
  past_low x xs post = seek B (least_doc (behind (least_last_doc B x xs)) post) (scorer_to_seek O x xs).one

  abbrev pub block_max_was_too_low : List (Scorer O.S) → List (Scorer O.S) → List (Scorer O.S)
  block_max_was_too_low [] post = post
  block_max_was_too_low (x ∷ xs) post =
      let m = scorer_to_seek O x xs in
      m.left ++ restore_ordering doc_of (past_low x xs post) (m.right ++ post)

  abbrev pub too_low_loads : List (Scorer O.S) → List (Scorer O.S) → List Load
  too_low_loads [] post = []
  too_low_loads (x ∷ xs) post = load_of (scorer_to_seek O x xs).one (past_low x xs post)

  -- All scorers of `on` stand on the pivot p. Their scores are added in the order that the scorers have now, which shows in unstepped
  -- sums (01, union). A report is handed out before they advance.
  abbrev pub scored : O.S → ℕ → List Load → List (Scorer O.S) → List (Scorer O.S) → Turn (UnionPlace O.S) O.S
  scored t p ls on post =
      let x = sum O (map score_here on) in
      record {
        next = cond (O.above x t) (record { stage = called (length on); scorers = on ++ post }) (go_on (advance_all_scorers_on_pivot B on post));
        due = due_at O t p x;
        loads = ls ++ cond (O.above x t) [] (loads_of on (map (advance B) on));
      }

  -- behind `align_scorers` of the scorers `pre`
  abbrev pub after_align : O.S → List (Scorer O.S) → Aligned O.S → ℕ → List (Scorer O.S) → List (Scorer O.S)
      → Turn (UnionPlace O.S) O.S
  after_align t pre (missed m) p piv post = quiet (go_on (missed_on m (piv ++ post))) (loads_back pre (m.left ++ (m.one ∷ m.right)))
  after_align t pre (aligned pre') p piv post = scored t p (loads_back pre pre') (pre' ++ piv) post

  -- the body of the `while let`, at a pivot
  abbrev pub on_pivot : O.S → Pivot O.S → Turn (UnionPlace O.S) O.S
  on_pivot t c =
      let pre = map (seek_block B c.doc) c.pre in
      let piv = map (seek_block B c.doc) c.piv in
      cond (O.above (sum O (map (block_max_score B O) (pre ++ piv))) t)
      (after_align t pre (align_scorers B c.doc pre) c.doc piv c.post)
      (quiet (go_on (block_max_was_too_low (pre ++ piv) c.post)) (too_low_loads (pre ++ piv) c.post))

  -- no pivot ends the loop
  abbrev pub after_pivot : O.S → Option (Pivot O.S) → List (Scorer O.S) → Turn (UnionPlace O.S) O.S
  after_pivot t none ss = quiet (record { stage = over; scorers = ss }) []
  after_pivot t (some c) ss = on_pivot t c

  -- one turn of `while let Some(..) = find_pivot_doc(..)`, or the rest of one
  abbrev pub union_by : Stage → O.S → List (Scorer O.S) → Turn (UnionPlace O.S) O.S
  union_by looking t ss = after_pivot t (find_pivot_doc O t ss) ss
  union_by (called n) t ss =
      let on = take n ss in
      quiet (go_on (advance_all_scorers_on_pivot B on (drop n ss))) (loads_of on (map (advance B) on))
  union_by over t ss = quiet (record { stage = over; scorers = ss }) []

  abbrev pub union_turn : O.S → UnionPlace O.S → Turn (UnionPlace O.S) O.S
  union_turn t u = union_by u.stage t u.scorers

  -- the loop of `block_wand`, over scorers with a document each
  abbrev pub pivot_route : List (Scorer O.S) → Route O.S
  pivot_route ss = record {
    Place = UnionPlace O.S;
    first = go_on (sort_by doc_of ss);
    ended = λ u. is_over u.stage;
    turn = union_turn;
    scorers = λ u. u.scorers;
  }

  -- `block_wand` behind its `retain`: one scorer left goes to the single scan, none leaves no pivot to find
  abbrev pub block_wand : List (Scorer O.S) → Route O.S
  block_wand [] = pivot_route []
  block_wand (s ∷ []) = block_wand_single_scorer B O s
  block_wand (x ∷ y ∷ ss) = pivot_route (x ∷ y ∷ ss)
