-- The route of `block_wand_intersection`: windows in which all present block bounds hold, and the leader's candidates in each.
use Rattle.std.specs.Prelude.{Bool, true, false, cond, List, [], ◌∷◌, map, ℕ, zero, suc, min, ◌-◌, eqb, ltb}
use Rattle.std.proofs.Math.Option.{Option, none, some}
use Rattle.route.specs.Score.{Ops, sum, sum_back}
use Rattle.route.specs.Report.{Report, due_at}
use Rattle.route.specs.Postings.{Postings, TERMINATED, start}
use Rattle.route.specs.Cursor.{find_in}
use Rattle.route.specs.Scorer.{Scorer, on_cur, doc_of, score_here, max_score, seek_block, seek, block_max_score}
use Rattle.route.specs.Route.{Load, load_of, loads_of, Turn, quiet, Route}
use Rattle.route.specs.Union.{least_last_doc}

-- At the early exit; at `while doc < TERMINATED`; at the candidates left of a window that ends at `window_end`, with the
-- secondaries' block bounds; behind a call of the callback; returned.
pub data Stage (S : Type 0) : Type 0 where
  early : Stage S
  window : Stage S
  within : List (Report S) → ℕ → List S → Stage S
  called : List (Report S) → ℕ → List S → Stage S
  over : Stage S

-- the stage, the Rust's `doc`, `leader` and `secondaries`
pub record InterPlace (S : Type 0) : Type 0 where
  pub stage : Stage S
  pub doc : ℕ
  pub leader : Scorer S
  pub secs : List (Scorer S)

-- what the secondaries make of a candidate: where they stand, and its score if all have it
pub record Tried (S : Type 0) : Type 0 where
  pub secs : List (Scorer S)
  pub found : Option S

-- the run has returned
abbrev pub is_over : {S : Type 0} → Stage S → Bool
is_over early = false
is_over window = false
is_over (within cs e bs) = false
is_over (called cs e bs) = false
is_over over = true

-- the bounds behind the first secondary
abbrev pub tail_of : {A : Type 0} → List A → List A
tail_of [] = []
tail_of (x ∷ xs) = xs

module _ {S : Type 0} where
  -- a secondary that the candidate has passed
  abbrev pub push_sec : Scorer S → Tried S → Tried S
  push_sec s t = record { secs = s ∷ t.secs; found = t.found }

  -- `continue 'next_candidate`
  abbrev pub dropped : List (Scorer S) → Tried S
  dropped ss = record { secs = ss; found = none }

  module _ (B : ℕ) where
    -- `has_remaining_docs`
    abbrev pub has_remaining_docs : Scorer S → Bool
    has_remaining_docs s = ltb (start B s.cur.blk) s.list.len

    -- `secondary.block_cursor().seek_block(doc)`, up to the first that has no document left
    abbrev pub seek_block_all : ℕ → List (Scorer S) → List (Scorer S)
    seek_block_all d [] = []
    seek_block_all d (s ∷ ss) =
        let s' = seek_block B d s in
        cond (has_remaining_docs s') (s' ∷ seek_block_all d ss) (s' ∷ ss)

    -- no secondary ran out of documents
    abbrev pub all_remain : ℕ → List (Scorer S) → Bool
    all_remain d [] = true
    all_remain d (s ∷ ss) = cond (has_remaining_docs (seek_block B d s)) (all_remain d ss) false

    -- `block_cursor.seek(doc)` of the leader: its block is loaded, and its own place, never used, stays the first
    abbrev pub load_leader : Scorer S → Scorer S
    load_leader s = on_cur s (record { blk = s.cur.blk; loaded = true; dec = s.cur.blk; at = start B s.cur.blk })

module _ (O : Ops) where
  -- `leader_score > score_threshold`: of the n places from p, those whose score is above t
  abbrev pub candidates_from : Postings O.S → O.S → ℕ → ℕ → List (Report O.S)
  candidates_from l t zero p = []
  candidates_from l t (suc n) p =
      cond (O.above (l.score p) t)
      (record { doc = l.doc p; score = l.score p } ∷ candidates_from l t n (suc p))
      (candidates_from l t n (suc p))

  -- `leader_max_score + secondaries_global_max_sum`
  abbrev pub max_score_sum : Scorer O.S → List (Scorer O.S) → O.S
  max_score_sum ld ss = O.add (max_score ld) (sum O (map max_score ss))

module _ (B : ℕ) (O : Ops) where
  -- places `start_idx..end_idx` of the leader's block b: documents from d up to the window's end e
  abbrev pub candidates_in : Postings O.S → O.S → ℕ → ℕ → ℕ → List (Report O.S)
  candidates_in l t b d e =
      let i = find_in l d B (start B b) in
      candidates_from O l t (min (find_in l (suc e) B (start B b)) l.len - i) i

  -- `'next_candidate`: candidate c with `total_score` so far, against the secondaries and their block bounds, at threshold t
  abbrev pub try_candidate : ℕ → O.S → O.S → List (Scorer O.S) → List O.S → Tried O.S
  try_candidate c t tot [] bs = record { secs = []; found = some tot }
  try_candidate c t tot (s ∷ ss) bs =
      let s' = seek B c s in
      let tot' = O.add tot (score_here s') in
      let on = try_candidate c t tot' ss (tail_of bs) in
      cond (ltb c (doc_of s)) (dropped (s ∷ ss))
      (cond (eqb (doc_of s') c)
      (cond (O.above (O.add tot' (sum_back O (tail_of bs))) t) (push_sec s' on) (dropped (s' ∷ ss)))
      (dropped (s' ∷ ss)))

  -- One turn of `while doc < TERMINATED`, up to the candidates. The window ends where the first of the present blocks does, so
  -- that all bounds hold in it; behind the last window doc is one more than TERMINATED, and the loop ends (01, windows).
  abbrev pub window_turn : O.S → ℕ → Scorer O.S → List (Scorer O.S) → InterPlace O.S
  window_turn t d ld ss =
      let ld' = seek_block B d ld in
      let ss' = seek_block_all B d ss in
      let bs = map (block_max_score B O) ss' in
      let e = least_last_doc B ld' ss' in
      let cs = candidates_in ld.list (O.sub t (sum O bs)) ld'.cur.blk d e in
      cond (ltb d TERMINATED)
      (cond (all_remain B d ss)
      (cond (O.above (O.add (block_max_score B O ld') (sum O bs)) t)
      (record { stage = within cs e bs; doc = d; leader = load_leader B ld'; secs = ss' })
      (record { stage = window; doc = suc e; leader = ld'; secs = ss' }))
      (record { stage = over; doc = d; leader = ld'; secs = ss' }))
      (record { stage = over; doc = d; leader = ld; secs = ss })

  -- all secondaries matched: `if total_score > threshold { threshold = callback(..); .. }`
  abbrev pub found_turn : O.S → Option O.S → ℕ → List (Report O.S) → ℕ → List O.S → ℕ → Scorer O.S → List (Scorer O.S)
      → List Load → Turn (InterPlace O.S) O.S
  found_turn t none c cs e bs d ld ss ls = quiet (record { stage = within cs e bs; doc = d; leader = ld; secs = ss }) ls
  found_turn t (some x) c cs e bs d ld ss ls = record {
    next = record { stage = cond (O.above x t) (called cs e bs) (within cs e bs); doc = d; leader = ld; secs = ss };
    due = due_at O t c x;
    loads = ls;
  }

  -- one turn, by the stage: the early exit, a window, a candidate, the exit behind a call
  abbrev pub inter_by : Stage O.S → O.S → ℕ → Scorer O.S → List (Scorer O.S) → Turn (InterPlace O.S) O.S
  inter_by early t d ld ss =
      quiet (record { stage = cond (O.above (max_score_sum O ld ss) t) window over; doc = d; leader = ld; secs = ss }) []
  inter_by window t d ld ss = let u = window_turn t d ld ss in quiet u (load_of ld u.leader)
  inter_by (within [] e bs) t d ld ss = quiet (record { stage = window; doc = suc e; leader = ld; secs = ss }) []
  inter_by (within (c ∷ cs) e bs) t d ld ss =
      let x = try_candidate c.doc t c.score ss bs in
      found_turn t x.found c.doc cs e bs d ld x.secs (loads_of ss x.secs)
  inter_by (called cs e bs) t d ld ss =
      quiet (record { stage = cond (O.above (max_score_sum O ld ss) t) (within cs e bs) over; doc = d; leader = ld; secs = ss }) []
  inter_by over t d ld ss = quiet (record { stage = over; doc = d; leader = ld; secs = ss }) []

  -- `block_wand_intersection` behind its `sort_by_key`, with the leader split off
  abbrev pub leader_route : Scorer O.S → List (Scorer O.S) → Route O.S
  leader_route ld ss = record {
    Place = InterPlace O.S;
    first = record { stage = early; doc = doc_of ld; leader = ld; secs = ss };
    ended = λ u. is_over u.stage;
    turn = λ t u. inter_by u.stage t u.doc u.leader u.secs;
    scorers = λ u. u.leader ∷ u.secs;
  }
