-- The route of `block_wand_single_scorer`: hunt for a block whose bound exceeds the threshold, then walk it.
use Rattle.std.specs.Prelude.{Bool, true, false, cond, [], ◌∷◌, ℕ, suc, eqb}
use Rattle.route.specs.Score.{Ops}
use Rattle.route.specs.Report.{due_at}
use Rattle.route.specs.Postings.{Postings, TERMINATED, last_doc}
use Rattle.route.specs.Cursor.{Cursor, doc_here, seek_block_in, seek_in, advance_in, block_max}
use Rattle.route.specs.Scorer.{Scorer, on_cur, doc_of}
use Rattle.route.specs.Route.{load_of, Turn, quiet, Route}

-- at the inner `while`; at the inner `loop`; behind a call of the callback; returned
pub data Phase : Type 0 where
  hunt walk called over : Phase

-- where the scan stands: its `doc`, and the scorer's cursor
pub record SinglePlace : Type 0 where
  pub phase : Phase
  pub cur : Cursor
  pub doc : ℕ

-- the run has returned
abbrev pub is_over : Phase → Bool
is_over hunt = false
is_over walk = false
is_over called = false
is_over over = true

module _ (B : ℕ) (O : Ops) (l : Postings O.S) where
  -- `doc = ..; if doc == TERMINATED` ends it, else the inner loop goes on at doc
  abbrev pub landed : Cursor → SinglePlace
  landed c = record { phase = cond (eqb (doc_here l c) TERMINATED) over walk; cur = c; doc = doc_here l c }

  -- `doc = .. + 1; scorer.seek_block(doc)`, behind document e
  abbrev pub leave : ℕ → Cursor → SinglePlace
  leave e c = record { phase = hunt; cur = seek_block_in l B (suc e) c; doc = suc e }

  -- `while scorer.block_max_score() <= threshold { .. }`, one turn of it, then `doc = scorer.seek(doc)`
  abbrev pub hunt_turn : O.S → Cursor → ℕ → Turn SinglePlace O.S
  hunt_turn t c d =
      let e = last_doc l B c.blk in
      quiet (cond (O.above (block_max B O l c) t) (landed (seek_in l B d c))
      (cond (eqb e TERMINATED) (record { phase = over; cur = c; doc = d }) (leave e c))) []

  -- behind document d: on to the next document, or past the block
  abbrev pub passed : Cursor → ℕ → SinglePlace
  passed c d = cond (eqb d (last_doc l B c.blk)) (leave d c) (landed (advance_in l B c))

  -- one turn of the inner `loop`: a report is handed out before the scorer goes on
  abbrev pub walk_turn : O.S → Cursor → ℕ → Turn SinglePlace O.S
  walk_turn t c d =
      let x = l.score c.at in
      record { next = cond (O.above x t) (record { phase = called; cur = c; doc = d }) (passed c d); due = due_at O t d x; loads = [] }

  -- one turn, by the phase
  abbrev pub single_by : Phase → O.S → Cursor → ℕ → Turn SinglePlace O.S
  single_by hunt t c d = hunt_turn t c d
  single_by walk t c d = walk_turn t c d
  single_by called t c d = quiet (passed c d) []
  single_by over t c d = quiet (record { phase = over; cur = c; doc = d }) []

  -- one turn from a place, but for its load
  abbrev pub single_turn : O.S → SinglePlace → Turn SinglePlace O.S
  single_turn t p = single_by p.phase t p.cur p.doc

module _ (B : ℕ) (O : Ops) (s : Scorer O.S) where
  -- a turn with its load: there is one scorer, so its place shows it
  abbrev pub single_step : O.S → SinglePlace → Turn SinglePlace O.S
  single_step t p =
      let u = single_turn B O s.list t p in
      record { next = u.next; due = u.due; loads = load_of (on_cur s p.cur) (on_cur s u.next.cur) }

  -- `block_wand_single_scorer`
  abbrev pub block_wand_single_scorer : Route O.S
  block_wand_single_scorer = record {
    Place = SinglePlace;
    first = record { phase = hunt; cur = s.cur; doc = doc_of s };
    ended = λ p. is_over p.phase;
    turn = single_step;
    scorers = λ p. on_cur s p.cur ∷ [];
  }
