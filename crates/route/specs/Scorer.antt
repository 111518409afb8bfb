-- A scorer: one list of the query with its cursor.
use Rattle.std.specs.Prelude.{List, [], ◌∷◌, ℕ, suc}
use Rattle.route.specs.Score.{Ops}
use Rattle.route.specs.Postings.{Postings, last_doc}
use Rattle.route.specs.Cursor.{Cursor, fresh, doc_here, seek_block_in, seek_in, advance_in, block_max}

-- The Rust's `TermScorer`, with its list's position in the query.
pub record Scorer (S : Type 0) : Type 0 where
  pub ord : ℕ
  pub list : Postings S
  pub cur : Cursor

module _ {S : Type 0} where
  -- the scorer with another cursor
  abbrev pub on_cur : Scorer S → Cursor → Scorer S
  on_cur s c = record { ord = s.ord; list = s.list; cur = c }

  -- the Rust's `doc`, `score`, `max_score` and `size_hint`; below its `last_doc_in_block`, `seek_block`, `seek`, `advance` and `block_max_score`
  abbrev pub doc_of : Scorer S → ℕ
  doc_of s = doc_here s.list s.cur

  abbrev pub score_here : Scorer S → S
  score_here s = s.list.score s.cur.at

  abbrev pub max_score : Scorer S → S
  max_score s = s.list.top

  abbrev pub size_hint : Scorer S → ℕ
  size_hint s = s.list.len

  -- a scorer for each list of the query, in its order, from position i
  abbrev pub scorers_from : ℕ → List (Postings S) → List (Scorer S)
  scorers_from i [] = []
  scorers_from i (l ∷ ls) = record { ord = i; list = l; cur = fresh } ∷ scorers_from (suc i) ls

  module _ (B : ℕ) where
    abbrev pub last_doc_in_block : Scorer S → ℕ
    last_doc_in_block s = last_doc s.list B s.cur.blk

    abbrev pub seek_block : ℕ → Scorer S → Scorer S
    seek_block t s = on_cur s (seek_block_in s.list B t s.cur)

    abbrev pub seek : ℕ → Scorer S → Scorer S
    seek t s = on_cur s (seek_in s.list B t s.cur)

    abbrev pub advance : Scorer S → Scorer S
    advance s = on_cur s (advance_in s.list B s.cur)

abbrev pub block_max_score : ℕ → (O : Ops) → Scorer O.S → O.S
block_max_score B O s = block_max B O s.list s.cur
