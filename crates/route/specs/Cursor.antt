-- A scorer's place in its list: the skip reader's block, the block decoded last, the place in that block.
use Rattle.std.specs.Prelude.{Bool, true, false, cond, ℕ, zero, suc, ◌+◌, ◌-◌, pred, min, leb, ltb, eqb}
use Rattle.route.specs.Score.{Ops, larger}
use Rattle.route.specs.Postings.{Postings, start, doc_at, last_doc}

-- The skip reader stands on block `blk`, loaded or not. Block `dec` was decoded last, and `at` is the Rust's `cur` in it,
-- counted from the list's start.
pub record Cursor : Type 0 where
  pub blk : ℕ
  pub loaded : Bool
  pub dec : ℕ
  pub at : ℕ

-- `BlockSegmentPostings::open` loads the first block.
abbrev pub fresh : Cursor
fresh = record { blk = 0; loaded = true; dec = 0; at = 0 }

module _ {S : Type 0} (l : Postings S) where
  -- `SegmentPostings::doc`: a document of the block decoded last, wherever the skip reader stands.
  abbrev pub doc_here : Cursor → ℕ
  doc_here c = doc_at l c.at

  -- `seek_within_block`: the first place, from p on and of the next n, whose document is t or after it.
  abbrev pub find_in : ℕ → ℕ → ℕ → ℕ
  find_in t zero p = p
  find_in t (suc n) p = cond (ltb (doc_at l p) t) (find_in t n (suc p)) p

  module _ (B : ℕ) where
    -- `SkipReader::seek`: the first block, from b on and of the next n, that ends at t or after it.
    abbrev pub skip_to : ℕ → ℕ → ℕ → ℕ
    skip_to t zero b = b
    skip_to t (suc n) b = cond (ltb (last_doc l B b) t) (skip_to t n (suc b)) b

    -- `BlockSegmentPostings::seek_block`: the skip reader goes on alone, and what was decoded before stays readable.
    abbrev pub seek_block_in : ℕ → Cursor → Cursor
    seek_block_in t c =
        cond (ltb (last_doc l B c.blk) t)
        (record { blk = skip_to t (l.full - c.blk) c.blk; loaded = false; dec = c.dec; at = c.at })
        c

    -- `load_block` on block b, then `seek_within_block`
    abbrev pub load_at : ℕ → ℕ → Cursor
    load_at t b = record { blk = b; loaded = true; dec = b; at = find_in t B (start B b) }

    -- `self.cur = (self.cur + 1).min(COMPRESSION_BLOCK_SIZE - 1)`
    abbrev pub next_in : Cursor → Cursor
    next_in c = record { blk = c.blk; loaded = c.loaded; dec = c.dec; at = min (suc c.at) (start B c.dec + pred B) }

    -- `SegmentPostings::seek`: where it stands, or the next place, or the block that may hold t, loaded.
    abbrev pub seek_in : ℕ → Cursor → Cursor
    seek_in t c =
        cond (leb t (doc_here c)) c
        (cond (leb t (doc_here (next_in c))) (next_in c)
        (load_at t (seek_block_in t c).blk))

    -- `SegmentPostings::advance`: behind a block's last place the next block is loaded.
    abbrev pub advance_in : Cursor → Cursor
    advance_in c =
        cond (eqb c.at (start B c.dec + pred B))
        (record { blk = suc c.blk; loaded = true; dec = suc c.blk; at = start B (suc c.blk) })
        (record { blk = c.blk; loaded = c.loaded; dec = c.dec; at = suc c.at })

module _ (B : ℕ) (O : Ops) (l : Postings O.S) where
  -- the largest of `acc` and the n scores from place p
  abbrev pub max_from : ℕ → ℕ → O.S → O.S
  max_from zero p acc = acc
  max_from (suc n) p acc = max_from n (suc p) (larger O acc (l.score p))

  -- `max_score(bm25_scores).unwrap_or(0.0)`: the largest score of the tail, or 0 where it has none.
  abbrev pub tail_max : O.S
  tail_max =
      let p = start B l.full in
      cond (ltb p l.len) (max_from (l.len - suc p) (suc p) (l.score p)) O.nil

  -- `BlockSegmentPostings::block_max_score`: a full block has its skip entry's bound; the tail has the list bound only until
  -- it is loaded, and then its own largest score (01, block bounds); the empty block behind the tail has 0.
  abbrev pub block_max : Cursor → O.S
  block_max c =
      cond (ltb c.blk l.full) (l.bound c.blk)
      (cond c.loaded (cond (eqb c.blk l.full) tail_max O.nil) l.top)
