-- A decoded list: what a file gives of one list, by places counted from its start.
use Rattle.std.specs.Prelude.{cond, ℕ, zero, suc, ◌*◌, pred, ltb, eqb}
use Rattle.std.proofs.Math.Option.{Option, none, some}

-- `docset.rs`: never a document.
abbrev pub TERMINATED : ℕ
TERMINATED = 2147483647

-- `doc` and `score` at each place below `len`; `full` blocks with a bound each, then the tail; `top` is the list bound,
-- the Rust's `max_score`.
pub record Postings (S : Type 0) : Type 0 where
  pub len : ℕ
  pub full : ℕ
  pub doc : ℕ → ℕ
  pub score : ℕ → S
  pub bound : ℕ → S
  pub top : S

-- the first place of block b, in blocks of B
unfoldable pub start : ℕ → ℕ → ℕ
start B b = b * B

module _ {S : Type 0} (l : Postings S) where
  -- `doc(idx)`: past the list's end a decoded block is filled up with TERMINATED.
  abbrev pub doc_at : ℕ → ℕ
  doc_at p = cond (ltb p l.len) (l.doc p) TERMINATED

  -- `last_doc_in_block` of the skip reader on block b: a skip entry's, or TERMINATED on the tail and behind it.
  abbrev pub last_doc : ℕ → ℕ → ℕ
  last_doc B b = cond (ltb b l.full) (l.doc (pred (start B (suc b)))) TERMINATED

  -- document d's score, looked for in the next n places from p
  abbrev pub look_from : ℕ → ℕ → ℕ → Option S
  look_from d zero p = none
  look_from d (suc n) p = cond (eqb (l.doc p) d) (some (l.score p)) (look_from d n (suc p))

  -- document d's score in this list, if the list has it
  abbrev pub score_of : ℕ → Option S
  score_of d = look_from d l.len 0
