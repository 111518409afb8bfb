-- What a single scan keeps, and how far it is from its end.
use Rattle.std.specs.Prelude.{◌≡◌}
use Prim.Native.Nat.{pred, suc, ℕ, ◌*◌, ◌+◌, ◌-◌, ◌<◌, ◌≤◌}
use Rattle.route.specs.Postings.{Postings, TERMINATED, last_doc, start}
use Rattle.route.specs.Cursor.{Cursor, doc_here}
use Rattle.route.specs.Single.{Phase, called, hunt, over, walk}
use Rattle.route.specs.Inner.Cursors.{Past, Wf}

module _ (B : ℕ) {S : Type 0} (l : Postings S) where
  -- past every place
  unfoldable pub edge : ℕ
  edge = start B l.full + B

  -- three turns at most for each place that is left: a hunt, its score, and the rest of a report's turn
  unfoldable pub single_cost : Phase → Cursor → ℕ
  unfolding edge
  single_cost hunt c = suc (3 * (edge - start B c.blk))
  single_cost walk c = 3 * (edge - c.at)
  single_cost called c = pred (3 * (edge - c.at))
  single_cost over c = 0

  -- its cursor is well-formed and has passed no document from d on
  unfoldable pub SingleKept : Phase → Cursor → ℕ → Type 0
  SingleKept hunt c d = Wf B l c × Past B l c d × (d ≤ last_doc l B c.blk)
  SingleKept walk c d = Wf B l c × Past B l c d × (d ≡ doc_here l c) × (d < TERMINATED)
  SingleKept called c d = Wf B l c × Past B l c d × (d ≡ doc_here l c) × (d < TERMINATED)
  SingleKept over c d = Unit {0}
