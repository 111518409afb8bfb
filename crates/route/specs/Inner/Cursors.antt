-- Where a cursor may stand.
use Rattle.std.specs.Prelude.{true, ◌≡◌, ℕ, ◌+◌, ◌<◌, ◌≤◌}
use Rattle.route.specs.Postings.{Postings, start}
use Rattle.route.specs.Cursor.{Cursor}

module _ (B : ℕ) {S : Type 0} (l : Postings S) where
  -- in the block that it decoded, which is its skip reader's where that is loaded
  pub record Wf (c : Cursor) : Type 0 where
    pub lo : start B c.dec ≤ c.at
    pub hi : c.at < start B c.dec + B
    pub order : c.dec ≤ c.blk
    pub in_list : c.blk ≤ l.full
    pub here : c.at ≤ l.len
    pub is-loaded : c.loaded ≡ true → c.dec ≡ c.blk
    pub to-loaded : c.dec ≡ c.blk → c.loaded ≡ true

  -- the cursor has passed no document from x on, and neither has its skip reader
  abbrev pub Past : Cursor → ℕ → Type 0
  Past c x = (i : ℕ) → i < l.len → x ≤ l.doc i → (c.at ≤ i) × (start B c.blk ≤ i)
