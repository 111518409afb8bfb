-- A move of one slot's rows, seen from all slots.
use Rattle.std.specs.Prelude.{Result}
use mathlib.Core.Path.{◌≡◌, refl, sym, ap, ◌∙◌, subst}
use mathlib.Core.List.{List, []}
use Prim.Native.Nat.{ℕ, ◌≤◌, ◌<◌}
use native.Mathlib.Omega.{arith}
use lib.ListN.{get_or, set}
use lib.Seq.{get_or-set_same, set-get_or}
use Rattle.route.specs.Cursor.{Cursor, fresh, seek_block_in}
use Rattle.bm25.specs.declared.Scoring.{Scoring}
use Rattle.notefile.specs.declared.part.Part.{Part}
use Rattle.slot_rows.specs.Inner.Rows.{cursor_in, part_in, part_row, PartRow, MovedRow, ShallowRow, SoughtRow, Unkept}
use Rattle.slot_rows.proofs.Rows.{part-back}
use Rattle.slot_moves.proofs.Moves.{stays-shallow}
use Rattle.term_scorer.specs.Inner.Slots.{Held, Sixteen, SlotIn, StandingIn, cursor_at, held, list_at, part_at, MovedSlot, SoughtSlot, Shallowed, Opened}

-- the row that was put into a slot
same_row : {A : Type 0} (xss : List (List A)) (q : ℕ) (xs : List A) → q < 16 → Sixteen xss → get_or (set xss q xs) q [] ≡ xs
same_row xss q xs h l = get_or-set_same xss q xs [] (omega (arith, h, l))

only_row : {A : Type 0} (xss : List (List A)) (q : ℕ) (xs : List A) → q < 16 → Sixteen xss → set xss q xs ≡ set xss q (get_or (set xss q xs) q [])
only_row xss q xs h l = ap (set xss q) (sym (same_row xss q xs h l))

-- a slot's skip reader stands in its list
pub standing-in : {file : List ℕ} {lists : List (List ℕ)} {q : ℕ} {h : Held} → SlotIn file lists h q → StandingIn file lists h.places q
standing-in S = record { sixteen = S.sixteen.0; part-row = S.part-row; list = S.list; standing = S.place.standing }

-- the block of a slot's cursor is its row's first number
pub block_at : (places : List (List ℕ)) (q n : ℕ) → (cursor_at places q).blk ≤ n → get_or (get_or places q []) 0 0 ≤ n
unfolding cursor_in
block_at places q n h = h

module _ (file : List ℕ) (lists : List (List ℕ)) (q : ℕ) (h : q < 16) where
  pub moved-slot : (to : Scoring → Cursor) {places : List (List ℕ)} {blocks : List (List (List ℕ))} → Sixteen places × Sixteen blocks → {p : List ℕ} {b : List (List ℕ)} {doc : ℕ}
      → MovedRow file (part_at lists q) to (get_or places q []) p b doc
      → MovedSlot file lists q to (held places blocks) (held (set places q p) (set blocks q b)) doc
  moved-slot to {places} {blocks} (lp, lb) {p} {b} M = record {
    places-only = only_row places q p h lp;
    blocks-only = only_row blocks q b h lb;
    moved = rw (same_row places q p h lp, same_row blocks q b h lb) M;
  }

  -- a seek
  pub sought-slot : (t : ℕ) (to : Scoring → Cursor) {places : List (List ℕ)} {blocks : List (List (List ℕ))} → Sixteen places × Sixteen blocks → {p : List ℕ} {b : List (List ℕ)} {r : Result ℕ ℕ}
      → SoughtRow file (part_at lists q) t to (get_or places q []) p b r
      → SoughtSlot file lists q t to (held places blocks) (held (set places q p) (set blocks q b)) r
  sought-slot t to {places} {blocks} (lp, lb) {p} {b} S = record {
    moved = rw (same_row places q p h lp) (moved-slot to (lp, lb) S.moved);
    answer-is = rw (same_row places q p h lp) S.answer-is;
  }

  -- within its block
  pub moved-within : (to : Scoring → Cursor) {places : List (List ℕ)} {blocks : List (List (List ℕ))} → Sixteen places → {p : List ℕ} {doc : ℕ}
      → MovedRow file (part_at lists q) to (get_or places q []) p (get_or blocks q []) doc → MovedSlot file lists q to (held places blocks) (held (set places q p) blocks) doc
  moved-within to {places} {blocks} l {p} M = record {
    places-only = only_row places q p h l;
    blocks-only = sym (set-get_or blocks q []);
    moved = rw (same_row places q p h l) M;
  }

  pub shallowed : (to : Scoring → Cursor) {places : List (List ℕ)} → Sixteen places → {p : List ℕ}
      → ShallowRow file (part_at lists q) to (get_or places q []) p → Shallowed file lists q to places (set places q p)
  shallowed to {places} l {p} M = record { only = only_row places q p h l; moved = rw (same_row places q p h l) M }

-- a skip reader whose block may hold the target stays
pub stayed : (file : List ℕ) (lists : List (List ℕ)) (q : ℕ) {places : List (List ℕ)} → StandingIn file lists places q → (t : ℕ) → t ≤ get_or (get_or places q []) 3 0
    → Shallowed file lists q (λ s. seek_block_in (list_at s file lists q) 128 t (cursor_at places q)) places places
stayed file lists q {places} S t h = record { only = sym (set-get_or places q []); moved = stays-shallow file (get_or lists q []) (get_or places q []) S.list S.standing t h }

module _ (file : List ℕ) (x : Part) (top q : ℕ) (h : q < 16) (lists : List (List ℕ)) (l : Sixteen lists) where
  part-there : part_at (set lists q (part_row x top)) q ≡ x
  part-there = ap part_in (same_row lists q (part_row x top) h l) ∙ part-back x top

  pub opened : {list : List ℕ} → (list ≡ part_row x top) × PartRow list → {places : List (List ℕ)} {blocks : List (List (List ℕ))} → Sixteen places × Sixteen blocks → {p : List ℕ} {b : List (List ℕ)} {doc : ℕ}
      → MovedRow file x (λ _. fresh) (get_or places q []) p b doc × Unkept p
      → Opened file x top q lists (set lists q list) (held places blocks) (held (set places q p) (set blocks q b)) doc
  opened {list} (e, r) {places} {blocks} s {p} {b} {doc} (M, u) =
      subst (λ (z : List ℕ). Opened file x top q lists (set lists q z) (held places blocks) (held (set places q p) (set blocks q b)) doc) (sym e)
      (record {
        lists-only = refl;
        part-row = subst PartRow e r;
        opened = moved-slot file (set lists q (part_row x top)) q h (λ _. fresh) s
            (subst (λ (z : Part). MovedRow file z (λ _. fresh) (get_or places q []) p b doc) (sym part-there) M);
        unkept = rw (same_row places q p h s.0) u;
      })
