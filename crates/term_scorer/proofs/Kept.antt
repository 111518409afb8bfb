-- What is kept of a slot: where it was opened nothing but its list's norms and bound, and after a move what the scorer did not leave.
use mathlib.Core.Path.{◌≡◌, sym, ◌∙◌, subst}
use mathlib.Core.List.{List, []}
use Prim.Native.Nat.{ℕ, suc, ◌+◌, ◌-◌, ◌*◌, ◌≤◌, ◌<◌}
use native.Mathlib.Omega.{arith}
use lib.ListN.{get_or}
use lib.Ieee.{Float, nan}
use Rattle.route.specs.Cursor.{Cursor, block_max}
use Rattle.route.specs.F32.{f32}
use Rattle.route.specs.Postings.{Postings}
use Rattle.bm25.specs.declared.Scoring.{Scoring}
use Rattle.slot_rows.specs.Inner.Rows.{cursor_in, MovedRow, Unkept}
use Rattle.term_scorer.specs.Inner.Slots.{Held, list_at, part_at, Sixteen}
use Rattle.term_scorer.specs.Inner.Weights.{FreshSlot, KeptBounds, KeptSlot}

module _ (l : Postings Float) (q : ℕ) {bounds : List Float} where
  pub kept-none : {row : List ℕ} → Unkept row → KeptBounds l q row bounds
  kept-none U = record { known = λ k. absurd (omega (arith, k, U.bound)); ready = λ b u. absurd (omega (arith, u, U.ahead)) }

  -- the scorer has moved
  pub kept-moved : {row row' : List ℕ} → (get_or row' 7 0 ≡ 1 → (get_or row 7 0 ≡ 1) × ((cursor_in row').blk ≡ (cursor_in row).blk) × ((cursor_in row').loaded ≡ (cursor_in row).loaded))
      → ((e : ℕ) → get_or row' 9 0 ≡ suc e → get_or row 9 0 ≡ suc e) → KeptBounds l q row bounds → KeptBounds l q row' bounds
  kept-moved {row} {row'} B A K = record {
    known = λ k. let w = B k in K.known w.0 ∙ sym (same_block (cursor_in row) (cursor_in row') w.1 w.2);
    ready = λ b u.
        let f : get_or row' 9 0 ≡ suc (get_or row' 9 0 - 1) = omega arith in
        subst (λ (e : ℕ). e ≤ b + 7 → b < l.full → get_or bounds (16 + 7 * q + (b + 7 - e)) nan ≡ l.bound b) (A (get_or row' 9 0 - 1) f ∙ sym f)
        (K.ready b (omega (arith, u, f, A (get_or row' 9 0 - 1) f)));
  }
    where
      -- a bound is that of the skip reader's block, loaded or not
      same_block : (c c' : Cursor) → c'.blk ≡ c.blk → c'.loaded ≡ c.loaded → block_max 128 f32 l c' ≡ block_max 128 f32 l c
      same_block c c' e f = rw (e, f)

module _ {scoring : Scoring} {file : List ℕ} {lists : List (List ℕ)} {norms : List (List Float)} {h : Held} {floats : List (List Float)} {q : ℕ} where
  -- a slot as it was opened
  pub kept_fresh : FreshSlot scoring file lists norms h q → KeptSlot scoring file lists norms h floats q
  kept_fresh F = record {
    slot-in = F.slot-in;
    slot = F.slot;
    weighed = F.weighed;
    bound = kept-none (list_at scoring file lists q) q F.unkept;
    scores = λ k. absurd (omega (arith, k, F.unkept.scores));
    top = F.top;
  }

  -- its scorer has moved
  pub kept_row : {h' : Held} → Sixteen h'.places × Sixteen h'.blocks → {to : Scoring → Cursor} {d : ℕ}
      → MovedRow file (part_at lists q) to (get_or h.places q []) (get_or h'.places q []) (get_or h'.blocks q []) d
      → KeptSlot scoring file lists norms h floats q → KeptSlot scoring file lists norms h' floats q
  kept_row sixteen M K = record {
    slot-in = K.slot-in;
    slot = record { sixteen = sixteen; part-row = K.slot.part-row; list = K.slot.list; place = M.place };
    weighed = K.weighed;
    bound = kept-moved (list_at scoring file lists q) q M.bound-is M.ahead-is K.bound;
    scores = λ k. let w = M.scores-is k in rw w.1 (K.scores w.0);
    top = K.top;
  }
