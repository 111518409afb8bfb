-- Scores that are made and kept in one slot's row, seen from every slot: each stands where it stood.
use mathlib.Core.List.{List, []}
use mathlib.Core.Path.{ap, sym, ◌∙◌, ◌≡◌}
use Prim.Native.Nat.{ℕ, ◌+◌, ◌<◌}
use native.Mathlib.Omega.{arith}
use lib.Dec.{eqb}
use lib.ListN.{get_or, length, length-set, set}
use lib.Seq.{get_or-set_other, get_or-set_same}
use lib.Ieee.{Float}
use borrow.Author.Tests.{eqb-false, eqb-true}
use Rattle.route.specs.Cursor.{Cursor}
use Rattle.route.proofs.Cases.{on_test}
use Rattle.bm25.specs.declared.Scoring.{Scoring}
use Rattle.notefile.specs.declared.part.Part.{Part}
use Rattle.slot_rows.specs.Inner.Rows.{cursor_in, PlaceIn}
use Rattle.slot_rows.proofs.Rows.{scores-in}
use Rattle.term_scorer.specs.Inner.Slots.{cursor_at, held, list_at, part_at, Sixteen, SlotIn}
use Rattle.term_scorer.specs.Inner.Weights.{BoundKept, KeptSlot, Scored, ScoresKept}
use Rattle.term_scorer.proofs.Kept.{kept-moved}
use Rattle.slot_scores.specs.Inner.Made.{ScoresMade}

-- whether scores are made changes nothing of a place
cursor_told : (row : List ℕ) → cursor_in (set row 8 1) ≡ cursor_in row
unfolding cursor_in
cursor_told row =
    rw (
      get_or-set_other row 8 0 1 0 (λ z. omega (arith, z)),
      get_or-set_other row 8 4 1 0 (λ z. omega (arith, z)),
      get_or-set_other row 8 5 1 0 (λ z. omega (arith, z)),
      get_or-set_other row 8 6 1 0 (λ z. omega (arith, z)),
    )

module _ {scoring : Scoring} {file : List ℕ} {lists : List (List ℕ)} {q : ℕ} {places places' : List (List ℕ)} {floats floats' : List (List Float)} (small : q < 16) (n : Sixteen places)
    (M : ScoresMade scoring file lists q places floats places' floats') where
  row-there : get_or places' q [] ≡ set (get_or places q []) 8 1
  row-there =
      ap (λ (z : List (List ℕ)). get_or z q []) M.places-are ∙ get_or-set_same places q (set (get_or places q []) 8 1) [] (omega (arith, small, n))

  row_other : (r : ℕ) → (r ≡ q → ⊥) → get_or places' r [] ≡ get_or places r []
  row_other r o = ap (λ (z : List (List ℕ)). get_or z r []) M.places-are ∙ get_or-set_other places q r (set (get_or places q []) 8 1) [] o

  pub made-cursor : (r : ℕ) → cursor_at places' r ≡ cursor_at places r
  made-cursor r =
      on_test (eqb r q)
      (λ e. let z = eqb-true r q e in rw z (ap cursor_in row-there ∙ cursor_told (get_or places q [])))
      (λ e. ap cursor_in (row_other r (eqb-false r q e)))

  made-number : (k : ℕ) → (k ≡ 8 → ⊥) → (r : ℕ) → get_or (get_or places' r []) k 0 ≡ get_or (get_or places r []) k 0
  made-number k other r =
      on_test (eqb r q)
      (λ e. let z = eqb-true r q e in rw z (ap (λ (row : List ℕ). get_or row k 0) row-there ∙ get_or-set_other (get_or places q []) 8 k 1 0 other))
      (λ e. ap (λ (row : List ℕ). get_or row k 0) (row_other r (eqb-false r q e)))

  place-there : (x : Part) (r : ℕ) {b : List (List ℕ)} → PlaceIn file x (get_or places r []) b → PlaceIn file x (get_or places' r []) b
  place-there x r P =
      on_test (eqb r q)
      (λ e. let z = eqb-true r q e in rw (z, row-there) (scores-in file x 1 (rw z at P)).0)
      (λ e. rw (row_other r (eqb-false r q e)) P)

  pub made-slot : {blocks : List (List (List ℕ))} (r : ℕ) → SlotIn file lists (held places blocks) r → SlotIn file lists (held places' blocks) r
  made-slot r S = record {
    sixteen = (ap length M.places-are ∙ length-set places q (set (get_or places q []) 8 1) ∙ n, S.sixteen.1);
    part-row = S.part-row;
    list = S.list;
    place = place-there (part_at lists r) r S.place;
  }

  made-bounds : get_or floats' 0 [] ≡ get_or floats 0 []
  made-bounds = ap (λ (z : List (List Float)). get_or z 0 []) M.floats-are ∙ get_or-set_other floats (2 + q) 0 (get_or floats' (2 + q) []) [] (λ z. omega (arith, z))

  pub made_kept : (r : ℕ) → BoundKept scoring file lists places (get_or floats 0 []) r → BoundKept scoring file lists places' (get_or floats' 0 []) r
  made_kept r K =
      let c = made-cursor r in
      rw made-bounds (kept-moved (list_at scoring file lists r) r
      (λ k. (sym (made-number 7 (λ z. omega (arith, z)) r) ∙ k, ap (λ (z : Cursor). z.blk) c, ap (λ (z : Cursor). z.loaded) c)) (λ e k. sym (made-number 9 (λ z. omega (arith, z)) r) ∙ k) K)

  scores-other : (r : ℕ) → (r ≡ q → ⊥) → get_or floats' (2 + r) [] ≡ get_or floats (2 + r) []
  scores-other r o =
      ap (λ (z : List (List Float)). get_or z (2 + r) []) M.floats-are ∙ get_or-set_other floats (2 + q) (2 + r) (get_or floats' (2 + q) []) [] (λ z. o (omega (arith, z)))

  pub made-scores : (r : ℕ) → ScoresKept scoring file lists places floats r → ScoresKept scoring file lists places' floats' r
  made-scores r S k =
      on_test (eqb r q)
      (λ e. let z = eqb-true r q e in rw (z, made-cursor q) M.scores)
      (λ e.
      let o = eqb-false r q e in
      rw (scores-other r o, made-cursor r) (S (sym (ap (λ (row : List ℕ). get_or row 8 0) (row_other r o)) ∙ k)))

  pub made-scored : Scored scoring file lists places' floats' q
  made-scored = rw (made-cursor q) M.scores

  -- so all that is kept of a slot still is
  pub kept-made : {norms : List (List Float)} {blocks : List (List (List ℕ))} (r : ℕ) → KeptSlot scoring file lists norms (held places blocks) floats r
      → KeptSlot scoring file lists norms (held places' blocks) floats' r
  kept-made r K = record {
    slot-in = K.slot-in;
    slot = made-slot r K.slot;
    weighed = K.weighed;
    bound = made_kept r K.bound;
    scores = made-scores r K.scores;
    top = K.top;
  }
