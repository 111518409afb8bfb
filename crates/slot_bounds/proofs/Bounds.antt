-- Block bounds by slot: those that are known, those that stand ready, and what is left where one is found.
use Rattle.std.specs.Prelude.{Option, Some, None}
use mathlib.Core.Path.{◌≡◌, refl, sym, ap, ◌∙◌, subst}
use mathlib.Core.Bool.{Bool, true, false, cond, ◌||◌}
use mathlib.Core.List.{List, []}
use mathlib.Core.Logic.{inl, inr}
use Prim.Native.Nat.{ℕ, ◌+◌, ◌-◌, ◌*◌, ◌≤◌, ◌<◌}
use native.Mathlib.Nat.{add-zero}
use native.Mathlib.Omega.{arith}
use lib.Dec.{eqb, ltb}
use lib.ListN.{get_or, length, length-set, set}
use lib.Seq.{get_or-set_other, get_or-set_same, set-get_or, set-set}
use lib.Ieee.{Float, nan}
use borrow.Author.Tests.{eqb-true, le-ltb, lt-ltb}
use Rattle.arrays.proofs.Order.{lt-or-ge}
use Rattle.route.specs.Cursor.{block_max}
use Rattle.route.specs.F32.{f32}
use Rattle.route.specs.Postings.{Postings}
use Rattle.route.proofs.Cases.{by-test}
use Rattle.bm25.specs.declared.Scoring.{Scoring}
use Rattle.notefile.specs.Lists.{full_blocks}
use Rattle.notefile.specs.declared.part.Part.{Part}
use Rattle.decoded.specs.Lists.{list_of}
use Rattle.posting_bounds.specs.Inner.Bounds.{BoundsAhead}
use Rattle.postings.specs.Inner.Places.{cursor_of}
use Rattle.postings.specs.declared.cursor.SegmentPostings.{SegmentPostings}
use Rattle.slot_rows.specs.Inner.Rows.{cursor_in, part_in, postings_in, PlaceIn}
use Rattle.slot_rows.proofs.Rows.{ahead_in, bound-in, cursor-is}
use Rattle.term_scorer.specs.Inner.Slots.{cursor_at, held, Held, list_at, part_at, SameRows, Sixteen}
use Rattle.term_scorer.specs.Inner.Weights.{BoundKept, FloatRow, FloatRows, KeptBounds, KeptSlot, ReadyUpTo}
use Rattle.slot_bounds.specs.Inner.Bounds.{block_max_at, Bounded, Readied, SameCells}

-- ---- what is kept of a scorer where another's bound was found

module _ (l : Postings Float) (q : ℕ) {bounds : List Float} where
  pub kept_same : {row row' : List ℕ} {bounds' : List Float} → row' ≡ row → SameCells q bounds bounds' → KeptBounds l q row bounds → KeptBounds l q row' bounds'
  kept_same {row} {bounds' = bounds'} e C K = subst (λ (z : List ℕ). KeptBounds l q z bounds') (sym e) (record {
    known = λ k. C.bound ∙ K.known k;
    ready = λ b u v w. C.ahead (b + 7 - get_or row 9 0) (omega arith) ∙ K.ready b u v w;
  })

-- ---- the cells of a slot

-- a bound of a present block is written
module _ (bounds : List Float) (q : ℕ) (hq : q < 16) (v : Float) where
  set-others : (p : ℕ) → (p ≡ q → ⊥) → SameCells p bounds (set bounds q v)
  set-others p n = record { bound = get_or-set_other bounds q p v nan n; ahead = λ k h. get_or-set_other bounds q (16 + 7 * p + k) v nan (λ z. omega arith) }

  set-ready : (l : Postings Float) (e : ℕ) → ReadyUpTo l q e bounds → ReadyUpTo l q e (set bounds q v)
  set-ready l e R b u w x = get_or-set_other bounds q (16 + 7 * q + (b + 7 - e)) v nan (λ z. omega arith) ∙ R b u w x

-- those of slot q that stand ready are written
ahead-others : {l : Postings Float} {b q : ℕ} {bounds bounds' : List Float} → BoundsAhead l b (16 + 7 * q) bounds bounds' → (p : ℕ) → p < 16 → (p ≡ q → ⊥) → SameCells p bounds bounds'
ahead-others {q = q} A p h n = record {
  bound = A.below p (omega arith);
  ahead = λ k u. elim (lt-or-ge p q) [
    | inl v ↦ A.below (16 + 7 * p + k) (omega arith)
    | inr v ↦ A.behind (16 + 7 * p + k) (let w : q < p = omega (arith, v, n) in omega arith)
  ];
}

same-others : {p : ℕ} (bounds : List Float) → SameCells p bounds bounds
same-others bounds = record { bound = refl; ahead = λ k h. refl }

then-others : {p : ℕ} {a b c : List Float} → SameCells p a b → SameCells p b c → SameCells p a c
then-others S T = record { bound = T.bound ∙ S.bound; ahead = λ k h. T.ahead k h ∙ S.ahead k h }

-- ---- a bound is found

module _ (scoring : Scoring) (file : List ℕ) (lists : List (List ℕ)) (q : ℕ) (places : List (List ℕ)) (bounds : List Float) where
  abbrev l : Postings Float
  l = list_at scoring file lists q

  abbrev row : List ℕ
  row = get_or places q []

  abbrev kept : Bool
  kept = ltb (cursor_at places q).blk (full_blocks (part_at lists q)) || (cursor_at places q).loaded

  same-places : places ≡ set places q (set row 9 (get_or row 9 0))
  same-places = sym (ap (set places q) (set-get_or row 9 0) ∙ set-get_or places q [])

  told-places : (k : ℕ) → k ≡ get_or row 7 0 → places ≡ set places q (set (set row 9 (get_or row 9 0)) 7 k)
  told-places k e =
      sym (ap (λ (z : ℕ). set places q (set (set row 9 (get_or row 9 0)) 7 z)) e ∙ ap (λ (z : List ℕ). set places q (set z 7 (get_or row 7 0))) (set-get_or row 9 0)
      ∙ ap (set places q) (set-get_or row 7 0) ∙ set-get_or places q [])

  module _ {block : ℕ} (here : block ≡ (cursor_at places q).blk) (full : block < full_blocks (part_at lists q)) where
    -- a full block's, which stood ready
    pub ready-known : BoundKept scoring file lists places bounds q → block < get_or row 9 0 → get_or row 9 0 ≤ block + 7
        → Readied scoring file lists q places bounds places bounds (get_or bounds (16 + 7 * q + (block + 7 - get_or row 9 0)) nan)
    unfolding list_of
    ready-known K u v = record {
      end = get_or row 9 0;
      bound-is = K.ready block u v full ∙ ap l.bound here;
      places-are = same-places;
      ready = K.ready;
      others = λ p h n. same-others bounds;
      long = refl;
    }

    -- one that was worked out, with those that follow it
    pub ready-new : {x : Part} → x ≡ part_at lists q → {bounds' : List Float} → BoundsAhead (list_of scoring file x) block (16 + 7 * q) bounds bounds'
        → Readied scoring file lists q places bounds (set places q (set row 9 (block + 7))) bounds' (get_or bounds' (16 + 7 * q) nan)
    unfolding list_of
    ready-new e {bounds'} B =
        let A = subst (λ (z : Part). BoundsAhead (list_of scoring file z) block (16 + 7 * q) bounds bounds') e B in
        record {
          end = block + 7;
          bound-is = ap (λ (z : ℕ). get_or bounds' z nan) (sym (add-zero (16 + 7 * q))) ∙ A.bound_at 0 (omega arith) (omega arith) ∙ ap l.bound (add-zero block ∙ here);
          places-are = refl;
          ready = λ b u v w.
              let k : b ≡ block + (b - block) = omega arith in
              ap (λ (z : ℕ). get_or bounds' (16 + 7 * q + z) nan) (omega arith) ∙ A.bound_at (b - block) (omega arith) (omega arith) ∙ ap l.bound (sym k);
          others = ahead-others A;
          long = A.long;
        }

    -- it is known from now on
    pub bound-full : q < 16 → Sixteen places → FloatRow bounds → {places₁ : List (List ℕ)} {bounds₁ : List Float} {r : Float}
        → Readied scoring file lists q places bounds places₁ bounds₁ r
        → Bounded scoring file lists q places bounds (set places₁ q (set (get_or places₁ q []) 7 1)) (set bounds₁ q r) r
    unfolding list_of
    bound-full hq lp lb {places₁} {bounds₁} {r} R =
        let row₁ : get_or places₁ q [] ≡ set row 9 R.end = ap (λ (z : List (List ℕ)). get_or z q []) R.places-are ∙ get_or-set_same places q _ [] (omega arith) in
        record {
          flag = 1;
          end = R.end;
          bound-is = R.bound-is ∙ sym (rw (lt-ltb (cursor_at places q).blk (full_blocks (part_at lists q)) (omega arith)));
          places-are = ap (λ (z : List ℕ). set places₁ q (set z 7 1)) row₁ ∙ ap (λ (z : List (List ℕ)). set z q (set (set row 9 R.end) 7 1)) R.places-are
              ∙ set-set places q (set row 9 R.end) (set (set row 9 R.end) 7 1);
          bound-there = get_or-set_same bounds₁ q r nan (let e = R.long in omega arith);
          ready = set-ready bounds₁ q hq r l R.end R.ready;
          others = λ p h n. then-others (R.others p h n) (set-others bounds₁ q hq r p n);
          long = length-set bounds₁ q r ∙ R.long;
          flag_is = sym (rw (lt-ltb (cursor_at places q).blk (full_blocks (part_at lists q)) (omega arith)));
        }

  -- one that was known
  pub bound-known : get_or row 7 0 ≡ 1 → BoundKept scoring file lists places bounds q → Bounded scoring file lists q places bounds places bounds (get_or bounds q nan)
  bound-known k K = record {
    flag = get_or row 7 0;
    end = get_or row 9 0;
    bound-is = K.known k;
    places-are = told-places (get_or row 7 0) refl;
    bound-there = refl;
    ready = K.ready;
    others = λ p h n. same-others bounds;
    long = refl;
    flag_is = by-test (λ z. get_or row 7 0 ≡ z) kept 1 (get_or row 7 0) (λ _. k) (λ _. refl);
  }

  -- the same, by what the slot keeps
  pub bound-cached : BoundKept scoring file lists places bounds q → {bound : Float} {r : Option Float} → r ≡ block_max_at places bounds q → r ≡ Some bound
      → Bounded scoring file lists q places bounds places bounds bound
  bound-cached K {bound} c e =
      by-test (λ (z : Option Float). z ≡ Some bound → Bounded scoring file lists q places bounds places bounds bound) (eqb (get_or row 7 0) 1) (Some (get_or bounds q nan)) None
      (λ k f. let same : get_or bounds q nan ≡ bound = cc in subst (Bounded scoring file lists q places bounds places bounds) same (bound-known (eqb-true (get_or row 7 0) 1 k) K))
      (λ _ f. cc) (sym c ∙ e)

  -- a tail's
  module _ (hq : q < 16) (lb : FloatRow bounds) (K : BoundKept scoring file lists places bounds q) (tail : full_blocks (part_at lists q) ≤ (cursor_at places q).blk)
      {r : Float} (F : r ≡ block_max 128 f32 (list_at scoring file lists q) (cursor_at places q)) where
    found : (k : ℕ) (places' : List (List ℕ)) → places' ≡ set places q (set (set row 9 (get_or row 9 0)) 7 k) → k ≡ cond (cursor_at places q).loaded 1 (get_or row 7 0)
        → Bounded scoring file lists q places bounds places' (set bounds q r) r
    found k places' e f = record {
      flag = k;
      end = get_or row 9 0;
      bound-is = F;
      places-are = e;
      bound-there = get_or-set_same bounds q r nan (omega arith);
      ready = set-ready bounds q hq r l (get_or row 9 0) K.ready;
      others = λ p h n. set-others bounds q hq r p n;
      long = length-set bounds q r;
      flag_is = f ∙ sym (rw (le-ltb (cursor_at places q).blk (full_blocks (part_at lists q)) tail));
    }

    -- which is loaded
    pub bound-lasting : (cursor_at places q).loaded ≡ true → Bounded scoring file lists q places bounds (set places q (set row 7 1)) (set bounds q r) r
    bound-lasting e = found 1 _ (ap (λ (z : List ℕ). set places q (set z 7 1)) (sym (set-get_or row 9 0))) (sym (ap (λ (b : Bool). cond b 1 (get_or row 7 0)) e))

    -- which is not
    pub bound-passing : (cursor_at places q).loaded ≡ false → Bounded scoring file lists q places bounds places (set bounds q r) r
    bound-passing e = found (get_or row 7 0) _ (told-places (get_or row 7 0) refl) (sym (ap (λ (b : Bool). cond b 1 (get_or row 7 0)) e))

-- a bound of the place that a row stands for is the row's
pub tail-found : (scoring : Scoring) (file list row : List ℕ) {y : Part} → y ≡ part_in list → {p : SegmentPostings} → p ≡ postings_in file y row
    → {score : Float} → score ≡ block_max 128 f32 (list_of scoring file y) (cursor_of p) → score ≡ block_max 128 f32 (list_of scoring file (part_in list)) (cursor_in row)
unfolding cursor_in postings_in
tail-found scoring file list row part-is {p} place_is score-is =
    let q = subst (λ (z : Part). p ≡ postings_in file z row) part-is place_is in
    score-is ∙ ap (λ (z : Part). block_max 128 f32 (list_of scoring file z) (cursor_of p)) part-is ∙ ap (block_max 128 f32 (list_of scoring file (part_in list))) (ap cursor_of q ∙ cursor-is file (part_in list) row)

-- ---- a bound that was found, seen from all slots

module _ {scoring : Scoring} {file : List ℕ} {lists : List (List ℕ)} {q : ℕ} {places : List (List ℕ)} {bounds : List Float} {places' : List (List ℕ)} {bounds' : List Float} {r : Float}
    (B : Bounded scoring file lists q places bounds places' bounds' r) where
  pub bounded-sixteen : Sixteen places → Sixteen places'
  bounded-sixteen h = ap length B.places-are ∙ length-set places q _ ∙ h

  pub bounded-off : (p : ℕ) → (p ≡ q → ⊥) → get_or places' p [] ≡ get_or places p []
  bounded-off p n = ap (λ (z : List (List ℕ)). get_or z p []) B.places-are ∙ get_or-set_other places q p _ [] n

  module _ (hq : q < 16) (lp : Sixteen places) where
    row-there : get_or places' q [] ≡ set (set (get_or places q []) 9 B.end) 7 B.flag
    row-there = ap (λ (z : List (List ℕ)). get_or z q []) B.places-are ∙ get_or-set_same places q _ [] (omega arith)

    -- its scorer stands where it stood
    pub bounded-place : {block : List (List ℕ)} → PlaceIn file (part_at lists q) (get_or places q []) block
        → PlaceIn file (part_at lists q) (get_or places' q []) block × (cursor_at places' q ≡ cursor_at places q)
    bounded-place P =
        let A = ahead_in file (part_at lists q) B.end P in
        let C = bound-in file (part_at lists q) B.flag A.0 in
        (rw row-there C.0, ap cursor_in row-there ∙ C.1 ∙ A.1)

    -- and has the scores that it had
    pub bounded-scores : get_or (get_or places' q []) 8 0 ≡ get_or (get_or places q []) 8 0
    bounded-scores = ap (λ (z : List ℕ). get_or z 8 0) row-there ∙ get_or-set_other (set (get_or places q []) 9 B.end) 7 8 B.flag 0 (λ z. omega (arith, z))
        ∙ get_or-set_other (get_or places q []) 9 8 B.end 0 (λ z. omega (arith, z))

    -- its bound is kept
    pub bounded-kept : {block : List (List ℕ)} → PlaceIn file (part_at lists q) (get_or places q []) block → BoundKept scoring file lists places' bounds' q
    bounded-kept P =
        let n = ap length P.standing.row_is in
        let e : get_or (get_or places' q []) 9 0 ≡ B.end =
        ap (λ (z : List ℕ). get_or z 9 0) row-there ∙ get_or-set_other (set (get_or places q []) 9 B.end) 7 9 B.flag 0 (λ z. omega (arith, z)) ∙ get_or-set_same (get_or places q []) 9 B.end 0 (omega (arith, n)) in
        record {
          known = λ _. B.bound-there ∙ B.bound-is ∙ ap (block_max 128 f32 (list_at scoring file lists q)) (sym (bounded-place P).1);
          ready = subst (λ (z : ℕ). ReadyUpTo (list_at scoring file lists q) q z bounds') (sym e) B.ready;
        }

    -- and those of the others are
    pub others-kept : (p : ℕ) → p < 16 → (p ≡ q → ⊥) → BoundKept scoring file lists places bounds p → BoundKept scoring file lists places' bounds' p
    others-kept p h n K = kept_same (list_at scoring file lists p) p (bounded-off p n) (B.others p h n) K

module _ {scoring : Scoring} {file : List ℕ} {lists : List (List ℕ)} {norms : List (List Float)} {h : Held} {floats : List (List Float)} {q : ℕ}
    (K : KeptSlot scoring file lists norms h floats q) where
  -- what is kept of a slot whose rows and cells stay
  pub kept-still : {h' : Held} {floats' : List (List Float)} → Sixteen h'.places × Sixteen h'.blocks → SameRows h h' q
      → SameCells q (get_or floats 0 []) (get_or floats' 0 []) → get_or floats' (2 + q) [] ≡ get_or floats (2 + q) [] → KeptSlot scoring file lists norms h' floats' q
  kept-still n S C e = record {
    slot-in = K.slot-in;
    slot = record { sixteen = n; part-row = K.slot.part-row; list = K.slot.list; place = rw (S.place, S.block) K.slot.place };
    weighed = K.weighed;
    bound = kept_same (list_at scoring file lists q) q S.place C K.bound;
    scores = λ k. rw (e, S.place) (K.scores (sym (ap (λ (row : List ℕ). get_or row 8 0) S.place) ∙ k));
    top = K.top;
  }

  -- its block's bound is found
  module _ {places' : List (List ℕ)} {bounds : List Float} {r : Float} (B : Bounded scoring file lists q h.places (get_or floats 0 []) places' bounds r) where
    pub bounded-cursor : cursor_at places' q ≡ cursor_at h.places q
    bounded-cursor = (bounded-place B K.slot-in K.slot.sixteen.0 K.slot.place).1

    pub kept-bounded : FloatRows floats → KeptSlot scoring file lists norms (held places' h.blocks) (set floats 0 bounds) q
    kept-bounded F =
        let s = K.slot.sixteen in
        let there : get_or (set floats 0 bounds) 0 [] ≡ bounds = get_or-set_same floats 0 bounds [] (omega (arith, F.eighteen)) in
        let other : get_or (set floats 0 bounds) (2 + q) [] ≡ get_or floats (2 + q) [] = get_or-set_other floats 0 (2 + q) bounds [] (λ e. omega (arith, e)) in
        record {
          slot-in = K.slot-in;
          slot = record {
            sixteen = (bounded-sixteen B s.0, s.1);
            part-row = K.slot.part-row;
            list = K.slot.list;
            place = (bounded-place B K.slot-in s.0 K.slot.place).0;
          };
          weighed = K.weighed;
          bound = subst (KeptBounds (list_at scoring file lists q) q (get_or places' q [])) (sym there) (bounded-kept B K.slot-in s.0 K.slot.place);
          scores = λ k. rw (other, bounded-cursor) (K.scores (sym (bounded-scores B K.slot-in s.0) ∙ k));
          top = K.top;
        }
