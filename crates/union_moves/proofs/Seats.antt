-- A move of one slot's scorer, seen from all the scorers of a union: the others stand as before, and the route's scorers with them.
use mathlib.Core.List.{List, [], ◌∷◌}
use mathlib.Core.Path.{ap, refl, subst, sym, ◌∙◌, ◌≡◌}
use Prim.Native.Nat.{ℕ, ◌+◌, ◌<◌}
use native.Mathlib.Omega.{arith}
use lib.ListN.{drop, get_or, length, length-set, set, take, take-append-drop}
use lib.Seq.{get_or-set_other, get_or-set_same, set-get_or}
use lib.Ieee.{Float}
use Rattle.arrays.specs.Every.{All}
use Rattle.route.specs.Cursor.{Cursor, block_max}
use Rattle.route.specs.F32.{f32}
use Rattle.route.specs.Scorer.{on_cur}
use Rattle.route.proofs.Lists.{all-imp, perm-eq}
use Rattle.bm25.specs.declared.Scoring.{Scoring}
use Rattle.ordering.specs.Inner.Scorers.{Apart, no_scorer}
use Rattle.term_scorer.specs.declared.TermScorer.{TermScorer}
use Rattle.ordering.proofs.Kept.{Kept, Off, kept-all, kept-apart, slots_apart}
use Rattle.ordering.proofs.OnRoute.{Fair, SameDoc}
use Rattle.ordering.proofs.Places.{all-at}
use Rattle.ordering.proofs.Turns.{SameOff, replaced-all, replaced-slots}
use Rattle.skip_reader.specs.Inner.Decoded.{doc_in, doc-is}
use Rattle.slot_rows.specs.Inner.Rows.{cursor_in}
use Rattle.term_scorer.specs.Inner.Slots.{Held, MovedSlot, SameRows, Shallowed, Sixteen, StandingIn, cursor_at, held, list_at, part_at}
use Rattle.term_scorer.specs.Inner.Weights.{FloatRows}
use Rattle.slot_bounds.specs.Inner.Bounds.{Bounded, SameCells}
use Rattle.term_scorer.proofs.Kept.{kept_row}
use Rattle.slot_bounds.proofs.Bounds.{bounded-cursor, bounded-off, bounded-sixteen, kept-bounded, kept-still}
use Rattle.term_scorer.proofs.Floats.{rows-set}
use Rattle.term_scorer.proofs.Slots as slots
use Rattle.union_moves.specs.Inner.Seats.{Carried, MaxScoreAt, Seat, Seated, Stand, Terms, scorer_at, terms}

-- ---- rows

row-off : {A : Type 0} (xs ys : List (List A)) (q r : ℕ) → ys ≡ set xs q (get_or ys q []) → (r ≡ q → ⊥) → get_or ys r [] ≡ get_or xs r []
row-off xs ys q r e n = ap (λ z. get_or z r []) e ∙ get_or-set_other xs q r (get_or ys q []) [] n

still-sixteen : {A : Type 0} (xs ys : List A) (q : ℕ) (y : A) → ys ≡ set xs q y → Sixteen xs → Sixteen ys
still-sixteen xs ys q y e h = ap length e ∙ length-set xs q y ∙ h

abbrev AllSixteen : Held → Type 0
AllSixteen h = Sixteen h.places × Sixteen h.blocks

-- the first of scorers in slots of their own
pub first-apart : (len : ℕ) (l : List TermScorer) → Apart l → Apart (take len l)
first-apart len l a =
    kept-apart {xs = l} {ys = take len l} (record { left_out = drop len l; perm = perm-eq (sym (take-append-drop len l)) }) a

module _ (file : List ℕ) (lists : List (List ℕ)) where
  -- a scorer that has all that a run keeps of it stands in its slot
  pub seat-stand : {T : Terms} {h : Held} {s : TermScorer} → Seat file lists T h s → Stand file lists h s
  seat-stand S = record { slot-in = S.kept.slot-in; slot = S.kept.slot; doc-is = S.doc-is }

  -- ---- scorers whose rows stay

  abbrev here : List ℕ → TermScorer → ℕ
  here row s = doc_in file (part_at lists s.slot) (cursor_in row).at

  stand-same : (h h' : Held) (s : TermScorer) → AllSixteen h' → SameRows h h' s.slot → Stand file lists h s → Stand file lists h' s
  stand-same h h' s n R S = record {
    slot-in = S.slot-in;
    slot = record { sixteen = n; part-row = S.slot.part-row; list = S.slot.list; place = rw (R.place, R.block) S.slot.place };
    doc-is = S.doc-is ∙ ap (λ (row : List ℕ). here row s) (sym R.place);
  }

  seat-same : (T : Terms) (floats' : List (List Float)) (h h' : Held) (s : TermScorer) → AllSixteen h' → SameRows h h' s.slot
      → SameCells s.slot (get_or T.floats 0 []) (get_or floats' 0 []) → get_or floats' (2 + s.slot) [] ≡ get_or T.floats (2 + s.slot) []
      → Seat file lists T h s → Seat file lists (terms T.scoring T.norms floats') h' s
  seat-same T floats' h h' s n R e m S = record {
    kept = kept-still S.kept n R e m;
    doc-is = S.doc-is ∙ ap (λ (row : List ℕ). here row s) (sym R.place);
    max-is = S.max-is;
  }

  -- ---- the scorer that moves

  module _ {q : ℕ} {to : Scoring → Cursor} {h h' : Held} {doc : ℕ} (M : MovedSlot file lists q to h h' doc) where
    pub others-rows : (r : ℕ) → (r ≡ q → ⊥) → SameRows h h' r
    others-rows r n = record {
      place = row-off h.places h'.places q r M.places-only n;
      block = row-off h.blocks h'.blocks q r M.blocks-only n;
    }

    moved-sixteen : AllSixteen h → AllSixteen h'
    moved-sixteen (p, b) = (
      still-sixteen h.places h'.places q (get_or h'.places q []) M.places-only p,
      still-sixteen h.blocks h'.blocks q (get_or h'.blocks q []) M.blocks-only b,
    )

    pub same-off : (scoring : Scoring) → SameOff q (scorer_at file lists scoring h.places) (scorer_at file lists scoring h'.places)
    same-off scoring s o =
        ap (λ (row : List ℕ). record { ord = s.slot; list = list_at scoring file lists s.slot; cur = cursor_in row }) (others-rows s.slot o).place

  module _ (s : TermScorer) {to : Scoring → Cursor} {h h' : Held} {doc : ℕ} (M : MovedSlot file lists s.slot to h h' doc) where
    abbrev s' : TermScorer
    s' = record { doc = doc; max_score = s.max_score; slot = s.slot }

    pub moved-stand : Stand file lists h s → Stand file lists h' s'
    moved-stand S = record {
      slot-in = S.slot-in;
      slot = record { sixteen = moved-sixteen M S.slot.sixteen; part-row = S.slot.part-row; list = S.slot.list; place = M.moved.place };
      doc-is = M.moved.doc-is;
    }

    moved-seat : (T : Terms) → Seat file lists T h s → Seat file lists T h' s'
    moved-seat T S = record { kept = kept_row (moved-sixteen M S.kept.slot.sixteen) M.moved S.kept; doc-is = M.moved.doc-is; max-is = S.max-is }

    -- the route's scorer has moved
    pub scorer-is : (scoring : Scoring) → scorer_at file lists scoring h'.places s' ≡ on_cur (scorer_at file lists scoring h.places s) (to scoring)
    scorer-is scoring = ap (λ (c : Cursor). record { ord = s.slot; list = list_at scoring file lists s.slot; cur = c }) (M.moved.cursor-is scoring)

  -- a scorer stands on its document, as the route's does
  pub same-doc : (scoring : Scoring) (h : Held) (s : TermScorer) → Stand file lists h s → SameDoc (scorer_at file lists scoring h.places) s
  same-doc scoring h s S = doc-is file (part_at lists s.slot) scoring (cursor_at h.places s.slot).at ∙ sym S.doc-is

  -- where its skip reader stands
  pub standing-in : (h : Held) (s : TermScorer) → Stand file lists h s → StandingIn file lists h.places s.slot
  standing-in h s S = slots.standing-in S.slot

  -- ---- the scorer whose skip reader moves, and whose bound is then known

  module _ (s : TermScorer) (blocks : List (List (List ℕ))) {to : Scoring → Cursor} {places places₁ : List (List ℕ)}
      (M : Shallowed file lists s.slot to places places₁) where
    -- the decoded block stays
    shallow-moved : Stand file lists (held places blocks) s
        → MovedSlot file lists s.slot to (held places blocks) (held places₁ blocks) (doc_in file (part_at lists s.slot) (cursor_at places s.slot).at)
    shallow-moved S = record {
      places-only = M.only;
      blocks-only = sym (set-get_or blocks s.slot []);
      moved = M.moved (get_or blocks s.slot []) S.slot.place;
    }

    pub shallow-seat : (T : Terms) → Seat file lists T (held places blocks) s → Seat file lists T (held places₁ blocks) s
    shallow-seat T S =
        let N = shallow-moved (seat-stand S) in
        record { kept = (moved-seat s N T S).kept; doc-is = S.doc-is ∙ N.moved.doc-is; max-is = S.max-is }

    module _ (T : Terms) {places₂ : List (List ℕ)} {bounds₂ : List Float} {r : Float} (B : Bounded T.scoring file lists s.slot places₁ (get_or T.floats 0 []) places₂ bounds₂ r)
        (S : Seat file lists T (held places blocks) s) (n : FloatRows T.floats) where
      abbrev floats₂ : List (List Float)
      floats₂ = set T.floats 0 bounds₂

      -- the row of bounds is written, and no other
      bounds-there : get_or floats₂ 0 [] ≡ bounds₂
      bounds-there = get_or-set_same T.floats 0 bounds₂ [] (omega (arith, n.eighteen))

      scores-there : (q : ℕ) → get_or floats₂ (2 + q) [] ≡ get_or T.floats (2 + q) []
      scores-there q = get_or-set_other T.floats 0 (2 + q) bounds₂ [] (λ z. omega (arith, z))

      seat₁ : Seat file lists T (held places₁ blocks) s
      seat₁ = shallow-seat T S

      cursor₂ : cursor_at places₂ s.slot ≡ cursor_at places₁ s.slot
      cursor₂ = bounded-cursor seat₁.kept B

      sixteen₂ : AllSixteen (held places₂ blocks)
      sixteen₂ = let l = seat₁.kept.slot.sixteen in (bounded-sixteen B l.0, l.1)

      pub bounded-seat : Seat file lists (terms T.scoring T.norms floats₂) (held places₂ blocks) s
      bounded-seat = record {
        kept = kept-bounded seat₁.kept B n;
        doc-is = seat₁.doc-is ∙ ap (λ (c : Cursor). doc_in file (part_at lists s.slot) c.at) (sym cursor₂);
        max-is = seat₁.max-is;
      }

      -- the other slots
      other-rows : (z : ℕ) → (z ≡ s.slot → ⊥) → SameRows (held places blocks) (held places₂ blocks) z
      other-rows z o = record { place = bounded-off B z o ∙ row-off places places₁ s.slot z M.only o; block = refl }

      pub other-seat : (z : TermScorer) → Off s.slot z → Seat file lists T (held places blocks) z → Seat file lists (terms T.scoring T.norms floats₂) (held places₂ blocks) z
      other-seat z o R =
          seat-same T floats₂ (held places blocks) (held places₂ blocks) z sixteen₂ (other-rows z.slot o)
          (subst (SameCells z.slot (get_or T.floats 0 [])) (sym bounds-there) (B.others z.slot R.kept.slot-in o)) (scores-there z.slot) R

      pub bounded-rows : FloatRows floats₂
      bounded-rows = rows-set 0 bounds₂ n (omega arith) (B.long ∙ n.row 0 (omega arith))

      pub other-scorers : SameOff s.slot (scorer_at file lists T.scoring places) (scorer_at file lists T.scoring places₂)
      other-scorers z o =
          ap (λ (row : List ℕ). record { ord = z.slot; list = list_at T.scoring file lists z.slot; cur = cursor_in row }) (other-rows z.slot o).place

      -- the route's scorer has sought, and the bound is its block's
      pub shallow-scorer : scorer_at file lists T.scoring places₂ s ≡ on_cur (scorer_at file lists T.scoring places s) (to T.scoring)
      shallow-scorer =
          ap (λ (c : Cursor). record { ord = s.slot; list = list_at T.scoring file lists s.slot; cur = c })
          (cursor₂ ∙ (shallow-moved (seat-stand S)).moved.cursor-is T.scoring)

      pub bound-here : r ≡ block_max 128 f32 (list_at T.scoring file lists s.slot) (to T.scoring)
      bound-here = B.bound-is ∙ ap (block_max 128 f32 (list_at T.scoring file lists s.slot)) ((shallow-moved (seat-stand S)).moved.cursor-is T.scoring)

  -- ---- all scorers

  pub seats-stand : (T : Terms) (h : Held) (l : List TermScorer) → All (Seat file lists T h) l → All (Stand file lists h) l
  seats-stand T h l a = all-imp (Seat file lists T h) (Stand file lists h) l (λ _ s. seat-stand s) a

  -- on their documents, with their list bounds
  pub fair : (scoring : Scoring) (h : Held) (l : List TermScorer) → All (Stand file lists h) l → All (MaxScoreAt file lists scoring) l
      → All (Fair (scorer_at file lists scoring h.places)) l
  fair scoring h [] a b = tt
  fair scoring h (y ∷ ys) a b = (record { doc-is = same-doc scoring h y a.0; max-is = b.0 }, fair scoring h ys a.1 b.1)

  pub carried-refl : (h : Held) (l : List TermScorer) → Apart l → All (Stand file lists h) l → Carried file lists h l h l
  carried-refl h l apart a = record { stands = a; apart = apart; seats = λ T s. s }

  pub carried-trans : {h h' h'' : Held} {l l' l'' : List TermScorer} → Carried file lists h l h' l' → Carried file lists h' l' h'' l'' → Carried file lists h l h'' l''
  carried-trans C D = record {
    stands = D.stands;
    apart = D.apart;
    seats = λ T s. D.seats T (C.seats T s);
  }

  -- scorers that are seated still are
  pub still-seated : {T : Terms} {h h' : Held} {l l' : List TermScorer} → Seated file lists T h l → Carried file lists h l h' l' → Seated file lists T h' l'
  still-seated {T} S C = record { seats = C.seats T S.seats; apart = C.apart; rows = S.rows }

  -- some of them, in another order
  pub carried-kept : (h : Held) {l l' : List TermScorer} → Kept l' l → Apart l → All (Stand file lists h) l → Carried file lists h l h l'
  carried-kept h k apart a = record {
    stands = kept-all (Stand file lists h) k a;
    apart = kept-apart k apart;
    seats = λ T s. kept-all (Seat file lists T h) k s;
  }

  -- the one at place i has moved in its slot
  module _ (l : List TermScorer) (i : ℕ) (inside : i < length l) (apart : Apart l) {to : Scoring → Cursor} {h h' : Held} {doc : ℕ}
      (M : MovedSlot file lists (get_or l i no_scorer).slot to h h' doc) (a : All (Stand file lists h) l) where
    abbrev x : TermScorer
    x = get_or l i no_scorer

    abbrev x' : TermScorer
    x' = record { doc = doc; max_score = x.max_score; slot = x.slot }

    pub carried-move : Carried file lists h l h' (set l i x')
    carried-move =
        let S = all-at (Stand file lists h) l i no_scorer inside a in
        let slots = replaced-slots l i x' refl in
        let n = moved-sixteen M S.slot.sixteen in
        record {
          stands = replaced-all l i x' inside apart (Stand file lists h) (Stand file lists h') (λ s o R. stand-same h h' s n (others-rows M s.slot o) R) (moved-stand x M S) a;
          apart = slots_apart l (set l i x') slots apart;
          seats = λ T s. replaced-all l i x' inside apart (Seat file lists T h) (Seat file lists T h')
              (λ z o R. seat-same T T.floats h h' z n (others-rows M z.slot o) (record { bound = refl; ahead = λ k u. refl }) refl R) (moved-seat x M T (all-at (Seat file lists T h) l i no_scorer inside s)) s;
        }
