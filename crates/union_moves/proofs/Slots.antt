-- The scorers that stand in slots: what the tables hold of them is what their structs say, and a move of one changes it alone.
use mathlib.Core.List.{List, [], ◌∷◌, map}
use mathlib.Core.Path.{ap, refl, sym, ◌∙◌, ◌≡◌}
use Prim.Native.Nat.{ℕ, zero, suc, ◌≤◌, ◌<◌}
use native.Mathlib.Omega.{arith}
use lib.ListN.{get_or, length, set, take}
use lib.Seq.{take-take}
use lib.Ieee.{Float}
use Rattle.arrays.specs.Every.{All}
use Rattle.route.specs.Cursor.{Cursor}
use Rattle.route.proofs.Lists.{all-imp}
use Rattle.bm25.specs.declared.Scoring.{Scoring}
use Rattle.std.specs.Prelude.{Option}
use Rattle.ordering.specs.declared.Pivot.{Pivot}
use Rattle.ordering.specs.Inner.Pivots.{pivot_of}
use Rattle.ordering.specs.Inner.Scorers.{Apart, by_doc, slot_of}
use Rattle.term_scorer.specs.declared.TermScorer.{TermScorer}
use Rattle.ordering.proofs.Carried.{SameKey}
use Rattle.ordering.proofs.Kept.{Off}
use Rattle.ordering.proofs.Places.{all-at, all_take, map-take}
use Rattle.skip_reader.specs.Inner.Decoded.{doc_in}
use Rattle.slot_rows.specs.Inner.Rows.{cursor_in, postings_in}
use Rattle.slot_rows.proofs.Rows.{doc-in-array}
use Rattle.term_scorer.specs.Inner.Slots.{cursor_at, Held, list_at, part_at, MovedSlot}
use Rattle.term_scorer.specs.Inner.Weights.{top_at, TopKept, TopRead}
use Rattle.ordering.specs.Inner.Rows.{Readable, doc_at}
use Rattle.slot_pivot.specs.Inner.Terms.{term_in}
use Rattle.union_moves.specs.Inner.Seats.{Lined, MaxScoreAt, Seat, Seated, Stand, Terms, term_at, terms_of}
use Rattle.union_moves.proofs.Seats.{others-rows}

pub all-unmap : {A B : Type 0} (P : B → Type 0) (g : A → B) (xs : List A) → All P (map g xs) → All (λ x. P (g x)) xs
all-unmap P g [] a = tt
all-unmap P g (x ∷ xs) a = (a.0, all-unmap P g xs a.1)

pub map-map : {A B C : Type 0} (g : B → C) (f : A → B) (xs : List A) → map g (map f xs) ≡ map (λ x. g (f x)) xs
map-map g f [] = refl
map-map g f (x ∷ xs) = ap (λ z. g (f x) ∷ z) (map-map g f xs)

-- of the first n slots, the first len
pub first-of : (P : ℕ → Type 0) (n len : ℕ) (order : List ℕ) → len ≤ n → All P (take n order) → All P (take len order)
first-of P n len order h a = rw (take-take len n order h) at (all_take P len (take n order) a)

module _ (file : List ℕ) (lists : List (List ℕ)) where
  abbrev term : Scoring → Held → ℕ → TermScorer
  term s h = term_at file lists s h.places

  abbrev here : Scoring → Held → List ℕ → List TermScorer
  here s h = terms_of file lists s h.places

  pub slots-of : (s : Scoring) (places : List (List ℕ)) (qs : List ℕ) → map slot_of (terms_of file lists s places qs) ≡ qs
  slots-of s places [] = refl
  slots-of s places (q ∷ qs) = ap (λ z. q ∷ z) (slots-of s places qs)

  -- ---- what the tables hold

  pub readable : (s : Scoring) (h : Held) (q : ℕ) → Stand file lists h (term s h q) → Readable h.places q
  unfolding postings_in
  readable s h q S = record { slot-in = S.slot-in; inside = S.slot.place.placed.inside }

  pub readables : (s : Scoring) (h : Held) (qs : List ℕ) → All (Stand file lists h) (here s h qs) → All (Readable h.places) qs
  readables s h [] a = tt
  readables s h (q ∷ qs) a = (readable s h q a.0, readables s h qs a.1)

  -- the document that is read is the place's
  doc-read : (s : Scoring) (h : Held) (q : ℕ) → Stand file lists h (term s h q)
      → doc_in file (part_at lists q) (cursor_at h.places q).at ≡ doc_at h.places h.blocks q
  doc-read s h q S = doc-in-array file (get_or lists q []) (get_or h.places q []) S.slot.list S.slot.place

  pub doc-known : (s : Scoring) (h : Held) (q : ℕ) → Stand file lists h (term s h q) → {d : ℕ} → d ≡ doc_at h.places h.blocks q
      → d ≡ doc_in file (part_at lists q) (cursor_at h.places q).at
  doc-known s h q S e = e ∙ sym (doc-read s h q S)

  pub same_keys : (s : Scoring) (h : Held) (qs : List ℕ) → All (Stand file lists h) (here s h qs)
      → All (SameKey (doc_at h.places h.blocks) by_doc (term s h)) qs
  same_keys s h [] a = tt
  same_keys s h (q ∷ qs) a = (doc-read s h q a.0, same_keys s h qs a.1)

  pub terms-read : (s : Scoring) (h : Held) (qs : List ℕ) → All (Stand file lists h) (here s h qs) → All (TopKept s file lists) qs
      → map (term_in lists h.places h.blocks) qs ≡ here s h qs
  terms-read s h [] a b = refl
  terms-read s h (q ∷ qs) a b =
      let e : term_in lists h.places h.blocks q ≡ term s h q =
      ap (λ (x : ℕ). record { doc = x; max_score = top_at lists q; slot = q }) (sym (doc-read s h q a.0))
      ∙ ap (λ (x : Float). record { doc = doc_in file (part_at lists q) (cursor_at h.places q).at; max_score = x; slot = q }) b.0.top-is in
      let t = terms-read s h qs a.1 b.1 in
      rw (e, t)

  -- of a row's first n slots
  pub scorers-read : (s : Scoring) (h : Held) (n : ℕ) (order : List ℕ) → All (Stand file lists h) (here s h (take n order)) → All (TopKept s file lists) (take n order)
      → take n (map (term_in lists h.places h.blocks) order) ≡ here s h (take n order)
  scorers-read s h n order a b = sym (map-take (term_in lists h.places h.blocks) n order) ∙ terms-read s h (take n order) a b

  -- so the pivot is theirs
  pub pivot-read : (t : Float) (s : Scoring) (h : Held) (n : ℕ) (order : List ℕ) → All (Stand file lists h) (here s h (take n order)) → All (TopKept s file lists) (take n order)
      → {p : Option Pivot} → p ≡ pivot_of t (take n (map (term_in lists h.places h.blocks) order)) → p ≡ pivot_of t (here s h (take n order))
  pivot-read t s h n order a b e = e ∙ ap (pivot_of t) (scorers-read s h n order a b)

  -- the scorers of slots are those of their own slots, with their own list bounds
  pub own-slots : (s : Scoring) (h : Held) (qs : List ℕ) → All (λ t. term s h t.slot ≡ t) (here s h qs)
  own-slots s h [] = tt
  own-slots s h (q ∷ qs) = (refl, own-slots s h qs)

  pub own-tops : (s : Scoring) (h : Held) (qs : List ℕ) → All (MaxScoreAt file lists s) (here s h qs)
  own-tops s h [] = tt
  own-tops s h (q ∷ qs) = (refl, own-tops s h qs)

  pub of_slots : (s : Scoring) (h : Held) (l : List TermScorer) → All (λ t. term s h t.slot ≡ t) l → here s h (map slot_of l) ≡ l
  of_slots s h [] a = refl
  of_slots s h (t ∷ l) a = let e = a.0 in let r = of_slots s h l a.1 in rw (e, r)

  -- so are scorers that are seated
  pub same-terms : (T : Terms) (h : Held) (l : List TermScorer) → All (Seat file lists T h) l → here T.scoring h (map slot_of l) ≡ l
  same-terms T h l a =
      of_slots T.scoring h l (all-imp (Seat file lists T h) (λ t. term T.scoring h t.slot ≡ t) l
      (λ t S.
      ap (λ (x : ℕ). record { doc = x; max_score = (list_at T.scoring file lists t.slot).top; slot = t.slot }) (sym S.doc-is)
      ∙ ap (λ (x : Float). record { doc = t.doc; max_score = x; slot = t.slot }) S.max-is) a)

  -- ---- whatever the scoring

  stands-too : (s s' : Scoring) (h : Held) (qs : List ℕ) → All (Stand file lists h) (here s h qs) → All (Stand file lists h) (here s' h qs)
  stands-too s s' h [] a = tt
  stands-too s s' h (q ∷ qs) a = (record { slot-in = a.0.slot-in; slot = a.0.slot; doc-is = refl }, stands-too s s' h qs a.1)

  off-too : (s s' : Scoring) (h : Held) (r : ℕ) (qs : List ℕ) → All (Off r) (here s h qs) → All (Off r) (here s' h qs)
  off-too s s' h r [] a = tt
  off-too s s' h r (q ∷ qs) a = (a.0, off-too s s' h r qs a.1)

  apart-too : (s s' : Scoring) (h : Held) (qs : List ℕ) → Apart (here s h qs) → Apart (here s' h qs)
  apart-too s s' h [] a = tt
  apart-too s s' h (q ∷ qs) a = (off-too s s' h q qs a.0, apart-too s s' h qs a.1)

  pub lined : (s : Scoring) (h : Held) (qs : List ℕ) → All (Stand file lists h) (here s h qs) → Apart (here s h qs) → Lined file lists h qs
  lined s h qs a b = record { stands = λ s'. stands-too s s' h qs a; apart = λ s'. apart-too s s' h qs b }

  -- ---- one scorer moves

  -- slot q's scorer on another document
  abbrev pub on_doc : Scoring → ℕ → ℕ → TermScorer
  on_doc s doc q = record { doc = doc; max_score = (list_at s file lists q).top; slot = q }

  module _ (s : Scoring) {h h' : Held} {to : Scoring → Cursor} {doc : ℕ} where
    off-same : {q : ℕ} (M : MovedSlot file lists q to h h' doc) (r : ℕ) → (r ≡ q → ⊥) → term s h' r ≡ term s h r
    off-same M r o =
        ap (λ (row : List ℕ). record { doc = doc_in file (part_at lists r) (cursor_in row).at; max_score = (list_at s file lists r).top; slot = r })
        (others-rows file lists M r o).place

    others_same : {q : ℕ} (M : MovedSlot file lists q to h h' doc) (qs : List ℕ) → All (Off q) (here s h qs) → here s h' qs ≡ here s h qs
    others_same M [] o = refl
    others_same M (r ∷ qs) o = let a = off-same M r o.0 in let b = others_same M qs o.1 in rw (a, b)

    pub terms-move : (qs : List ℕ) (i : ℕ) → i < length qs → Apart (here s h qs) → MovedSlot file lists (get_or qs i 0) to h h' doc
        → here s h' qs ≡ set (here s h qs) i (on_doc s doc (get_or qs i 0))
    terms-move [] i k a M = absurd (omega arith)
    terms-move (q ∷ qs) zero k a M =
        let e : term s h' q ≡ on_doc s doc q = ap (λ (x : ℕ). record { doc = x; max_score = (list_at s file lists q).top; slot = q }) (sym M.moved.doc-is) in
        let t = others_same M qs a.0 in
        rw (e, t)
    terms-move (q ∷ qs) (suc i) k a M =
        let far = all-at (λ (r : ℕ). r ≡ q → ⊥) qs i 0 (omega arith) (all-unmap (Off q) (term s h) qs a.0) in
        let e = off-same M q (λ z. far (sym z)) in
        let t = terms-move qs i (omega arith) a.1 M in
        rw (e, t)

-- scorers that are seated have their list bounds
module _ {file : List ℕ} {lists : List (List ℕ)} {T : Terms} {h : Held} (qs : List ℕ) (S : Seated file lists T h (terms_of file lists T.scoring h.places qs)) where
  pub tops-kept : All (TopKept T.scoring file lists) qs
  tops-kept =
      all-unmap (λ s. TopKept T.scoring file lists s.slot) (term_at file lists T.scoring h.places) qs
      (all-imp (Seat file lists T h) (λ s. TopKept T.scoring file lists s.slot) (terms_of file lists T.scoring h.places qs) (λ _ s. s.kept.top) S.seats)

  pub tops-read : All (TopRead lists) qs
  tops-read = all-imp (TopKept T.scoring file lists) (TopRead lists) qs (λ _ k. k.read) tops-kept
