-- The document that the one scorer seeks past blocks that are too low, and the scorers that this leaves.
use mathlib.Core.List.{List, map, [], ◌∷◌}
use mathlib.Core.Path.{ap, refl, subst, sym, ◌∙◌, ◌≡◌}
use Prim.Native.Nat.{min, ℕ, ◌+◌, ◌<◌, ◌≤◌}
use native.Mathlib.Numerals.{add-one}
use native.Mathlib.Omega.{arith}
use lib.ListN.{drop, get_or, length, length-map, length-take, set, take}
use lib.Seq.{take-take}
use lib.Ieee.{Float}
use Rattle.arrays.specs.Every.{All}
use Rattle.route.specs.Postings.{TERMINATED}
use Rattle.route.specs.Cursor.{seek_in}
use Rattle.route.specs.Scorer.{Scorer, last_doc_in_block}
use Rattle.route.specs.Union.{behind, least_last_doc}
use Rattle.route.proofs.Lists.{all-imp}
use Rattle.route.proofs.Places.{last-cap}
use Rattle.route.proofs.Union.Pivot.{least_last-le}
use Rattle.bm25.specs.declared.Scoring.{Scoring}
use Rattle.bm25.specs.declared.Scoring.TheVariants.{Unstepped}
use Rattle.ordering.specs.Inner.Scorers.{least_doc_of, moved, no_scorer, slot_of}
use Rattle.ordering.specs.Inner.Pivots.{place_to_seek}
use Rattle.term_scorer.specs.declared.TermScorer.{TermScorer}
use Rattle.ordering.proofs.Places.{all-at, all_take, drop-take-cons, drop-take-nil, map-take}
use Rattle.ordering.proofs.Found.{seek-inside}
use Rattle.ordering.proofs.Kept.{kept-all, moved-kept}
use Rattle.ordering.proofs.Turns.{least_last, too-low-on-route}
use Rattle.notefile.specs.Header.{documents}
use Rattle.decoded.proofs.AcceptedLists.{list-ok}
use Rattle.skip_reader.proofs.Readers.{end_is}
use Rattle.slot_rows.specs.Inner.Rows.{cursor_in}
use Rattle.slot_rows.proofs.Rows.{last-is, last-small}
use Rattle.term_scorer.specs.Inner.Slots.{cursor_at, Held, last_at, list_at, part_at, MovedSlot}
use Rattle.term_scorer.specs.Inner.Weights.{TopKept}
use Rattle.ordering.specs.Inner.Rows.{Readable}
use Rattle.slot_pivot.specs.Inner.Terms.{term_in}
use Rattle.ordering.proofs.Rows.{map_at}
use Rattle.union_moves.specs.Inner.Seats.{Carried, Lined, Stand, scorer_at, term_at, terms_of}
use Rattle.union_moves.specs.Inner.Moves.{LastRead, OneOn, least_last_of}
use Rattle.union_moves.proofs.Seats.{carried-kept, carried-move, carried-trans, fair, moved-stand, same-doc, same-off, scorer-is}
use Rattle.union_moves.proofs.Slots.{all-unmap, of_slots, on_doc, own-slots, own-tops, readables, scorers-read, slots-of, terms-move, terms-read}

-- ---- `least_last_doc`'s loop

module _ (places : List (List ℕ)) (l : List ℕ) (n goal : ℕ) where
  -- the least of `least` and the last documents from place i on is the goal
  pub record Lowering (least i : ℕ) : Type 0 where
    pub inside : i ≤ n
    pub whole : least_last_of places least (drop i (take n l)) ≡ goal

  module _ (long : n ≤ length l) {least i : ℕ} (S : Lowering least i) where
    pub lowers : {least' : ℕ} → i < n → least' ≡ min (last_at places (get_or l i 0)) least → Lowering least' (i + 1)
    lowers {least'} h e =
        let q : least_last_of places least (drop i (take n l)) ≡ least_last_of places (min (last_at places (get_or l i 0)) least) (drop (i + 1) (take n l)) =
        rw (drop-take-cons l n i 0 h long, add-one) in
        record { inside = omega arith; whole = ap (λ (z : ℕ). least_last_of places z (drop (i + 1) (take n l))) e ∙ sym q ∙ S.whole }

    pub lowest : n ≤ i → least ≡ goal
    lowest h = let x = drop-take-nil l n i h in sym (ap (least_last_of places least) x) ∙ S.whole

pub lowest-low : (places : List (List ℕ)) (t : ℕ) (l : List ℕ) → least_last_of places t l ≤ t
lowest-low places t [] = omega arith
lowest-low places t (q ∷ qs) = let r = lowest-low places (min (last_at places q) t) qs in omega arith

pub least-low : (t : ℕ) (l : List TermScorer) → least_doc_of t l ≤ t
least-low t [] = omega arith
least-low t (x ∷ xs) = let r = least-low (min x.doc t) xs in omega arith

-- ---- what it is on the route

module _ (file : List ℕ) (lists : List (List ℕ)) (h : Held) where
  last-here : (scoring : Scoring) (s : TermScorer) → Stand file lists h s → last_at h.places s.slot ≡ last_doc_in_block 128 (scorer_at file lists scoring h.places s)
  unfolding cursor_in
  last-here scoring s S =
      let x = part_at lists s.slot in
      let row = get_or h.places s.slot [] in
      last-is file x row S.slot.place.standing ∙ sym (end_is file x S.slot.list scoring (get_or row 0 0))

  last-low : (scoring : Scoring) (s : TermScorer) → Stand file lists h s → last_doc_in_block 128 (scorer_at file lists scoring h.places s) ≤ TERMINATED
  last-low scoring s S =
      last-cap 128 (documents file) (list_at scoring file lists s.slot) (list-ok scoring file (part_at lists s.slot) S.slot.list.right S.slot.list.few)
      (cursor_at h.places s.slot).blk

  last-read : (s : TermScorer) → Stand file lists h s → LastRead h.places s.slot
  last-read s S = (S.slot-in, last-small file (part_at lists s.slot) (get_or h.places s.slot []) S.slot.place.standing)

  pub last-reads : (qs : List ℕ) → Lined file lists h qs → All (LastRead h.places) qs
  last-reads qs L =
      all-unmap (λ s. LastRead h.places s.slot) (term_at file lists Unstepped h.places) qs
      (all-imp (Stand file lists h) (λ s. LastRead h.places s.slot) (terms_of file lists Unstepped h.places qs) last-read (L.stands Unstepped))

  module _ (scoring : Scoring) where
    abbrev f : TermScorer → Scorer Float
    f = scorer_at file lists scoring h.places

    least-from : (t : ℕ) (x : TermScorer) (xs : List TermScorer) → All (Stand file lists h) (x ∷ xs)
        → least_last_of h.places t (map slot_of (x ∷ xs)) ≡ min (least_last_doc 128 (f x) (map f xs)) t
    least-from t x [] a = ap (λ (z : ℕ). min z t) (last-here scoring x a.0)
    least-from t x (y ∷ ys) a =
        let e = last-here scoring x a.0 in
        least-from (min (last_at h.places x.slot) t) y ys a.1 ∙ omega arith

    pub least-is : (l : List TermScorer) → All (Stand file lists h) l → least_last_of h.places TERMINATED (map slot_of l) ≡ least_last 128 f l
    least-is [] a = refl
    least-is (x ∷ xs) a =
        let c = last-low scoring x a.0 in
        let d = (least_last-le 128 (f x) (map f xs)).0 in
        least-from TERMINATED x xs a ∙ omega arith

-- ---- the scorers after the move

pub seeks-inside : (l : List TermScorer) (len at : ℕ) → at ≡ place_to_seek (take len l) → 0 < len → len ≤ length l → at < len
seeks-inside l len at e pos long = omega (arith, seek-inside (take len l) (omega (arith, length-take len l)), length-take len l)

-- what is read of the tables is of the scorers there: the place that seeks, and the least document
module _ (file : List ℕ) (lists : List (List ℕ)) (s : Scoring) (h : Held) (order : List ℕ) {n len : ℕ} (few : len ≤ n)
    (stands : All (Stand file lists h) (terms_of file lists s h.places (take n order))) (right : All (TopKept s file lists) (take n order)) where
  abbrev read : List TermScorer
  read = map (term_in lists h.places h.blocks) order

  abbrev stood : List TermScorer
  stood = terms_of file lists s h.places (take n order)

  read_is : take n read ≡ stood
  read_is = scorers-read file lists s h n order stands right

  pub place_read : {at : ℕ} → at ≡ place_to_seek (take len read) → at ≡ place_to_seek (take len stood)
  place_read e = e ∙ ap place_to_seek (sym (take-take len n read few) ∙ ap (take len) read_is)

  pub least-read : {d from last : ℕ} → d ≡ least_doc_of from (drop len (take n read)) → from ≡ behind last → last ≡ least_last_of h.places 2147483647 (take len order)
      → d ≡ least_doc_of (behind (least_last_of h.places 2147483647 (take len (take n order)))) (drop len stood)
  least-read {d} {from} e b l =
      e ∙ ap (λ z. least_doc_of from (drop len z)) read_is
      ∙ ap (λ (z : ℕ). least_doc_of z (drop len stood)) (b ∙ ap behind (l ∙ ap (least_last_of h.places 2147483647) (sym (take-take len n order few))))

module _ (file : List ℕ) (lists : List (List ℕ)) (s : Scoring) (qs : List ℕ) (at d doc : ℕ) where
  abbrev here : Held → List TermScorer
  here k = terms_of file lists s k.places qs

  abbrev q : ℕ
  q = get_or qs at 0

  module _ {h h' : Held} (L : Lined file lists h qs) (inside : at < length qs) (q₀ : ℕ) (e₀ : q ≡ q₀)
      (M₀ : MovedSlot file lists q₀ (λ k. seek_in (list_at k file lists q₀) 128 d (cursor_at h.places q₀)) h h' doc) where
    M : MovedSlot file lists q (λ k. seek_in (list_at k file lists q) 128 d (cursor_at h.places q)) h h' doc
    M = subst (λ (z : ℕ). MovedSlot file lists z (λ k. seek_in (list_at k file lists z) 128 d (cursor_at h.places z)) h h' doc) (sym e₀) M₀

    abbrev x : TermScorer
    x = term_at file lists s h.places q

    abbrev x' : TermScorer
    x' = on_doc file lists s doc q

    long : (k : Held) → length (here k) ≡ length qs
    long k = length-map qs (term_at file lists s k.places)

    there : get_or (here h) at no_scorer ≡ x
    there = map_at (term_at file lists s h.places) qs at 0 no_scorer inside

    in-here : at < length (here h)
    in-here = omega (arith, long h)

    moved-is : here h' ≡ set (here h) at x'
    moved-is = terms-move file lists s qs at inside (L.apart s) M

    moves : Carried file lists h (here h) h' (here h')
    moves =
        let N : MovedSlot file lists (get_or (here h) at no_scorer).slot (λ k. seek_in (list_at k file lists q) 128 d (cursor_at h.places q)) h h' doc = rw there M in
        rw moved-is (rw there at (carried-move file lists (here h) at in-here (L.apart s) N (L.stands s)))

    pub moved-readable : All (Readable h'.places) qs
    moved-readable = readables file lists s h' qs moves.stands

    -- the row's slots are those of the scorers that are read, in the order restored from its place
    pub one_on : (len : ℕ) → 0 < len → len ≤ length qs → at ≡ place_to_seek (take len (here h))
        → d ≡ least_doc_of (behind (least_last_of h.places 2147483647 (take len qs))) (drop len (here h))
        → All (TopKept s file lists) qs → {z : List TermScorer} → z ≡ map (term_in lists h'.places h'.blocks) qs
        → {rs : List ℕ} → rs ≡ map slot_of (moved z at) → OneOn file lists s h (here h) len h' (terms_of file lists s h'.places rs)
    one_on len pos few at-is d-is right {z} read {rs} r =
        let f₀ = scorer_at file lists s h.places in
        let f₁ = scorer_at file lists s h'.places in
        let first : All (Stand file lists h) (take len (here h)) = all_take (Stand file lists h) len (here h) (L.stands s) in
        let cut : take len qs ≡ map slot_of (take len (here h)) =
        sym (slots-of file lists s h.places (take len qs)) ∙ ap (map slot_of) (map-take (term_at file lists s h.places) len qs) in
        let now : z ≡ here h' = read ∙ terms-read file lists s h' qs moves.stands right in
        let out = of_slots file lists s h' (moved (here h') at) (kept-all (λ t. term_at file lists s h'.places t.slot ≡ t) (moved-kept (here h') at) (own-slots file lists s h' qs)) in
        let e : terms_of file lists s h'.places rs ≡ moved (here h') at =
        ap (terms_of file lists s h'.places) (r ∙ ap (λ y. map slot_of (moved y at)) now) ∙ out in
        rw e (record {
          carried = carried-trans file lists moves (carried-kept file lists h' (moved-kept (here h') at) moves.apart moves.stands);
          scorers-are = rw moved-is
              (too-low-on-route 128 f₀ f₁ (here h) len at d x' pos (omega (arith, long h)) (fair file lists s h (here h) (L.stands s) (own-tops file lists s h qs)) (L.apart s)
              at-is
              (d-is ∙ ap (λ (y : ℕ). least_doc_of (behind y) (drop len (here h))) (ap (least_last_of h.places 2147483647) cut ∙ least-is file lists h s (take len (here h)) first))
              (rw there (same-off file lists M s)) (rw there (scorer-is file lists x M s))
              (same-doc file lists s h' x' (moved-stand file lists x M (rw there at (all-at (Stand file lists h) (here h) at no_scorer in-here (L.stands s))))));
        })
