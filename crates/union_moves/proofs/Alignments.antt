-- `align_scorers`' loop over the slots: those that have sought are on the pivot, and a miss is put back.
use mathlib.Core.List.{List, map}
use mathlib.Core.Path.{ap, refl, subst, sym, ◌∙◌, ◌≡◌}
use Prim.Native.Nat.{suc, ℕ, ◌-◌, ◌<◌, ◌≤◌}
use native.Mathlib.Omega.{arith}
use lib.ListN.{drop, get_or, length, length-map, set, take}
use lib.Ieee.{Float}
use Rattle.arrays.specs.Every.{All}
use Rattle.route.specs.Cursor.{Cursor, seek_in}
use Rattle.route.specs.Ordering.{put_back}
use Rattle.route.specs.Scorer.{Scorer, doc_of}
use Rattle.route.specs.Union.{Around, missed_on}
use Rattle.route.proofs.Lists.{all-imp}
use Rattle.bm25.specs.declared.Scoring.{Scoring}
use Rattle.bm25.specs.declared.Scoring.TheVariants.{Unstepped}
use Rattle.ordering.specs.Inner.Scorers.{by_doc, from_place, no_scorer, returned}
use Rattle.term_scorer.specs.declared.TermScorer.{TermScorer}
use Rattle.ordering.proofs.Carried.{returned-map}
use Rattle.ordering.proofs.Kept as kept
use Rattle.ordering.proofs.OnRoute.{SameDoc, missed-on-route}
use Rattle.ordering.proofs.Moving.{all_same, slots_length}
use Rattle.ordering.proofs.Aligning.{Aligning, aligning, aligns, all-aligned, misses}
use Rattle.ordering.proofs.Places.{all-at}
use Rattle.term_scorer.specs.Inner.Slots.{cursor_at, Held, list_at, MovedSlot}
use Rattle.ordering.specs.Inner.Rows.{Readable, doc_at}
use Rattle.ordering.proofs.Rows.{map_at}
use Rattle.union_moves.specs.Inner.Seats.{Carried, Lined, Stand, scorer_at, term_at, terms_of}
use Rattle.union_moves.specs.Inner.Moves.{OnPivot, PastPivot}
use Rattle.union_moves.proofs.Seats.{carried-kept, carried-move, carried-refl, carried-trans, moved-stand, same-doc, same-off, scorer-is}
use Rattle.union_moves.proofs.Slots.{on_doc, readables, same_keys, terms-move}

module _ (file : List ℕ) (lists : List (List ℕ)) (p : ℕ) (s : Scoring) (h : Held) (qs : List ℕ) (before : ℕ) where
  abbrev at : Held → List TermScorer
  at k = terms_of file lists s k.places qs

  abbrev at-route : Scoring → Held → TermScorer → Scorer Float
  at-route scoring k = scorer_at file lists scoring k.places

  -- those from place i on are on the pivot
  pub record Seeking (i : ℕ) (h' : Held) : Type 0 where
    pub carried : Carried file lists h (at h) h' (at h')
    pub on : (scoring : Scoring) → Aligning 128 p (at-route scoring h) (at h) before i (at-route scoring h') (at h')

  pub seeking : Lined file lists h qs → Seeking before h
  seeking L = record { carried = carried-refl file lists h (at h) (L.apart s) (L.stands s); on = λ scoring. aligning 128 p (at-route scoring h) (at h) before }

  module _ (L : Lined file lists h qs) (inside : before < length qs) {i : ℕ} {h' : Held} (S : Seeking i h') (pos : 0 < i) where
    abbrev j : ℕ
    j = i - 1

    abbrev q : ℕ
    q = get_or qs j 0

    abbrev x : TermScorer
    x = term_at file lists s h'.places q

    few : i ≤ before
    few = (S.on Unstepped).inside

    in-qs : j < length qs
    in-qs = let k = few in omega arith

    long : (k : Held) → length (at k) ≡ length qs
    long k = length-map qs (term_at file lists s k.places)

    there : get_or (at h') j no_scorer ≡ x
    there = map_at (term_at file lists s h'.places) qs j 0 no_scorer in-qs

    -- the one before place i
    pub stand-before : Stand file lists h' x
    stand-before = rw there at (all-at (Stand file lists h') (at h') j no_scorer (omega (arith, in-qs, long h')) S.carried.stands)

    abbrev to : Scoring → Cursor
    to k = seek_in (list_at k file lists q) 128 p (cursor_at h'.places q)

    module _ {h'' : Held} {doc : ℕ} (q₀ : ℕ) (e₀ : q ≡ q₀) (M₀ : MovedSlot file lists q₀ (λ k. seek_in (list_at k file lists q₀) 128 p (cursor_at h'.places q₀)) h' h'' doc) where
      M : MovedSlot file lists q to h' h'' doc
      M = subst (λ (z : ℕ). MovedSlot file lists z (λ k. seek_in (list_at k file lists z) 128 p (cursor_at h'.places z)) h' h'' doc) (sym e₀) M₀

      abbrev x' : TermScorer
      x' = on_doc file lists s doc q

      moved-is : at h'' ≡ set (at h') j x'
      moved-is = terms-move file lists s qs j in-qs S.carried.apart M

      carries : Carried file lists h (at h) h'' (set (at h') j x')
      carries =
          let N : MovedSlot file lists (get_or (at h') j no_scorer).slot to h' h'' doc = rw there M in
          carried-trans file lists S.carried (rw there at (carried-move file lists (at h') j (omega (arith, in-qs, long h')) S.carried.apart N S.carried.stands))

      pub still-stands : All (Stand file lists h'') (at h'')
      still-stands = rw moved-is carries.stands

      pub still-readable : All (Readable h''.places) qs
      still-readable = readables file lists s h'' qs still-stands

      doc-there : (scoring : Scoring) → doc_of (at-route scoring h'' x') ≡ doc
      doc-there scoring = same-doc file lists scoring h'' x' (moved-stand file lists x M stand-before)

      pub seeks : doc ≡ p → Seeking j h''
      seeks e = record {
        carried = rw moved-is carries;
        on = λ scoring.
            rw moved-is (aligns 128 p (at-route scoring h) (at h) before (S.on scoring) pos (omega (arith, long h)) (L.apart s) (at-route scoring h'') x'
            (rw there refl) (rw there (same-off file lists M scoring)) (rw there (scorer-is file lists x M scoring)) (doc-there scoring ∙ e));
      }

      -- one went past the pivot, and is put back
      past : (doc ≡ p → ⊥) → (rs : List ℕ) → rs ≡ from_place (put_back (doc_at h''.places h''.blocks)) qs j
          → PastPivot file lists p h (at h) before h'' (terms_of file lists s h''.places rs)
      past ne rs r =
          let k = few in
          let l' = set (at h') j x' in
          let e : terms_of file lists s h''.places rs ≡ returned l' j =
          ap (terms_of file lists s h''.places) r
          ∙ returned-map (doc_at h''.places h''.blocks) by_doc (term_at file lists s h''.places) qs j (same_keys file lists s h'' qs still-stands)
          ∙ ap (λ z. returned z j) moved-is in
          rw e (record {
            carried = carried-trans file lists carries (carried-kept file lists h'' (kept.returned-kept l' j) carries.apart carries.stands);
            missed-is = λ scoring.
                let g = at-route scoring h'' in
                let W =
                misses 128 p (at-route scoring h) (at h) before (S.on scoring) pos (omega (arith, long h)) (L.apart s) g x'
                (rw there refl) (rw there (same-off file lists M scoring)) (rw there (scorer-is file lists x M scoring)) (λ z. ne (sym (doc-there scoring) ∙ z)) in
                let same = slots_length (at h) l' W.slots in
                let m : Around Float = record { left = map g (take j l'); one = g (get_or l' j no_scorer); right = map g (drop (suc j) (take before l')) } in (
                  m,
                  W.answer,
                  missed-on-route g l' j before W.inside (omega (arith, in-qs, long h)) (all-imp (Stand file lists h'') (SameDoc g) l' (same-doc file lists scoring h'') carries.stands)
                      ∙ ap (missed_on m) W.rest,
                );
          })

      pub goes-past : (doc ≡ p → ⊥) → (rs : List ℕ) → rs ≡ from_place (put_back (doc_at h''.places h''.blocks)) qs j → {qs₀ : List ℕ} → qs ≡ qs₀
          → PastPivot file lists p h (terms_of file lists s h.places qs₀) before h'' (terms_of file lists s h''.places rs)
      goes-past ne rs r e =
          subst (λ (z : List ℕ). PastPivot file lists p h (terms_of file lists s h.places z) before h'' (terms_of file lists s h''.places rs)) e (past ne rs r)

  came : {i : ℕ} {h' : Held} → Seeking i h' → i ≤ 0 → OnPivot file lists p h (at h) before h' (at h')
  came {i} {h'} S z = record {
    carried = S.carried;
    aligned-are = λ scoring. all-aligned 128 p (at-route scoring h) (at h) before (S.on scoring) z;
    rest-are = λ scoring.
        ap (map (at-route scoring h')) (S.on scoring).rest ∙ all_same (at-route scoring h) (at-route scoring h') (drop before (at h)) (S.on scoring).rest-same;
  }

  pub all-on : {i : ℕ} {h' : Held} → Seeking i h' → i ≤ 0 → {qs₀ : List ℕ} → qs ≡ qs₀ → OnPivot file lists p h (terms_of file lists s h.places qs₀) before h' (at h')
  all-on {i} {h'} S z e = subst (λ (y : List ℕ). OnPivot file lists p h (terms_of file lists s h.places y) before h' (at h')) e (came S z)
