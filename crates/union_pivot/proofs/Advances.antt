-- The loops over the scorers on the pivot: their scores are added, and each goes on in its slot.
use mathlib.Core.List.{List, map, [], ◌∷◌}
use mathlib.Core.Path.{ap, refl, subst, sym, ◌∙◌, ◌≡◌}
use Prim.Native.Nat.{ℕ, ◌+◌, ◌<◌, ◌≤◌}
use native.Mathlib.Numerals.{add-one}
use native.Mathlib.Omega.{arith}
use lib.ListN.{drop, get_or, length, length-map, set, take}
use lib.Seq.{drop-cons, take-suc}
use lib.Ieee.{Float}
use Rattle.route.specs.Score.{sum}
use Rattle.route.specs.Cursor.{Cursor, advance_in}
use Rattle.route.specs.F32.{f32}
use Rattle.route.specs.Ordering.{sort_by, sweep}
use Rattle.route.specs.Scorer.{Scorer, advance, score_here}
use Rattle.route.proofs.Lists.{all-imp}
use Rattle.bm25.specs.declared.Scoring.{Scoring}
use Rattle.bm25.specs.declared.Scoring.TheVariants.{Unstepped}
use Rattle.ordering.specs.Inner.Scorers.{by_doc, no_scorer, Moving}
use Rattle.term_scorer.specs.declared.TermScorer.{TermScorer}
use Rattle.ordering.proofs.Carried.{sort-map, sweep-map}
use Rattle.ordering.proofs.Places.{all-at, map-append}
use Rattle.ordering.proofs.Kept.{kept-all, kept_trans, sort-kept, sweep-kept}
use Rattle.ordering.proofs.OnRoute.{SameDoc}
use Rattle.ordering.proofs.Turns.{advanced-on-route}
use Rattle.ordering.proofs.Moving.{moved_all, moves, moving}
use Rattle.notefile.specs.Lists.{full_blocks}
use Rattle.term_scorer.specs.Inner.Slots.{cursor_at, Held, list_at, part_at, MovedSlot}
use Rattle.ordering.specs.Inner.Rows.{doc_at}
use Rattle.ordering.proofs.Rows.{map_at}
use Rattle.union_moves.specs.Inner.Seats.{Carried, Inside, Lined, Stand, scorer_at, term_at, terms_of}
use Rattle.union_pivot.specs.Inner.Advances.{Advanced}
use Rattle.union_moves.proofs.Seats.{carried-kept, carried-move, carried-refl, carried-trans, same-doc, same-off, scorer-is}
use Rattle.union_moves.proofs.Slots.{on_doc, same_keys, terms-move}
use Rattle.union_moves.proofs.BlockBounds.{sum-snoc}

-- the scores of the first i are added
pub scored-next : (f : ℕ → Scorer Float) (qs : List ℕ) (i : ℕ) → i < length qs → {acc x : Float} → acc ≡ sum f32 (map score_here (map f (take i qs)))
    → x ≡ score_here (f (get_or qs i 0)) → f32.add acc x ≡ sum f32 (map score_here (map f (take (i + 1) qs)))
scored-next f qs i h {acc} {x} e k =
    let q = get_or qs i 0 in
    ap (λ (z : Float). f32.add z x) e ∙ ap (f32.add (sum f32 (map score_here (map f (take i qs))))) k
    ∙ sym (sum-snoc (map score_here (map f (take i qs))) f32.nil (score_here (f q)))
    ∙ sym (rw (add-one, take-suc qs i 0 h, map-append f (take i qs) (q ∷ []), map-append score_here (map f (take i qs)) (f q ∷ [])))

-- a row that was swept, then sorted
pub swept-sorted : (key : ℕ → ℕ) (n : ℕ) (qs : List ℕ) {left rs : List ℕ} → rs ≡ sort_by key left → left ≡ sweep key n qs → rs ≡ sort_by key (sweep key n qs)
swept-sorted key n qs e d = e ∙ ap (sort_by key) d

module _ (file : List ℕ) (lists : List (List ℕ)) (s : Scoring) (h : Held) (qs : List ℕ) where
  abbrev at : Held → List TermScorer
  at k = terms_of file lists s k.places qs

  abbrev at-route : Scoring → Held → TermScorer → Scorer Float
  at-route scoring k = scorer_at file lists scoring k.places

  long : (k : Held) → length (at k) ≡ length qs
  long k = length-map qs (term_at file lists s k.places)

  -- the first i have advanced
  pub record Advancing (i : ℕ) (h' : Held) : Type 0 where
    pub carried : Carried file lists h (at h) h' (at h')
    pub on : (scoring : Scoring) → Moving (advance 128) (at-route scoring h) (at h) i (at-route scoring h') (at h')

  pub advancing : Lined file lists h qs → Advancing 0 h
  advancing L = record { carried = carried-refl file lists h (at h) (L.apart s) (L.stands s); on = λ scoring. moving (advance 128) (at-route scoring h) (at h) }

  module _ (L : Lined file lists h qs) {i : ℕ} {h' : Held} (S : Advancing i h') where
    module _ (inside : i < length qs) where
      abbrev q : ℕ
      q = get_or qs i 0

      abbrev x : TermScorer
      x = term_at file lists s h'.places q

      there : (k : Held) → get_or (at k) i no_scorer ≡ term_at file lists s k.places q
      there k = map_at (term_at file lists s k.places) qs i 0 no_scorer inside

      pub stand-at : Stand file lists h' x
      stand-at = rw (there h') at (all-at (Stand file lists h') (at h') i no_scorer (omega (arith, long h')) S.carried.stands)

      -- it is where it was
      pub inside-at : Inside lists h q → Inside lists h' q
      inside-at was =
          let same = (rw (drop-cons (at h) i no_scorer (omega (arith, long h)), there h) at (S.on Unstepped).same).0 in
          subst (λ (c : Scorer Float). c.cur.blk ≤ full_blocks (part_at lists q)) (sym same) was

      abbrev to : Scoring → Cursor
      to k = advance_in (list_at k file lists q) 128 (cursor_at h'.places q)

      module _ {h'' : Held} {doc : ℕ} (q₀ : ℕ) (e₀ : q ≡ q₀) (M₀ : MovedSlot file lists q₀ (λ k. advance_in (list_at k file lists q₀) 128 (cursor_at h'.places q₀)) h' h'' doc) where
        M : MovedSlot file lists q to h' h'' doc
        M = subst (λ (z : ℕ). MovedSlot file lists z (λ k. advance_in (list_at k file lists z) 128 (cursor_at h'.places z)) h' h'' doc) (sym e₀) M₀

        abbrev x' : TermScorer
        x' = on_doc file lists s doc q

        moved-is : at h'' ≡ set (at h') i x'
        moved-is = terms-move file lists s qs i inside S.carried.apart M

        carries : Carried file lists h (at h) h'' (set (at h') i x')
        carries =
            let N : MovedSlot file lists (get_or (at h') i no_scorer).slot to h' h'' doc = rw (there h') M in
            carried-trans file lists S.carried (rw (there h') at (carried-move file lists (at h') i (omega (arith, long h')) S.carried.apart N S.carried.stands))

        pub advances : Advancing (i + 1) h''
        advances = record {
          carried = rw moved-is carries;
          on = λ scoring.
              rw moved-is (moves (advance 128) (at-route scoring h) (at h) (S.on scoring) (at-route scoring h'') x' (omega (arith, long h)) (L.apart s)
              (rw (there h') refl) (rw (there h') (same-off file lists M scoring)) (rw (there h') (scorer-is file lists x M scoring)));
        }

    -- then the finished go, and the rest is sorted
    pub advanced : (n len : ℕ) → length qs ≡ n → i ≡ len → (rs : List ℕ) → (let key = doc_at h'.places h'.blocks in rs ≡ sort_by key (sweep key n qs))
        → Advanced file lists s h (at h) len h' (terms_of file lists s h'.places rs)
    advanced n len k e rs r =
        let key = doc_at h'.places h'.blocks in
        let f = term_at file lists s h'.places in
        let keys = same_keys file lists s h' qs S.carried.stands in
        let now : terms_of file lists s h'.places rs ≡ sort_by by_doc (sweep by_doc n (at h')) =
        ap (map f) r ∙ sort-map key by_doc f (sweep key n qs) (kept-all (λ q. by_doc (f q) ≡ key q) (sweep-kept key n qs) keys)
        ∙ ap (sort_by by_doc) (sweep-map key by_doc f n qs keys) in
        record {
          carried = rw now (carried-trans file lists S.carried
              (carried-kept file lists h' (kept_trans (sort-kept by_doc (sweep by_doc n (at h'))) (sweep-kept by_doc n (at h'))) S.carried.apart S.carried.stands));
          scorers-are =
              let f₀ = at-route s h in
              let g = at-route s h' in
              ap (map g) now
              ∙ advanced-on-route 128 g (at h') n (map f₀ (take len (at h))) (map f₀ (drop len (at h))) (long h' ∙ k)
              (all-imp (Stand file lists h') (SameDoc g) (at h') (same-doc file lists s h') S.carried.stands)
              (rw e at (moved_all (advance 128) f₀ (at h) (S.on s)));
        }
