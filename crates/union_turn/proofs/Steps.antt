-- A turn is the route's: with no pivot, past blocks too low, or at the pivot.
use mathlib.Core.Bool.{Bool, false, true}
use mathlib.Core.List.{List, map, []}
use mathlib.Core.Path.{ap, refl, subst, sym, ◌∙◌, ◌≡◌}
use Prim.Native.Nat.{ℕ, ◌≤◌}
use native.Mathlib.Omega.{arith}
use lib.ListN.{drop, length-map, length-take, take}
use lib.Seq.{take-take}
use lib.Ieee.{Float}
use Rattle.arrays.specs.Every.{All}
use Rattle.route.specs.F32.{f32}
use Rattle.route.specs.Score.{sum}
use Rattle.route.specs.Route.{Turn}
use Rattle.route.specs.Scorer.{Scorer, block_max_score, doc_of, seek_block}
use Rattle.route.specs.Union.{UnionPlace, go_on}
use Rattle.route.specs.Inner.Unions.{SafeS, UnionKept}
use Rattle.route.proofs.Lists.{all_append, all-imp, all_map, all-zip}
use Rattle.route.proofs.Union.Safe.{safe-shallow}
use Rattle.bm25.specs.declared.Scoring.{Scoring}
use Rattle.ordering.specs.Inner.Pivots.{pivot_of, Found}
use Rattle.term_scorer.specs.declared.TermScorer.{TermScorer}
use Rattle.std.specs.Prelude.{None}
use Rattle.ordering.proofs.Places.{all_drop, all_take, map-drop, map-take}
use Rattle.ordering.proofs.Found.{pivot-found}
use Rattle.ordering.proofs.OnRoute.{Fair}
use Rattle.ordering.proofs.Moving.{moved_all}
use Rattle.ordering.proofs.UnionTurns.{called-turn, high-turn, low_turn, nowhere-turn}
use Rattle.notefile.specs.Header.{documents}
use Rattle.term_scorer.specs.Inner.Slots.{Held, Sixteen}
use Rattle.union_moves.specs.Inner.Seats.{Inside, Lined, MaxScoreAt, Seat, Seated, Stand, Terms, scorer_at, term_at, terms, terms_of}
use Rattle.union_moves.specs.Inner.Moves.{BlocksSought, TooLow}
use Rattle.union_pivot.specs.Inner.Advances.{AdvancedAll}
use Rattle.union_turn.specs.Inner.Turns.{AtPivot, Does, Pivoted, ToPivot, Turned, quiet_step, place_in}
use Rattle.union_turn.specs.declared.Stage.TheVariants.{Called, Looking, Over}
use Rattle.union_pivot.specs.declared.Span.{Span}
use Rattle.reports.specs.declared.Step.{Step}
use Rattle.union_turn.specs.declared.Union.{Union}
use Rattle.union_moves.proofs.Seats.{fair, first-apart, seats-stand, still-seated}
use Rattle.union_moves.proofs.Slots.{all-unmap, lined, same-terms, slots-of, tops-kept}
use Rattle.union_turn.proofs.OnPivots.{found-low, inside_on}

module _ {file : List ℕ} {lists : List (List ℕ)} {T : Terms} {h : Held} {l : List TermScorer} (S : Seated file lists T h l) where
  pub stands : All (Stand file lists h) l
  stands = seats-stand file lists T h l S.seats

  max-scores : All (MaxScoreAt file lists T.scoring) l
  max-scores = all-imp (Seat file lists T h) (MaxScoreAt file lists T.scoring) l (λ _ s. s.max-is) S.seats

  fair-here : All (Fair (scorer_at file lists T.scoring h.places)) l
  fair-here = fair file lists T.scoring h l stands max-scores

-- ---- at a pivot that was found

module _ {file : List ℕ} {lists : List (List ℕ)} {T : Terms} {t : Float} {h : Held} {order : List ℕ} {n : ℕ} {at : Span}
    (Q : ToPivot file lists T t h order n at) where
  abbrev l : List TermScorer
  l = terms_of file lists T.scoring h.places (take n order)

  abbrev before : ℕ
  before = at.pivot.before_pivot_len

  abbrev len : ℕ
  len = at.pivot.pivot_len

  abbrev p : ℕ
  p = at.pivot.pivot_doc

  abbrev f : TermScorer → Scorer Float
  f = scorer_at file lists T.scoring h.places

  pub found : Found l before len p
  found = pivot-found t l Q.found

  pub few : len ≤ n
  few =
      let q = found in
      omega (arith, q.inside, length-map (take n order) (term_at file lists T.scoring h.places), length-take n order)

  -- the scorers up to the pivot
  pub first-seated : Seated file lists T h (terms_of file lists T.scoring h.places (take len order))
  first-seated =
      let term = term_at file lists T.scoring h.places in
      let cut : take len l ≡ map term (take len order) = sym (map-take term len (take n order)) ∙ ap (map term) (take-take len n order few) in
      rw (sym cut) (record {
        seats = all_take (Seat file lists T h) len l Q.seated.seats;
        apart = first-apart len l Q.seated.apart;
        rows = Q.seated.rows;
      })

  module _ {h' : Held} {floats' : List (List Float)} {upper : Float} (B : BlocksSought file lists T h p len h' floats' upper l) where
    abbrev g : TermScorer → Scorer Float
    g = scorer_at file lists T.scoring h'.places

    abbrev T' : Terms
    T' = terms T.scoring T.norms floats'

    -- their documents stay
    still : terms_of file lists T.scoring h'.places (take n order) ≡ l
    still =
        ap (terms_of file lists T.scoring h'.places) (sym (slots-of file lists T.scoring h.places (take n order)))
        ∙ same-terms file lists T' h' l B.seats

    sought : Seated file lists T' h' l
    sought = record { seats = B.seats; apart = Q.seated.apart; rows = B.rows }

    pub seated' : Seated file lists T' h' (terms_of file lists T.scoring h'.places (take n order))
    seated' = rw still sought

    pub lined' : Lined file lists h' (take n order)
    lined' = lined file lists T.scoring h' (take n order) (stands seated') seated'.apart

    -- shallow seeks keep the scorers safe
    safe' : All (SafeS 128 (documents file)) (map g l)
    safe' =
        let low = found-low file lists h (stands Q.seated) found in
        let kept = Q.kept in
        let part : All (SafeS 128 (documents file)) (map f (take len l)) = rw (map-take f len l) (all_take (SafeS 128 (documents file)) len (map f l) kept.scs) in
        let rest : All (SafeS 128 (documents file)) (map f (drop len l)) = rw (map-drop f len l) (all_drop (SafeS 128 (documents file)) len (map f l) kept.scs) in
        rw (moved_all (seek_block 128 p) f l B.moving)
        (all_append (SafeS 128 (documents file)) (map (seek_block 128 p) (map f (take len l))) (map f (drop len l))
        (all_map (SafeS 128 (documents file)) (SafeS 128 (documents file)) (seek_block 128 p) (map f (take len l)) (λ s k. (safe-shallow 128 (documents file) p s (omega arith) k).safe) part) rest)

    pub at-pivot : AtPivot file lists T' h' (terms_of file lists T.scoring h'.places (take n order)) at
    at-pivot = rw still (record { found = found; seated = sought; safe = safe' })

    sum-above : {b : Bool} → f32.above upper t ≡ b → f32.above (sum f32 (map (block_max_score 128 f32) (map g (take len l)))) t ≡ b
    sum-above q = rw B.sum_is at q

    -- the block bounds are high enough
    pub high : f32.above upper t ≡ true → {h'' : Held} {order'' : List ℕ} {floats'' : List (List Float)} {r : Step Union} → Pivoted file lists T' t h' order n at h'' order'' floats'' r
        → Turned file lists T t Looking h order n h'' order'' floats'' r
    high q {h''} {order''} {r = r} P = record {
      does = subst (λ (u : Turn (UnionPlace Float) Float). Does file lists T.scoring u h'' order'' r)
          (sym (high-turn 128 t l f (fair-here Q.seated) before len p Q.found g B.moving _ (sum-above q) refl)) (rw still at P.does);
      left = P.left;
      few = P.few;
      long = P.long;
    }

    -- they are too low
    pub low : f32.above upper t ≡ false → {h'' : Held} {order'' : List ℕ} → TooLow file lists h' order n len h'' order''
        → Turned file lists T t Looking h order n h'' order'' floats' (quiet_step n Looking)
    low q {h''} {order''} P =
        let O = P.one T.scoring (tops-kept (take n order) Q.seated) in
        let e = low_turn 128 t l f (fair-here Q.seated) before len p Q.found g B.moving _ (sum-above q) (rw still at O.scorers-are) in
        record {
          does = record { next-is = ap (λ u. u.next) e; due-is = ap (λ u. u.due) e };
          left = still-seated file lists seated' O.carried;
          few = omega arith;
          long = P.long;
        }

-- ---- with no pivot, behind a report, and at the end

module _ {file : List ℕ} {lists : List (List ℕ)} {T : Terms} (t : Float) {h : Held} (order : List ℕ) (n : ℕ) (long : Sixteen order)
    (S : Seated file lists T h (terms_of file lists T.scoring h.places (take n order))) where
  abbrev at-route : TermScorer → Scorer Float
  at-route = scorer_at file lists T.scoring h.places

  abbrev all : List TermScorer
  all = terms_of file lists T.scoring h.places (take n order)

  pub nowhere : None ≡ pivot_of t all → Turned file lists T t Looking h order n h order T.floats (quiet_step n Over)
  nowhere e =
      let q = nowhere-turn 128 t all at-route (fair-here S) e in
      record { does = record { next-is = ap (λ u. u.next) q; due-is = ap (λ u. u.due) q }; left = S; few = omega arith; long = long }

  pub stays : Turned file lists T t Over h order n h order T.floats (quiet_step n Over)
  stays = record { does = record { next-is = refl; due-is = refl }; left = S; few = omega arith; long = long }

  -- the scorers on the report's document go on
  pub goes_on : {k : ℕ} {h' : Held} {order' : List ℕ} {r : ℕ} → AdvancedAll file lists h order n k h' order' r
      → Turned file lists T t (Called k) h order n h' order' T.floats (quiet_step r Looking)
  goes_on {k} {h'} {order'} {r} D =
      let q = called-turn 128 t 0 [] at-route all k in
      let A = D.on T.scoring in
      record {
        does = record { next-is = ap (λ u. u.next) q ∙ ap (λ ss. go_on ss) (sym A.scorers-are); due-is = ap (λ u. u.due) q };
        left = still-seated file lists S A.carried;
        few = D.few;
        long = D.long;
      }

-- and they can: they are on a document
pub on-report : (file : List ℕ) (lists : List (List ℕ)) (scoring : Scoring) (h : Held) (order : List ℕ) (n : ℕ) {k : ℕ}
    → UnionKept 128 (documents file) f32 (place_in file lists scoring h.places (Called k) (terms_of file lists scoring h.places (take n order)))
    → (k ≤ n) × All (Inside lists h) (take k order)
on-report file lists scoring h order n {k} kept =
    let g : TermScorer → Scorer Float = scorer_at file lists scoring h.places in
    let term = term_at file lists scoring h.places in
    let l = terms_of file lists scoring h.places (take n order) in
    let R = kept.stands in
    let low = R.live in
    let few : k ≤ n = omega (arith, R.few, length-map l g, length-map (take n order) term, length-take n order) in
    let on = rw (sym (map-take g k l)) at R.on in
    let safe = rw (sym (map-take g k l)) at (all_take (SafeS 128 (documents file)) k (map g l) kept.scs) in
    let cut : take k l ≡ map term (take k order) = sym (map-take term k (take n order)) ∙ ap (map term) (take-take k n order few) in (
      few,
      all-unmap (λ s. Inside lists h s.slot) term (take k order)
          (rw cut at
          (all-zip (λ s. doc_of (g s) ≡ R.doc) (λ s. SafeS 128 (documents file) (g s)) (λ s. Inside lists h s.slot)
          (λ s d a. inside_on file lists scoring h s a (omega (arith, d))) (take k l)
          (all-unmap (λ x. doc_of x ≡ R.doc) g (take k l) on) (all-unmap (SafeS 128 (documents file)) g (take k l) safe))),
    )
