-- At a pivot: scorers that all came to it can be scored and go on, and what the step leaves is the route's.
use mathlib.Core.Bool.{Bool, false, true}
use mathlib.Core.List.{List, map, ◌++◌}
use mathlib.Core.Option.{some}
use mathlib.Core.Path.{ap, refl, subst, sym, ◌∙◌, ◌≡◌}
use Prim.Native.Nat.{ℕ, ◌-◌, ◌<◌, ◌≤◌}
use native.Mathlib.Omega.{arith}
use lib.ListN.{drop, get_or, length-map, length-take, take, take-append-drop}
use lib.Seq.{take-take}
use lib.Ieee.{Float}
use Rattle.arrays.specs.Every.{All}
use Rattle.route.specs.Score.{sum}
use Rattle.route.specs.F32.{f32}
use Rattle.route.specs.Cursor.{Cursor}
use Rattle.route.specs.Postings.{TERMINATED}
use Rattle.route.specs.Scorer.{Scorer, doc_of, score_here, seek}
use Rattle.route.specs.Union.{UnionPlace, go_on}
use Rattle.route.specs.Route.{Turn, loads_back}
use Rattle.route.specs.Inner.Unions.{SafeS}
use Rattle.route.proofs.Cases.{lt_of_ne}
use Rattle.route.proofs.Lists.{all_append, all-imp, all_map, all-zip}
use Rattle.route.proofs.Places.{doc_at-cap}
use Rattle.route.proofs.Union.Pivot.{AlignIs, align_is}
use Rattle.route.proofs.Union.Safe.{inside, safe-seek}
use Rattle.bm25.specs.declared.Scoring.{Scoring}
use Rattle.bm25.specs.declared.Scoring.TheVariants.{Unstepped}
use Rattle.ordering.specs.Inner.Scorers.{no_scorer}
use Rattle.ordering.specs.Inner.Pivots.{Found}
use Rattle.term_scorer.specs.declared.TermScorer.{TermScorer}
use Rattle.ordering.proofs.Places.{all-at, all_drop, all_take, drop-take, drop-take-cons, map-append, map-drop, map-take}
use Rattle.ordering.proofs.UnionTurns.{after-hit, after-miss, scored-due, scored-quiet}
use Rattle.notefile.specs.Header.{documents}
use Rattle.notefile.specs.Lists.{full_blocks}
use Rattle.decoded.specs.Lists.{list_of}
use Rattle.decoded.proofs.AcceptedLists.{list-ok}
use Rattle.term_scorer.specs.Inner.Slots.{cursor_at, Held, list_at, part_at, Sixteen}
use Rattle.union_moves.specs.Inner.Seats.{Inside, OnDocument, Seat, Seated, Stand, Terms, Unmoved, scorer_at, slot_scorer, term_at, terms, terms_of}
use Rattle.union_moves.specs.Inner.Moves.{AlignedBy, Aligns, OnPivot, PastPivot}
use Rattle.union_pivot.specs.Inner.Advances.{AdvancedAll}
use Rattle.std.specs.Prelude.{Some}
use Rattle.union_turn.specs.Inner.Turns.{AtPivot, Does, Hit, Pivoted, quiet_step, place_in, stage_of}
use Rattle.union_turn.specs.declared.Stage.{Stage}
use Rattle.union_turn.specs.declared.Stage.TheVariants.{Called, Looking}
use Rattle.union_moves.specs.declared.align.Alignment.{Alignment}
use Rattle.union_pivot.specs.declared.Span.{Span}
use Rattle.reports.specs.declared.Step.{Step}
use Rattle.union_turn.specs.declared.Union.{Union}
use Rattle.union_moves.proofs.Seats.{same-doc, seat-stand, seats-stand, still-seated}
use Rattle.union_moves.proofs.Slots.{all-unmap, map-map}
use Rattle.union_pivot.proofs.Unmoved.{scorers-unmoved, seated-unmoved, terms-unmoved}

full_is : (scoring : Scoring) (file : List ℕ) (lists : List (List ℕ)) (q : ℕ) → (list_at scoring file lists q).full ≡ full_blocks (part_at lists q)
unfolding list_of
full_is scoring file lists q = refl

module _ (file : List ℕ) (lists : List (List ℕ)) where
  doc-low : (h : Held) (s : TermScorer) → Stand file lists h s → s.doc ≤ TERMINATED
  doc-low h s S =
      omega (
        arith,
        same-doc file lists Unstepped h s S,
        doc_at-cap 128 (documents file) (list_at Unstepped file lists s.slot) (list-ok Unstepped file (part_at lists s.slot) S.slot.list.right S.slot.list.few)
            (cursor_at h.places s.slot).at,
      )

  -- a pivot is a document
  pub found-low : (h : Held) {l : List TermScorer} {before len p : ℕ} → All (Stand file lists h) l → Found l before len p → p < TERMINATED
  found-low h {l} {before} {len} a q =
      let k = q.first in
      let n = q.inside in
      let e = (rw (drop-take-cons l len before no_scorer k n) at q.on).0 in
      let low = doc-low h (get_or l before no_scorer) (all-at (Stand file lists h) l before no_scorer (omega arith) a) in
      lt_of_ne (omega arith) q.live

  -- a scorer that is on a document can go on
  pub inside_on : (scoring : Scoring) (h : Held) (s : TermScorer) → SafeS 128 (documents file) (scorer_at file lists scoring h.places s)
      → doc_of (scorer_at file lists scoring h.places s) < TERMINATED → Inside lists h s.slot
  inside_on scoring h s k d = rw (full_is scoring file lists s.slot) at (inside 128 (documents file) (scorer_at file lists scoring h.places s) k d).0

-- a scorer that is seated is so as the scorer of its slot
own-seat : (file : List ℕ) (lists : List (List ℕ)) (T : Terms) (h : Held) (s : TermScorer) → Seat file lists T h s → Seat file lists T h (term_at file lists T.scoring h.places s.slot)
own-seat file lists T h s S = record { kept = S.kept; doc-is = refl; max-is = refl }

module _ {file : List ℕ} {lists : List (List ℕ)} {T : Terms} {h : Held} {at : Span} (order : List ℕ) (n : ℕ)
    (A : AtPivot file lists T h (terms_of file lists T.scoring h.places (take n order)) at) where
  abbrev l : List TermScorer
  l = terms_of file lists T.scoring h.places (take n order)

  abbrev before : ℕ
  before = at.pivot.before_pivot_len

  abbrev len : ℕ
  len = at.pivot.pivot_len

  abbrev p : ℕ
  p = at.pivot.pivot_doc

  abbrev f : TermScorer → Scorer Float
  f = scorer_at file lists T.scoring h.places

  first : before < len
  first = A.found.first

  pub stands_at : All (Stand file lists h) l
  stands_at = seats-stand file lists T h l A.seated.seats

  pub pivot-low : p < TERMINATED
  pivot-low = found-low file lists h stands_at A.found

  abbrev OnDocumentBy : Held → TermScorer → Type 0
  OnDocumentBy k s = OnDocument file lists T k s.slot

  -- a scorer on the pivot, safe on the route
  abbrev OnIt : Scorer Float → Type 0
  OnIt z = (doc_of z ≡ p) × SafeS 128 (documents file) z

  module _ {h' : Held} (order' : List ℕ) (O : OnPivot file lists p h l before h' (terms_of file lists T.scoring h'.places (take n order'))) where
    abbrev l' : List TermScorer
    l' = terms_of file lists T.scoring h'.places (take n order')

    abbrev g : TermScorer → Scorer Float
    g = scorer_at file lists T.scoring h'.places

    whole : map g (take before l') ++ map g (drop before (take len l')) ≡ map g (take len l')
    whole =
        let k = first in
        sym (map-append g (take before l') (drop before (take len l')))
        ∙ ap (map g) (ap (λ z. z ++ drop before (take len l')) (sym (take-take before len l' (omega arith))) ∙ take-append-drop before (take len l'))

    -- those before the pivot have come to it
    came : All OnIt (map g (take before l'))
    came =
        let pre = map f (take before l) in
        let low = pivot-low in
        let is = subst (AlignIs 128 p pre) (O.aligned-are T.scoring) (align_is 128 p pre) in
        let safe : All (SafeS 128 (documents file)) pre = rw (map-take f before l) (all_take (SafeS 128 (documents file)) before (map f l) A.safe) in
        let sought = all_map (SafeS 128 (documents file)) (SafeS 128 (documents file)) (seek 128 p) pre (λ s k. (safe-seek 128 (documents file) p s (omega arith) k).safe) safe in
        all-zip (λ z. doc_of z ≡ p) (SafeS 128 (documents file)) OnIt (λ _ d k. (d, k)) (map g (take before l')) is.1 (rw is.0 sought)

    -- the others were on it
    were : All OnIt (map g (drop before (take len l')))
    were =
        let d = len - before in
        let part = drop before (take len l) in
        let cut : (k : TermScorer → Scorer Float) (z : List TermScorer) → map k (drop before (take len z)) ≡ take d (map k (drop before z)) =
        λ k z. ap (map k) (drop-take before len z) ∙ map-take k d (drop before z) in
        let same : map g (drop before (take len l')) ≡ map f part = cut g l' ∙ ap (take d) (O.rest-are T.scoring) ∙ sym (cut f l) in
        let stands = all_drop (Stand file lists h) before (take len l) (all_take (Stand file lists h) len l stands_at) in
        let docs : All (λ z. doc_of z ≡ p) (map f part) =
        all_map (λ s. doc_of (f s) ≡ p) (λ z. doc_of z ≡ p) f part (λ _ e. e)
        (all-zip (Stand file lists h) (λ s. s.doc ≡ p) (λ s. doc_of (f s) ≡ p) (λ s S e. same-doc file lists T.scoring h s S ∙ e) part stands A.found.on) in
        let safe : All (SafeS 128 (documents file)) (map f part) =
        rw (map-drop f before (take len l), map-take f len l) (all_drop (SafeS 128 (documents file)) before (take len (map f l)) (all_take (SafeS 128 (documents file)) len (map f l) A.safe)) in
        rw same (all-zip (λ z. doc_of z ≡ p) (SafeS 128 (documents file)) OnIt (λ _ e k. (e, k)) (map f part) docs safe)

    on-it : All (λ s. OnIt (g s)) (take len l')
    on-it = all-unmap OnIt g (take len l') (rw whole at (all_append OnIt (map g (take before l')) (map g (drop before (take len l'))) came were))

    -- so they are on a document
    pub on-document : len ≤ n → All (OnDocument file lists T h') (take len (take n order'))
    on-document few =
        let low = pivot-low in
        let cut : take len l' ≡ terms_of file lists T.scoring h'.places (take len (take n order')) = sym (map-take (term_at file lists T.scoring h'.places) len (take n order')) in
        all-unmap (OnDocumentBy h') (term_at file lists T.scoring h'.places) (take len (take n order'))
        (rw cut at
        (all-zip (Seat file lists T h') (λ s. OnIt (g s)) (OnDocumentBy h')
        (λ s S o. record {
          seat = own-seat file lists T h' s S;
          live = omega (arith, o.0, same-doc file lists T.scoring h' s (seat-stand _ _ S), S.doc-is);
          inside = inside_on file lists T.scoring h' s o.1 (omega (arith, o.0));
        })
        (take len l') (all_take (Seat file lists T h') len l' (O.carried.seats T A.seated.seats)) on-it))

    -- what a hit leaves, at threshold t
    pub on-hit : {t : Float} {h'' : Held} {order'' : List ℕ} {floats'' : List (List Float)} {r : Step Union} → Hit file lists T t h' order' n len p h'' order'' floats'' r
        → Pivoted file lists T t h order n at h'' order'' floats'' r
    on-hit {t} {h''} {order''} {r = r} D =
        let k = first in
        record {
          left = D.left;
          does = subst (λ (u : Turn (UnionPlace Float) Float). Does file lists T.scoring u h'' order'' r)
              (sym (after-hit 128 t l before len p (omega arith) f g l' (O.aligned-are T.scoring) (O.rest-are T.scoring)))
              (D.does (loads_back (map f (take before l)) (map g (take before l'))));
          few = D.few;
          long = D.long;
        }

  -- what a miss leaves
  pub miss : (t : Float) {h' : Held} {order' : List ℕ} (k : ℕ) → PastPivot file lists p h l before h' (terms_of file lists T.scoring h'.places (take k order')) → k ≤ n → Sixteen order'
      → Pivoted file lists T t h order n at h' order' T.floats (quiet_step k Looking)
  miss t {h'} {order'} k P few long =
      let z = first in
      let m = P.missed-is T.scoring in
      let e = after-miss 128 t l before len p (omega arith) f m.0 m.1 in
      record {
        left = still-seated file lists A.seated P.carried;
        does = record { next-is = ap (λ u. u.next) e ∙ ap (λ ss. go_on ss) (sym m.2); due-is = ap (λ u. u.due) e };
        few = few;
        long = long;
      }

-- scorers on documents can still advance
pub inside-unmoved : {file : List ℕ} {lists : List (List ℕ)} {scoring : Scoring} {norms : List (List Float)} {floats floats' : List (List Float)} {h h' : Held}
    → Unmoved file lists scoring norms floats h floats' h' → (qs : List ℕ) → All (OnDocument file lists (terms scoring norms floats) h) qs → All (Inside lists h') qs
inside-unmoved {file} {lists} {scoring} {norms} {floats} {h = h} {h' = h'} U qs a =
    all-imp (OnDocument file lists (terms scoring norms floats) h) (Inside lists h') qs
    (λ q o. rw (ap (λ (c : Cursor). c.blk) (U.cursor-is q)) o.inside) a

-- the scorers on the pivot are scored, and stay
module _ (file : List ℕ) (lists : List (List ℕ)) (T : Terms) (t : Float) (h : Held) (order : List ℕ) (n len p : ℕ) (few : len ≤ n) {score : Float}
    (e : score ≡ sum f32 (map score_here (map (slot_scorer file lists T.scoring h.places) (take len order))))
    {h₁ : Held} {floats₁ : List (List Float)} (U : Unmoved file lists T.scoring T.norms T.floats h floats₁ h₁)
    (S : Seated file lists T h (terms_of file lists T.scoring h.places (take n order))) where
  abbrev at-route : TermScorer → Scorer Float
  at-route = scorer_at file lists T.scoring h.places

  abbrev all : List TermScorer
  all = terms_of file lists T.scoring h.places (take n order)

  score-is : score ≡ sum f32 (map score_here (map at-route (take len all)))
  score-is =
      let term = term_at file lists T.scoring h.places in
      e ∙ ap (λ z. sum f32 (map score_here (map (slot_scorer file lists T.scoring h.places) z))) (sym (take-take len n order few))
      ∙ ap (λ z. sum f32 (map score_here z)) (sym (map-map at-route term (take len (take n order))) ∙ ap (map at-route) (map-take term len (take n order)))

  pub seated₁ : Seated file lists (terms T.scoring T.norms floats₁) h₁ (terms_of file lists T.scoring h₁.places (take n order))
  seated₁ = seated-unmoved U (take n order) S

  place_same : (stage : Stage) → place_in file lists T.scoring h.places stage all ≡ place_in file lists T.scoring h₁.places stage (terms_of file lists T.scoring h₁.places (take n order))
  place_same stage = ap (λ z. record { stage = stage_of stage; scorers = z }) (sym (rw (terms-unmoved U (take n order)) (scorers-unmoved U all)))

  -- a report is due
  pub hit-due : f32.above score t ≡ true → n ≤ 16 → Sixteen order
      → Hit file lists T t h order n len p h₁ order floats₁ (record { to = record { len = n; stage = Called len }; due = Some (p, score) })
  hit-due q small long = record {
    left = seated₁;
    does = λ ls.
        let d = scored-due 128 t p ls at-route all len (omega (arith, length-map (take n order) (term_at file lists T.scoring h.places), length-take n order)) (rw score-is at q) in
        record { next-is = ap (λ u. u.next) d ∙ place_same (Called len); due-is = ap (λ u. u.due) d ∙ ap (λ (x : Float). some (record { doc = p; score = x })) (sym score-is) };
    few = omega arith;
    long = long;
  }

  -- none is due, and they have advanced
  pub hit-quiet : f32.above score t ≡ false → {h' : Held} {order' : List ℕ} {k : ℕ} → AdvancedAll file lists h₁ order n len h' order' k
      → Hit file lists T t h order n len p h' order' floats₁ (quiet_step k Looking)
  hit-quiet q {h'} {order'} {k} D =
      let A = D.on T.scoring in
      let e = rw (terms-unmoved U (take n order), scorers-unmoved U (take len all), scorers-unmoved U (drop len all)) at A.scorers-are in
      record {
        left = still-seated file lists seated₁ A.carried;
        does = λ ls.
            let d = scored-quiet 128 t p ls at-route all len (rw score-is at q) in
            record { next-is = ap (λ u. u.next) d ∙ ap (λ ss. go_on ss) (sym e); due-is = ap (λ u. u.due) d };
        few = D.few;
        long = D.long;
      }

-- `align_scorers`' answer
module _ {file : List ℕ} {lists : List (List ℕ)} {p : ℕ} {h h' : Held} {order order' : List ℕ} {n before : ℕ} {r : Alignment} (E : Aligns file lists p h order n before h' order' r) (s : Scoring) where
  abbrev was : List TermScorer
  was = terms_of file lists s h.places (take n order)

  pub came-to : r.on_pivot ≡ true → OnPivot file lists p h was before h' (terms_of file lists s h'.places (take n order'))
  came-to e =
      rw (E.all e) at
      (subst (λ (b : Bool). AlignedBy file lists b p h was before h' (terms_of file lists s h'.places (take r.len order'))) e (E.by s))

  pub went-past : r.on_pivot ≡ false → PastPivot file lists p h was before h' (terms_of file lists s h'.places (take r.len order'))
  went-past e = subst (λ (b : Bool). AlignedBy file lists b p h was before h' (terms_of file lists s h'.places (take r.len order'))) e (E.by s)
