-- A turn of the union's loop, in the words of the scorers in their order: no pivot, blocks too low, or the scorers sent to the pivot, with a miss or a hit.
use mathlib.Core.Bool.{cond, false, true}
use mathlib.Core.List.{List, append-nil, map, [], ◌++◌, ◌∷◌}
use mathlib.Core.Option.{some}
use mathlib.Core.Path.{ap, sym, ◌∙◌, ◌≡◌}
use Prim.Native.Nat.{ℕ, ◌+◌, ◌-◌, ◌≤◌}
use native.Mathlib.Omega.{arith}
use lib.ListN.{drop, length, length-map, length-take, take, take-append-drop}
use lib.Seq.{drop-drop, take-take}
use lib.Ieee.{Float}
use Rattle.arrays.specs.Every.{All}
use Rattle.route.specs.Score.{sum}
use Rattle.route.specs.F32.{f32}
use Rattle.route.specs.Scorer.{Scorer, advance, block_max_score, score_here, seek_block}
use Rattle.route.specs.Route.{Load, Turn, loads_back, loads_of, quiet}
use Rattle.route.specs.Union.{Around, UnionPlace, advance_all_scorers_on_pivot, after_align, after_pivot, align_scorers, aligned, block_max_was_too_low, called, go_on, missed, missed_on, on_pivot, over, scored, too_low_loads, union_turn}
use Rattle.ordering.specs.Inner.Pivots.{pivot, pivot_of, Found}
use Rattle.ordering.specs.Inner.Scorers.{Moving}
use Rattle.term_scorer.specs.declared.TermScorer.{TermScorer}
use Rattle.std.specs.Prelude.{Some, None}
use Rattle.ordering.proofs.Places.{drop-take, join, map-append, map-drop, map-take}
use Rattle.ordering.proofs.OnRoute.{Fair, pivot-on-route, pivot_in}
use Rattle.ordering.proofs.Found.{pivot-found}
use Rattle.ordering.proofs.Moving.{all_same}

module _ (B : ℕ) (t : Float) (l : List TermScorer) (before len p : ℕ) (first : before ≤ len) where
  -- the pivot's scorers follow those before it
  whole : (g : TermScorer → Scorer Float) (l' : List TermScorer) → map g (take before l') ++ map g (drop before (take len l')) ≡ map g (take len l')
  whole g l' =
      sym (map-append g (take before l') (drop before (take len l')))
      ∙ ap (map g) (ap (λ z. z ++ drop before (take len l')) (sym (take-take before len l' first)) ∙ take-append-drop before (take len l'))

  -- the turn behind the `seek_block`s: onto the pivot if the block bounds of all the scorers up to it exceed t, else one of them goes on
  abbrev turned : (pre piv all post : List (Scorer Float)) → Turn (UnionPlace Float) Float
  turned pre piv all post =
      cond (f32.above (sum f32 (map (block_max_score B f32) all)) t) (after_align B f32 t pre (align_scorers B p pre) p piv post)
      (quiet (go_on (block_max_was_too_low B f32 all post)) (too_low_loads B f32 all post))

  pivot-turn : {f g : TermScorer → Scorer Float} → Moving (seek_block B p) f l len g l
      → on_pivot B f32 t (record { pre = map f (take before l); piv = map f (drop before (take len l)); post = map f (drop len l); doc = p })
      ≡ turned (map g (take before l)) (map g (drop before (take len l))) (map g (take len l)) (map g (drop len l))
  pivot-turn {f} {g} S =
      let m = seek_block B p in
      let cut : (h : TermScorer → Scorer Float) → map h (take before l) ≡ take before (map h (take len l)) =
      λ h. sym (ap (map h) (take-take before len l first)) ∙ map-take h before (take len l) in
      let pre : map m (map f (take before l)) ≡ map g (take before l) =
      ap (map m) (cut f) ∙ map-take m before (map f (take len l)) ∙ ap (take before) (sym S.front) ∙ sym (cut g) in
      let piv : map m (map f (drop before (take len l))) ≡ map g (drop before (take len l)) =
      ap (map m) (map-drop f before (take len l)) ∙ map-drop m before (map f (take len l)) ∙ ap (drop before) (sym S.front)
      ∙ sym (map-drop g before (take len l)) in
      let post : map f (drop len l) ≡ map g (drop len l) = sym (all_same f g (drop len l) S.same) in
      let pre-was = map m (map f (take before l)) in
      let piv-was = map m (map f (drop before (take len l))) in
      let pre-now = map g (take before l) in
      let piv-now = map g (drop before (take len l)) in
      ap (λ z. turned z piv-was (z ++ piv-was) (map f (drop len l))) pre ∙ ap (λ z. turned pre-now z (pre-now ++ z) (map f (drop len l))) piv
      ∙ ap (λ z. turned pre-now piv-now z (map f (drop len l))) (whole g l) ∙ ap (turned pre-now piv-now (map g (take len l))) post

  -- from the pivot that `find_pivot_doc` found
  found_turn : {f g : TermScorer → Scorer Float} → All (Fair f) l → Some (pivot before len p) ≡ pivot_of t l
      → Moving (seek_block B p) f l len g l
      → union_turn B f32 t (go_on (map f l)) ≡ turned (map g (take before l)) (map g (drop before (take len l))) (map g (take len l)) (map g (drop len l))
  found_turn {f} fair e S =
      ap (λ o. after_pivot B f32 t o (map f l)) (pivot-on-route f t l fair ∙ ap (pivot_in f l) (sym e)) ∙ pivot-turn S

  module _ (g : TermScorer → Scorer Float) where
    abbrev pre : List (Scorer Float)
    pre = map g (take before l)

    abbrev after : Turn (UnionPlace Float) Float
    after = after_align B f32 t pre (align_scorers B p pre) p (map g (drop before (take len l))) (map g (drop len l))

    -- one scorer missed the pivot, and was put back
    pub after-miss : (m : Around Float) → align_scorers B p pre ≡ missed m
        → after ≡ quiet (go_on (missed_on m (map g (drop before l)))) (loads_back pre (m.left ++ (m.one ∷ m.right)))
    after-miss m e =
        ap (λ a. after_align B f32 t pre a p (map g (drop before (take len l))) (map g (drop len l))) e
        ∙ ap (λ z. quiet (go_on (missed_on m z)) (loads_back pre (m.left ++ (m.one ∷ m.right))))
        (sym (map-append g (drop before (take len l)) (drop len l)) ∙ ap (map g) (join before len l first))

    -- all came to the pivot: the first len are scored
    pub after-hit : (h : TermScorer → Scorer Float) (l' : List TermScorer) → align_scorers B p pre ≡ aligned (map h (take before l'))
        → map h (drop before l') ≡ map g (drop before l)
        → after ≡ scored B f32 t p (loads_back pre (map h (take before l'))) (map h (take len l')) (map h (drop len l'))
    after-hit h l' e rest =
        let d = len - before in
        let n : before + d ≡ len = omega arith in
        let cut : (k : TermScorer → Scorer Float) (z : List TermScorer) → map k (drop before (take len z)) ≡ take d (map k (drop before z)) =
        λ k z. ap (map k) (drop-take before len z) ∙ map-take k d (drop before z) in
        let cut' : (k : TermScorer → Scorer Float) (z : List TermScorer) → map k (drop len z) ≡ drop d (map k (drop before z)) =
        λ k z. ap (map k) (ap (λ (y : ℕ). drop y z) (sym n) ∙ sym (drop-drop d before z)) ∙ map-drop k d (drop before z) in
        let piv : map g (drop before (take len l)) ≡ map h (drop before (take len l')) = cut g l ∙ ap (take d) (sym rest) ∙ sym (cut h l') in
        let post : map g (drop len l) ≡ map h (drop len l') = cut' g l ∙ ap (drop d) (sym rest) ∙ sym (cut' h l') in
        let on = map h (take before l') in
        let next : List (Scorer Float) → List (Scorer Float) → Turn (UnionPlace Float) Float = scored B f32 t p (loads_back pre on) in
        ap (λ a. after_align B f32 t pre a p (map g (drop before (take len l))) (map g (drop len l))) e
        ∙ ap (λ z. next (on ++ z) (map g (drop len l))) piv ∙ ap (λ z. next z (map g (drop len l))) (whole h l') ∙ ap (next (map h (take len l'))) post

-- the first len stand on the pivot p, and are scored
module _ (B : ℕ) (t : Float) (p : ℕ) (ls : List Load) (h : TermScorer → Scorer Float) (l : List TermScorer) (len : ℕ) where
  abbrev on : List (Scorer Float)
  on = map h (take len l)

  abbrev score : Float
  score = sum f32 (map score_here on)

  -- above the threshold: a report, and they stay
  pub scored-due : len ≤ length l → f32.above score t ≡ true
      → scored B f32 t p ls on (map h (drop len l))
      ≡ record { next = record { stage = called len; scorers = map h l }; due = some (record { doc = p; score = score }); loads = ls }
  scored-due few b =
      let n : length on ≡ len = length-map (take len l) h ∙ omega (arith, length-take len l) in
      let all : on ++ map h (drop len l) ≡ map h l = sym (map-append h (take len l) (drop len l)) ∙ ap (map h) (take-append-drop len l) in
      rw (b, n, all, append-nil ls)

  -- not above it: none, and they advance
  pub scored-quiet : f32.above score t ≡ false
      → scored B f32 t p ls on (map h (drop len l))
      ≡ quiet (go_on (advance_all_scorers_on_pivot B on (map h (drop len l)))) (ls ++ loads_of on (map (advance B) on))
  scored-quiet b = rw b

  -- behind a report they advance
  pub called-turn : union_turn B f32 t (record { stage = called len; scorers = map h l })
      ≡ quiet (go_on (advance_all_scorers_on_pivot B on (map h (drop len l)))) (loads_of on (map (advance B) on))
  called-turn =
      let first = sym (map-take h len l) in
      let rest = sym (map-drop h len l) in
      rw (first, rest)

module _ (B : ℕ) (t : Float) (l : List TermScorer) (f : TermScorer → Scorer Float) (fair : All (Fair f) l) where
  -- no pivot ends the loop
  pub nowhere-turn : None ≡ pivot_of t l → union_turn B f32 t (go_on (map f l)) ≡ quiet (record { stage = over; scorers = map f l }) []
  nowhere-turn e = ap (λ o. after_pivot B f32 t o (map f l)) (pivot-on-route f t l fair ∙ ap (pivot_in f l) (sym e))

  -- at a pivot, with the first len on their blocks for it
  module _ (before len p : ℕ) (found : Some (pivot before len p) ≡ pivot_of t l) (g : TermScorer → Scorer Float) (sought : Moving (seek_block B p) f l len g l) where
    abbrev block_max_sum : Float
    block_max_sum = sum f32 (map (block_max_score B f32) (map g (take len l)))

    places : Found l before len p
    places = pivot-found t l found

    ordered : before ≤ len
    ordered = let q = places in omega arith

    -- one scorer goes on
    pub low_turn : (ss : List (Scorer Float)) → f32.above block_max_sum t ≡ false → ss ≡ block_max_was_too_low B f32 (map g (take len l)) (map g (drop len l))
        → union_turn B f32 t (go_on (map f l)) ≡ quiet (go_on ss) (too_low_loads B f32 (map g (take len l)) (map g (drop len l)))
    low_turn ss low e =
        found_turn B t l before len p ordered fair found sought ∙ (rw low)
        ∙ ap (λ z. quiet (go_on z) (too_low_loads B f32 (map g (take len l)) (map g (drop len l)))) (sym e)

    -- the scorers before the pivot are sent to it
    pub high-turn : (u : Turn (UnionPlace Float) Float) → f32.above block_max_sum t ≡ true
        → u ≡ after_align B f32 t (map g (take before l)) (align_scorers B p (map g (take before l))) p (map g (drop before (take len l))) (map g (drop len l))
        → union_turn B f32 t (go_on (map f l)) ≡ u
    high-turn u high e = found_turn B t l before len p ordered fair found sought ∙ (rw high) ∙ sym e
