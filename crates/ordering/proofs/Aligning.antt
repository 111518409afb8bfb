-- `align_scorers`' loop: the scorers before the pivot seek it one after the other, from the last to the first, each in its own slot, until one misses.
use mathlib.Core.List.{List, append-nil, map, [], ◌++◌, ◌∷◌}
use mathlib.Core.Path.{ap, refl, sym, ◌∙◌, ◌≡◌}
use Prim.Native.Nat.{suc, ℕ, ◌+◌, ◌-◌, ◌<◌, ◌≤◌}
use native.Mathlib.Omega.{arith}
use lib.Dec.{eqb}
use lib.ListN.{drop, get_or, length, length-set, set, take, take-append-drop}
use lib.Seq.{drop-drop, drop-set-lt, get_or-set_same, get_or-take, take-set-le, take-set-lt, take-take}
use lib.Ieee.{Float}
use borrow.Author.Tests.{eq-eqb, ne_eqb}
use Rattle.arrays.specs.Every.{All}
use Rattle.route.specs.Scorer.{Scorer, doc_of, seek}
use Rattle.route.specs.Union.{Around, align_on, align_scorers, aligned, missed}
use Rattle.ordering.specs.Inner.Scorers.{Apart, no_scorer, slot_of, Same}
use Rattle.term_scorer.specs.declared.TermScorer.{TermScorer}
use Rattle.ordering.proofs.Places.{all_drop, all_first, all_take, drop-take, drop-take-cons, drop-take-nil, map-append}
use Rattle.ordering.proofs.Kept.{Off, others_apart, slots_apart}
use Rattle.ordering.proofs.Turns.{SameOff, all-off, replaced-slots, same_map}
use Rattle.ordering.proofs.Moving.{all-refl, all_same, slots_length}

module _ (B p : ℕ) where
  -- those before the ones that sought stay where they were
  align-before : (xs ss : List (Scorer Float)) (m : Around Float) → align_scorers B p ss ≡ missed m
      → align_scorers B p (xs ++ ss) ≡ missed (record { left = xs ++ m.left; one = m.one; right = m.right })
  align-before [] ss m e = e
  align-before (x ∷ xs) ss m e = ap (align_on B p x) (align-before xs ss m e)

  -- the scorers from place i up to before have come onto the pivot, and nothing else has changed
  pub record Aligning (f : TermScorer → Scorer Float) (l : List TermScorer) (before i : ℕ) (g : TermScorer → Scorer Float) (l' : List TermScorer) : Type 0 where
    pub inside : i ≤ before
    pub slots : map slot_of l' ≡ map slot_of l
    pub front : take i l' ≡ take i l
    pub front_same : All (Same f g) (take i l)
    pub on : align_scorers B p (map f (drop i (take before l))) ≡ aligned (map g (drop i (take before l')))
    pub rest : drop before l' ≡ drop before l
    pub rest-same : All (Same f g) (drop before l)

  -- what a miss at place j leaves
  pub record Missed (f : TermScorer → Scorer Float) (l : List TermScorer) (before j : ℕ) (g : TermScorer → Scorer Float) (l' : List TermScorer) : Type 0 where
    pub inside : j < before
    pub slots : map slot_of l' ≡ map slot_of l
    pub answer : align_scorers B p (map f (take before l))
        ≡ missed (record { left = map g (take j l'); one = g (get_or l' j no_scorer); right = map g (drop (suc j) (take before l')) })
    pub rest : map g (drop before l') ≡ map f (drop before l)

  module _ (f : TermScorer → Scorer Float) (l : List TermScorer) (before : ℕ) where
    pub aligning : Aligning f l before before f l
    aligning = record {
      inside = omega arith;
      slots = refl;
      front = refl;
      front_same = all-refl f (take before l);
      on = let e = drop-take-nil l before before (omega arith) in rw e;
      rest = refl;
      rest-same = all-refl f (drop before l);
    }

    module _ {i : ℕ} {g : TermScorer → Scorer Float} {l' : List TermScorer} (S : Aligning f l before i g l') where
      pub all-aligned : i ≤ 0 → align_scorers B p (map f (take before l)) ≡ aligned (map g (take before l'))
      all-aligned h =
          let z : i ≡ 0 = omega arith in
          sym (ap (λ (k : ℕ). align_scorers B p (map f (drop k (take before l)))) z) ∙ S.on ∙ ap (λ (k : ℕ). aligned (map g (drop k (take before l')))) z

      -- the one before place i seeks the pivot
      module _ (pos : 0 < i) (fits : before ≤ length l) (apart : Apart l) (g' : TermScorer → Scorer Float) (x' : TermScorer) (slot_is : x'.slot ≡ (get_or l' (i - 1) no_scorer).slot)
          (off : SameOff (get_or l' (i - 1) no_scorer).slot g g') (sought : g' x' ≡ seek B p (g (get_or l' (i - 1) no_scorer))) where
        abbrev j : ℕ
        j = i - 1

        abbrev x : TermScorer
        x = get_or l' j no_scorer

        abbrev y : TermScorer
        y = get_or l j no_scorer

        abbrev out : List TermScorer
        out = set l' j x'

        abbrev right : List (Scorer Float)
        right = map g (drop i (take before l'))

        inside : j < before
        inside = let k = S.inside in omega arith

        long : length l' ≡ length l
        long = slots_length l l' S.slots

        i-is : suc j ≡ i
        i-is = omega arith

        x-is : x ≡ y
        x-is = sym (get_or-take i l' j no_scorer (omega arith)) ∙ ap (λ (k : List TermScorer). get_or k j no_scorer) S.front ∙ get_or-take i l j no_scorer (omega arith)

        -- the one that seeks is where it was
        one-is : seek B p (f y) ≡ g' x'
        one-is =
            let k = S.inside in
            let same : g y ≡ f y = all_first (Same f g) l i j no_scorer (omega arith) (omega arith) S.front_same in
            sym (sought ∙ ap (seek B p) (ap g x-is ∙ same))

        -- g' says of the others what g says
        still : (ss : List TermScorer) → All (Off y.slot) ss → All (Same f g) ss → All (Same f g') ss
        still ss = all-off (Same f g) (Same f g') y.slot (λ t q w. off t (rw x-is q) ∙ w) ss

        others : All (Off y.slot) (take j l) × All (Off y.slot) (drop (suc j) l)
        others = let h = inside in others_apart l j (omega arith) apart

        right_is : map g' (drop i (take before out)) ≡ right
        right_is =
            let h = inside in
            let e = long in
            let o = rw i-is at (others_apart l' j (omega arith) (slots_apart l l' S.slots apart)).1 in
            let a : All (Off x.slot) (drop i (take before l')) = rw (drop-take i before l') (all_take (Off x.slot) (before - i) (drop i l') o) in
            ap (λ z. map g' (drop i z)) (take-set-lt before l' j x' h) ∙ ap (map g') (drop-set-lt i (take before l') j x' (omega arith))
            ∙ same_map g g' x.slot off (drop i (take before l')) a

        out-is : map g' (drop j (take before out)) ≡ g' x' ∷ right
        out-is =
            let h = inside in
            let e = long in
            let n = length-set l' j x' in
            let put : get_or out j no_scorer ≡ x' = get_or-set_same l' j x' no_scorer (omega arith) in
            let cons : drop j (take before out) ≡ x' ∷ drop i (take before out) = rw (put, i-is) at (drop-take-cons out before j no_scorer h (omega arith)) in
            ap (map g') cons ∙ ap (λ z. g' x' ∷ z) right_is

        turn : align_scorers B p (map f (drop j (take before l))) ≡ align_on B p (f y) (aligned right)
        turn =
            ap (λ z. align_scorers B p (map f z)) (drop-take-cons l before j no_scorer inside fits)
            ∙ ap (λ (k : ℕ). align_on B p (f y) (align_scorers B p (map f (drop k (take before l))))) i-is ∙ ap (align_on B p (f y)) S.on

        test : eqb (doc_of (seek B p (f y))) p ≡ eqb (doc_of (g' x')) p
        test = ap (λ (z : Scorer Float). eqb (doc_of z) p) one-is

        front-is : take j out ≡ take j l
        front-is =
            take-set-le j l' j x' (omega arith) ∙ sym (take-take j i l' (omega arith)) ∙ ap (take j) S.front ∙ take-take j i l (omega arith)

        front-still : All (Same f g') (take j l)
        front-still = still (take j l) others.0 (rw (take-take j i l (omega arith)) at (all_take (Same f g) j (take i l) S.front_same))

        rest-is : drop before out ≡ drop before l
        rest-is = drop-set-lt before l' j x' inside ∙ S.rest

        rest-still : All (Same f g') (drop before l)
        rest-still =
            let h = inside in
            let e : suc j + (before - suc j) ≡ before = omega arith in
            still (drop before l) (rw (drop-drop (before - suc j) (suc j) l, e) at (all_drop (Off y.slot) (before - suc j) (drop (suc j) l) others.1)) S.rest-same

        pub aligns : doc_of (g' x') ≡ p → Aligning f l before j g' out
        aligns q =
            let t = eq-eqb (doc_of (g' x')) p q in
            record {
              inside = let h = inside in omega arith;
              slots = replaced-slots l' j x' slot_is ∙ S.slots;
              front = front-is;
              front_same = front-still;
              on = turn ∙ (rw (test, t)) ∙ ap (λ (z : Scorer Float). aligned (z ∷ right)) one-is ∙ ap aligned (sym out-is);
              rest = rest-is;
              rest-same = rest-still;
            }

        pub misses : (doc_of (g' x') ≡ p → ⊥) → Missed f l before j g' out
        misses q =
            let t = ne_eqb (doc_of (g' x')) p q in
            let h = inside in
            let e = long in
            let xs = map f (take j l) in
            let miss : align_scorers B p (map f (drop j (take before l))) ≡ missed (record { left = []; one = g' x'; right = right }) =
            turn ∙ (rw (test, t)) ∙ ap (λ (z : Scorer Float). missed (record { left = []; one = z; right = right })) one-is in
            let split : map f (take before l) ≡ xs ++ map f (drop j (take before l)) =
            sym (ap (map f) (take-append-drop j (take before l))) ∙ map-append f (take j (take before l)) (drop j (take before l))
            ∙ ap (λ z. map f z ++ map f (drop j (take before l))) (take-take j before l (omega arith)) in
            let left : xs ++ [] ≡ map g' (take j out) = append-nil xs ∙ sym (ap (map g') front-is ∙ all_same f g' (take j l) front-still) in
            let put : get_or out j no_scorer ≡ x' = get_or-set_same l' j x' no_scorer (omega arith) in
            record {
              inside = h;
              slots = replaced-slots l' j x' slot_is ∙ S.slots;
              answer =
                  ap (align_scorers B p) split ∙ align-before xs (map f (drop j (take before l))) (record { left = []; one = g' x'; right = right }) miss
                  ∙ (rw (left, put, i-is, right_is));
              rest = ap (map g') rest-is ∙ all_same f g' (drop before l) rest-still;
            }
