-- A loop that moves the first scorers one after the other, each in its own slot.
use mathlib.Core.List.{List, map, [], ◌++◌, ◌∷◌}
use mathlib.Core.Path.{ap, refl, sym, ◌∙◌, ◌≡◌}
use Prim.Native.Nat.{suc, ℕ, ◌+◌, ◌<◌}
use native.Mathlib.Nat.{add-zero}
use native.Mathlib.Numerals.{add-one}
use native.Mathlib.Omega.{arith}
use lib.ListN.{drop, get_or, length, length-map, set, take, take-append-drop}
use lib.Seq.{drop-cons, drop-drop, drop-set-lt, get_or-drop, set-get_or, take-suc, take-suc-set}
use lib.Ieee.{Float}
use Rattle.arrays.specs.Every.{All}
use Rattle.route.specs.Scorer.{Scorer}
use Rattle.ordering.specs.Inner.Scorers.{Apart, Moving, Same, no_scorer, slot_of}
use Rattle.term_scorer.specs.declared.TermScorer.{TermScorer}
use Rattle.ordering.proofs.Places.{map-append}
use Rattle.ordering.proofs.Kept.{others_apart, slots_apart}
use Rattle.ordering.proofs.Turns.{SameOff, all-off, replaced-slots, same_map}

pub all_same : (f g : TermScorer → Scorer Float) (l : List TermScorer) → All (Same f g) l → map g l ≡ map f l
all_same f g [] a = refl
all_same f g (x ∷ l) a = let h = a.0 in let t = all_same f g l a.1 in rw (h, t)

pub all-refl : (f : TermScorer → Scorer Float) (l : List TermScorer) → All (Same f f) l
all-refl f [] = tt
all-refl f (x ∷ l) = (refl, all-refl f l)

pub slots_length : (l l' : List TermScorer) → map slot_of l' ≡ map slot_of l → length l' ≡ length l
slots_length l l' e = sym (length-map l' slot_of) ∙ ap length e ∙ length-map l slot_of

module _ (m : Scorer Float → Scorer Float) (f : TermScorer → Scorer Float) (l : List TermScorer) where
  pub moving : Moving m f l 0 f l
  moving = record { slots = refl; front = refl; rest = refl; same = all-refl f l }

  module _ {i : ℕ} {g : TermScorer → Scorer Float} {l' : List TermScorer} (S : Moving m f l i g l') where
    pub moves : (g' : TermScorer → Scorer Float) (x' : TermScorer) → i < length l → Apart l → x'.slot ≡ (get_or l' i no_scorer).slot
        → SameOff (get_or l' i no_scorer).slot g g' → g' x' ≡ m (g (get_or l' i no_scorer)) → Moving m f l (i + 1) g' (set l' i x')
    moves g' x' h apart e off s =
        let x = get_or l' i no_scorer in
        let y = get_or l i no_scorer in
        let long = slots_length l l' S.slots in
        let h' : i < length l' = omega arith in
        let z : i + 0 ≡ i = add-zero i in
        let xy : x ≡ y = rw (z) at (sym (get_or-drop i l' 0 no_scorer) ∙ ap (λ (k : List TermScorer). get_or k 0 no_scorer) S.rest ∙ get_or-drop i l 0 no_scorer) in
        let same = rw (drop-cons l i no_scorer h) at S.same in
        let o' = others_apart l' i h' (slots_apart l l' S.slots apart) in
        let o = others_apart l i h apart in
        let off' : SameOff y.slot g g' = rw xy at off in
        let here : g' x' ≡ m (f y) = s ∙ ap m (ap g xy ∙ same.0) in
        record {
          slots = replaced-slots l' i x' e ∙ S.slots;
          front =
              rw (
                add-one,
                take-suc-set l' i x' h',
                take-suc l i no_scorer h,
                map-append g' (take i l') (x' ∷ []),
                map-append f (take i l) (y ∷ []),
                map-append m (map f (take i l)) (f y ∷ []),
                here,
                same_map g g' x.slot off (take i l') o'.0,
                S.front,
              );
          rest =
              rw (add-one, drop-set-lt (suc i) l' i x' (omega arith))
              (sym (rw add-one at (drop-drop 1 i l')) ∙ ap (drop 1) S.rest ∙ rw add-one at (drop-drop 1 i l));
          same = rw add-one (all-off (Same f g) (Same f g') y.slot (λ t q w. off' t q ∙ w) (drop (suc i) l) o.1 same.1);
        }

    -- a scorer that stays on its document
    pub moves-on-doc : (g' : TermScorer → Scorer Float) → i < length l → Apart l → SameOff (get_or l' i no_scorer).slot g g'
        → g' (get_or l' i no_scorer) ≡ m (g (get_or l' i no_scorer)) → Moving m f l (i + 1) g' l'
    moves-on-doc g' h apart off s = rw (set-get_or l' i no_scorer) at (moves g' (get_or l' i no_scorer) h apart refl off s)

    pub moved_all : map g l' ≡ map m (map f (take i l)) ++ map f (drop i l)
    moved_all =
        sym (ap (map g) (take-append-drop i l')) ∙ map-append g (take i l') (drop i l') ∙ ap (λ z. z ++ map g (drop i l')) S.front
        ∙ ap (λ z. map m (map f (take i l)) ++ map g z) S.rest ∙ ap (λ z. map m (map f (take i l)) ++ z) (all_same f g (drop i l) S.same)
