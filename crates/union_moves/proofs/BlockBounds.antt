-- `seek_blocks`' loop: one skip reader after the other seeks the pivot, and its block's bound is added.
use mathlib.Core.List.{List, map, [], ◌++◌, ◌∷◌}
use mathlib.Core.Path.{ap, refl, subst, sym, ◌∙◌, ◌≡◌}
use Prim.Native.Nat.{ℕ, ◌+◌, ◌<◌}
use native.Mathlib.Numerals.{add-one}
use lib.ListN.{get_or, length, set, take}
use lib.Seq.{drop-cons, set-get_or, take-suc}
use lib.Ieee.{Float}
use Rattle.arrays.specs.Every.{All}
use Rattle.route.specs.Score.{sum_from}
use Rattle.route.specs.Cursor.{Cursor, seek_block_in}
use Rattle.route.specs.F32.{f32}
use Rattle.route.specs.Scorer.{Scorer, block_max_score, seek_block}
use Rattle.bm25.specs.declared.Scoring.{Scoring}
use Rattle.ordering.specs.Inner.Scorers.{Apart, no_scorer, Moving}
use Rattle.term_scorer.specs.declared.TermScorer.{TermScorer}
use Rattle.ordering.proofs.Places.{all-at, map-append}
use Rattle.ordering.proofs.Turns.{replaced-all}
use Rattle.ordering.proofs.Moving.{moves-on-doc, moving}
use Rattle.term_scorer.specs.Inner.Slots.{cursor_at, held, list_at, Shallowed}
use Rattle.slot_bounds.specs.Inner.Bounds.{Bounded}
use Rattle.term_scorer.specs.Inner.Weights.{FloatRows}
use Rattle.union_moves.specs.Inner.Seats.{Seat, Terms, scorer_at, terms}
use Rattle.union_moves.specs.Inner.Moves.{BlocksSought}
use Rattle.union_moves.proofs.Seats.{bound-here, bounded-rows, bounded-seat, other-scorers, other-seat, shallow-scorer}

-- one value more
pub sum-snoc : (xs : List Float) (acc x : Float) → sum_from f32 acc (xs ++ (x ∷ [])) ≡ f32.add (sum_from f32 acc xs) x
sum-snoc [] acc x = refl
sum-snoc (y ∷ ys) acc x = sum-snoc ys (f32.add acc y) x

module _ (file : List ℕ) (lists : List (List ℕ)) (T : Terms) (places : List (List ℕ)) (blocks : List (List (List ℕ))) (doc : ℕ) (l : List TermScorer) where
  abbrev f : TermScorer → Scorer Float
  f = scorer_at file lists T.scoring places

  abbrev with : List (List Float) → Terms
  with floats = terms T.scoring T.norms floats

  -- the first i have sought, and the bounds of their blocks are added up
  pub record Bounding (i : ℕ) (places' : List (List ℕ)) (floats' : List (List Float)) (sum : Float) : Type 0 where
    pub seats : All (Seat file lists (with floats') (held places' blocks)) l
    pub moved : Moving (seek_block 128 doc) f l i (scorer_at file lists T.scoring places') l
    pub sum_is : sum ≡ sum_from f32 f32.nil (map (block_max_score 128 f32) (map (seek_block 128 doc) (map f (take i l))))
    pub rows : FloatRows floats'

  pub bounding : All (Seat file lists T (held places blocks)) l → FloatRows T.floats → Bounding 0 places T.floats f32.nil
  bounding a n = record { seats = a; moved = moving (seek_block 128 doc) f l; sum_is = refl; rows = n }

  module _ {i : ℕ} {places' : List (List ℕ)} {floats' : List (List Float)} {sum : Float} (S : Bounding i places' floats' sum) where
    pub seat-at : (inside : i < length l) → Seat file lists (with floats') (held places' blocks) (get_or l i no_scorer)
    seat-at inside = all-at (Seat file lists (with floats') (held places' blocks)) l i no_scorer inside S.seats

    pub bounds-next : i < length l → Apart l → (q₀ : ℕ) → (get_or l i no_scorer).slot ≡ q₀ → {places₁ places₂ : List (List ℕ)} {bounds₂ : List Float} {r : Float}
        → Shallowed file lists q₀ (λ k. seek_block_in (list_at k file lists q₀) 128 doc (cursor_at places' q₀)) places' places₁
        → Bounded T.scoring file lists q₀ places₁ (get_or floats' 0 []) places₂ bounds₂ r → Bounding (i + 1) places₂ (set floats' 0 bounds₂) (f32.add sum r)
    bounds-next inside apart q₀ e {places₁} {places₂} {bounds₂} {r} M₀ B₀ =
        let x = get_or l i no_scorer in
        let q = x.slot in
        let to : Scoring → Cursor = λ k. seek_block_in (list_at k file lists q) 128 doc (cursor_at places' q) in
        let M : Shallowed file lists q to places' places₁ =
        subst (λ (z : ℕ). Shallowed file lists z (λ k. seek_block_in (list_at k file lists z) 128 doc (cursor_at places' z)) places' places₁) (sym e) M₀ in
        let B : Bounded T.scoring file lists q places₁ (get_or floats' 0 []) places₂ bounds₂ r = subst (λ (z : ℕ). Bounded T.scoring file lists z places₁ (get_or floats' 0 []) places₂ bounds₂ r) (sym e) B₀ in
        let X = seat-at inside in
        let g = scorer_at file lists T.scoring places' in
        let here : g x ≡ f x = (rw (drop-cons l i no_scorer inside) at S.moved.same).0 in
        let sought : Scorer Float = seek_block 128 doc (f x) in
        record {
          seats = rw (set-get_or l i no_scorer) at
              (replaced-all l i x inside apart (Seat file lists (with floats') (held places' blocks)) (Seat file lists (with (set floats' 0 bounds₂)) (held places₂ blocks))
              (other-seat file lists x blocks M (with floats') B X S.rows) (bounded-seat file lists x blocks M (with floats') B X S.rows) S.seats);
          moved = moves-on-doc (seek_block 128 doc) f l S.moved (scorer_at file lists T.scoring places₂) inside apart
              (other-scorers file lists x blocks M (with floats') B X S.rows) (shallow-scorer file lists x blocks M (with floats') B X S.rows);
          sum_is =
              ap (λ (z : Float). f32.add z r) S.sum_is ∙ ap (f32.add (sum_from f32 f32.nil (map (block_max_score 128 f32) (map (seek_block 128 doc) (map f (take i l))))))
              (bound-here file lists x blocks M (with floats') B X S.rows ∙ ap (λ (z : Scorer Float). block_max_score 128 f32 (seek_block 128 doc z)) here)
              ∙ sym (sum-snoc (map (block_max_score 128 f32) (map (seek_block 128 doc) (map f (take i l)))) f32.nil (block_max_score 128 f32 sought))
              ∙ sym (rw (
                add-one,
                take-suc l i no_scorer inside,
                map-append f (take i l) (x ∷ []),
                map-append (seek_block 128 doc) (map f (take i l)) (f x ∷ []),
                map-append (block_max_score 128 f32) (map (seek_block 128 doc) (map f (take i l))) (sought ∷ []),
              ));
          rows = bounded-rows file lists x blocks M (with floats') B X S.rows;
        }

    pub bounded : (len : ℕ) → i ≡ len → BlocksSought file lists T (held places blocks) doc len (held places' blocks) floats' sum l
    bounded len e = record {
      seats = S.seats;
      moving = rw e at S.moved;
      sum_is = S.sum_is ∙ ap (λ z. sum_from f32 f32.nil (map (block_max_score 128 f32) z)) (sym S.moved.front) ∙ rw e;
      rows = S.rows;
    }
