-- A posting is scored: its block's scores may be made and kept, and every scorer stands where it stood.
use mathlib.Core.List.{List, [], ◌∷◌, map}
use mathlib.Core.Path.{ap, refl, sym, ◌∙◌, ◌≡◌}
use Prim.Native.Nat.{ℕ, ◌<◌}
use lib.Ieee.{Float}
use Rattle.route.specs.Cursor.{Cursor}
use Rattle.route.proofs.Lists.{all-imp}
use Rattle.bm25.specs.declared.Scoring.{Scoring}
use Rattle.term_scorer.specs.declared.TermScorer.{TermScorer}
use Rattle.skip_reader.specs.Inner.Decoded.{doc_in}
use Rattle.term_scorer.specs.Inner.Slots.{held, Held, list_at, part_at, Sixteen}
use Rattle.term_scorer.specs.Inner.Weights.{FloatRows}
use Rattle.slot_scores.specs.Inner.Made.{ScoresMade}
use Rattle.slot_scores.proofs.Made.{kept-made, made-cursor}
use Rattle.union_moves.specs.Inner.Seats.{Seat, Seated, Unmoved, scorer_at, term_at, terms, terms_of}

-- ---- one posting

pub unmoved : (file : List ℕ) (lists : List (List ℕ)) (scoring : Scoring) (norms : List (List Float)) {floats floats' : List (List Float)} {q : ℕ} (small : q < 16)
    {places places' : List (List ℕ)} (blocks : List (List (List ℕ))) (n : Sixteen places) → ScoresMade scoring file lists q places floats places' floats'
    → Unmoved file lists scoring norms floats (held places blocks) floats' (held places' blocks)
unmoved file lists scoring norms small blocks n M = record {
  cursor-is = made-cursor small n M;
  seats = λ s S.
      record {
        kept = kept-made small n M s.slot S.kept;
        doc-is = S.doc-is ∙ ap (λ (z : Cursor). doc_in file (part_at lists s.slot) z.at) (sym (made-cursor small n M s.slot));
        max-is = S.max-is;
      };
  rows = M.rows;
}

-- ---- several

module _ {file : List ℕ} {lists : List (List ℕ)} {scoring : Scoring} {norms : List (List Float)} where
  pub unmoved-refl : {floats : List (List Float)} {h : Held} → FloatRows floats → Unmoved file lists scoring norms floats h floats h
  unmoved-refl F = record { cursor-is = λ q. refl; seats = λ s S. S; rows = F }

  pub unmoved-trans : {floats floats' floats'' : List (List Float)} {h h' h'' : Held}
      → Unmoved file lists scoring norms floats h floats' h' → Unmoved file lists scoring norms floats' h' floats'' h'' → Unmoved file lists scoring norms floats h floats'' h''
  unmoved-trans U W = record { cursor-is = λ q. W.cursor-is q ∙ U.cursor-is q; seats = λ s S. W.seats s (U.seats s S); rows = W.rows }

  -- the scorers of slots are what they were, and so are the route's
  module _ {floats floats' : List (List Float)} {h h' : Held} (U : Unmoved file lists scoring norms floats h floats' h') where
    pub terms-unmoved : (qs : List ℕ) → terms_of file lists scoring h'.places qs ≡ terms_of file lists scoring h.places qs
    terms-unmoved [] = refl
    terms-unmoved (q ∷ qs) =
        let e : term_at file lists scoring h'.places q ≡ term_at file lists scoring h.places q =
        ap (λ (c : Cursor). record { doc = doc_in file (part_at lists q) c.at; max_score = (list_at scoring file lists q).top; slot = q }) (U.cursor-is q) in
        rw (e, terms-unmoved qs)

    pub scorers-unmoved : (l : List TermScorer) → map (scorer_at file lists scoring h'.places) l ≡ map (scorer_at file lists scoring h.places) l
    scorers-unmoved [] = refl
    scorers-unmoved (s ∷ l) =
        let e : scorer_at file lists scoring h'.places s ≡ scorer_at file lists scoring h.places s =
        ap (λ (c : Cursor). record { ord = s.slot; list = list_at scoring file lists s.slot; cur = c }) (U.cursor-is s.slot) in
        rw (e, scorers-unmoved l)

    pub seated-unmoved : (qs : List ℕ) → Seated file lists (terms scoring norms floats) h (terms_of file lists scoring h.places qs)
        → Seated file lists (terms scoring norms floats') h' (terms_of file lists scoring h'.places qs)
    seated-unmoved qs S =
        rw (terms-unmoved qs) (record {
          seats = all-imp (Seat file lists (terms scoring norms floats) h) (Seat file lists (terms scoring norms floats') h') (terms_of file lists scoring h.places qs) (λ s z. U.seats s z) S.seats;
          apart = S.apart;
          rows = U.rows;
        })
