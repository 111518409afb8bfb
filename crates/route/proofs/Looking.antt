-- A document's score in a list with right documents, whatever the scores: it stands where the document does, or nowhere.
use mathlib.Core.Path.{◌≡◌, refl, ap, ◌∙◌}
use mathlib.Core.Option.{Option, none, some}
use Prim.Native.Nat.{ℕ, zero, suc, ◌+◌, ◌≤◌, ◌<◌}
use native.Mathlib.Omega.{arith}
use lib.Dec.{eqb}
use borrow.Author.Tests.{eqb-true, eqb-false}
use Rattle.route.specs.Postings.{Postings, look_from, score_of}
use Rattle.route.specs.Inner.Lists.{ListOk}
use Rattle.route.proofs.Cases.{by-test, lt_of_ne}
use Rattle.route.proofs.Places.{doc-inj}

module _ {S : Type 0} (l : Postings S) where
  look-all : (Q : Option S → Type 0) (d n p : ℕ) → p + n ≤ l.len → Q none → ((i : ℕ) → p ≤ i → i < l.len → l.doc i ≡ d → Q (some (l.score i))) → Q (look_from l d n p)
  look-all Q d zero p h a f = a
  look-all Q d (suc n) p h a f =
      by-test Q (eqb (l.doc p) d) (some (l.score p)) (look_from l d n (suc p))
      (λ e. f p (omega arith) (omega arith) (eqb-true (l.doc p) d e))
      (λ e. look-all Q d n (suc p) (omega arith) a (λ i s t u. f i (omega arith) t u))

  -- what holds of no score, and of the score at each place that has the document
  pub score-all : (Q : Option S → Type 0) (d : ℕ) → Q none → ((i : ℕ) → i < l.len → l.doc i ≡ d → Q (some (l.score i))) → Q (score_of l d)
  score-all Q d a f = look-all Q d l.len 0 (omega arith) a (λ i s t u. f i t u)

  -- no place has it
  pub score-none : (d : ℕ) → ((i : ℕ) → i < l.len → l.doc i ≡ d → ⊥) → score_of l d ≡ none
  score-none d f = score-all (λ o. o ≡ none) d refl (λ i h e. absurd (f i h e))

  module _ (B N : ℕ) (k : ListOk B N l) where
    look_at : (d n p i : ℕ) → p + n ≤ l.len → p ≤ i → i < p + n → l.doc i ≡ d → look_from l d n p ≡ some (l.score i)
    look_at d zero p i h a b e = absurd (omega arith)
    look_at d (suc n) p i h a b e =
        by-test (λ z. z ≡ some (l.score i)) (eqb (l.doc p) d) (some (l.score p)) (look_from l d n (suc p))
        (λ t.
        let u = eqb-true (l.doc p) d t in
        let x = doc-inj B N l k i p (omega arith) (omega arith) (omega arith) in
        let y : p ≡ i = omega arith in
        ap (λ z. some (l.score z)) y)
        (λ t. look_at d n (suc p) i (omega arith) (lt_of_ne a (λ y. eqb-false (l.doc p) d t (ap l.doc y ∙ e))) (omega arith) e)

    -- place i has it
    pub score-at : (d i : ℕ) → i < l.len → l.doc i ≡ d → score_of l d ≡ some (l.score i)
    score-at d i h e = look_at d l.len 0 i (omega arith) (omega arith) (omega arith) e
