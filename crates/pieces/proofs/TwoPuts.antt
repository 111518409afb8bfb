-- Two pieces that are written in turn, until they meet.
use mathlib.Core.Path.{◌≡◌, refl, sym, ◌∙◌, subst}
use mathlib.Core.List.{List, [], ◌++◌}
use Prim.Native.Nat.{ℕ, ◌+◌, ◌≤◌}
use native.Mathlib.Omega.{arith}
use lib.ListN.{length, length-append}
use Rattle.pieces.specs.Inner.Written.{Put, Stands}
use Rattle.pieces.specs.Inner.Two.{TwoPieces}
use Rattle.pieces.proofs.Standing.{both-stand, none-stands}

pub two-begun : (before : List ℕ) (p q : ℕ) → p ≤ q → TwoPieces before p [] q [] before
two-begun before p q h = record {
  long = refl;
  apart = omega arith;
  first = none-stands before p;
  second = none-stands before q;
  below = λ k l. refl;
  between = λ k l m. refl;
  past = λ k l. refl;
}

-- one piece put, and then the other
pub two-put : {before mid after : List ℕ} {p q : ℕ} {x y : List ℕ} → p + length x ≤ q → Put before p x mid → Put mid q y after
    → TwoPieces before p x q y after
two-put {before} {mid} {after} {p} {q} {x} {y} h X Y = record {
  long = Y.written.long ∙ X.written.long;
  apart = h;
  first = record { at = λ k l. Y.written.below (p + k) (omega arith) ∙ X.written.inside k l };
  second = record { at = Y.written.inside };
  below = λ k l. Y.written.below k (omega arith) ∙ X.written.below k l;
  between = λ k l m. Y.written.below k m ∙ X.written.past k l;
  past = λ k l. Y.written.past k l ∙ X.written.past k (omega arith);
}

module _ {before mid : List ℕ} {p q : ℕ} {x y : List ℕ} (A : TwoPieces before p x q y mid) where
  -- both go on
  pub two-more : {after : List ℕ} {p' q' : ℕ} {z w : List ℕ} → p' ≡ p + length x → q' ≡ q + length y → p' + length z ≤ q
      → TwoPieces mid p' z q' w after → TwoPieces before p (x ++ z) q (y ++ w) after
  two-more {after} {p'} {q'} {z} {w} e f h B = record {
    long = B.long ∙ A.long;
    apart = omega (arith, length-append x z);
    first =
        both-stand after p x z (record { at = λ k l. B.below (p + k) (omega arith) ∙ A.first.at k l })
        (subst (λ (n : ℕ). Stands after n z) e B.first);
    second =
        both-stand after q y w (record { at = λ k l. B.between (q + k) (omega arith) (omega arith) ∙ A.second.at k l })
        (subst (λ (n : ℕ). Stands after n w) f B.second);
    below = λ k l. B.below k (omega arith) ∙ A.below k l;
    between = λ k l m. B.between k (omega (arith, length-append x z)) (omega arith) ∙ A.between k (omega (arith, length-append x z)) m;
    past = λ k l. B.past k (omega (arith, length-append y w)) ∙ A.past k (omega (arith, length-append y w));
  }

  -- the first reaches the second: one piece
  pub two-meet : p + length x ≡ q → Put before p (x ++ y) mid
  two-meet e = record {
    written = record {
      long = A.long;
      inside = (both-stand mid p x y A.first (subst (λ (n : ℕ). Stands mid n y) (sym e) A.second)).at;
      below = A.below;
      past = λ k l. A.past k (omega (arith, length-append x y));
    };
  }
