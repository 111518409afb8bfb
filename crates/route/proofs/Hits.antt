-- A matching document's sum is a value that comparisons are right about, in every mode.
use mathlib.Core.List.{List, [], ◌++◌, ◌∷◌}
use mathlib.Core.Option.{Option, none, some}
use mathlib.Core.Path.{ap, refl, subst, sym, ◌∙◌, ◌≡◌}
use Prim.Native.Nat.{suc, ℕ, ◌<◌, ◌≤◌}
use native.Mathlib.Omega.{arith}
use lib.ListN.{length}
use Rattle.arrays.specs.Every.{All}
use Rattle.route.specs.Score.{Ops}
use Rattle.route.specs.Postings.{Postings, score_of}
use Rattle.route.specs.Plain.{Mode, all_of, and_also, everywhere, hit, intersection, opt_list, present, single, total_of, union}
use Rattle.route.proofs.Order.{FinOf, Ordered}
use Rattle.route.proofs.ListLaws.{Accepted}
use Rattle.route.proofs.Sums.{Sums, total-fin}
use Rattle.route.proofs.Scorers.{present-length, present-ok}

module _ {S : Type 0} where
  -- a document's scores: one from each list, or not
  pub data Every (d : ℕ) (ls : List (Postings S)) : Type 0 where
    e-all : everywhere d ls ≡ some (present d ls) → length (present d ls) ≡ length ls → Every d ls
    e-not : everywhere d ls ≡ none → length (present d ls) < length ls → Every d ls

  pub every : (d : ℕ) (ls : List (Postings S)) → Every d ls
  every d [] = e-all refl refl
  every d (l ∷ ls) = go (score_of l d) refl (every d ls)
    where
      pl : length (present d ls) ≤ length ls
      pl = present-length d ls

      go : (o : Option S) → score_of l d ≡ o → Every d ls → Every d (l ∷ ls)
      go none e w = e-not (ap (λ o. and_also o (everywhere d ls)) e)
          (subst (λ o. length (opt_list o ++ present d ls) < suc (length ls)) (sym e)
          (let z : length (present d ls) < suc (length ls) = omega (arith, pl) in z))
      go (some x) e (e-all a b) =
          e-all (ap (λ o. and_also o (everywhere d ls)) e ∙ ap (and_also (some x)) a ∙ ap (λ o. some (opt_list o ++ present d ls)) (sym e))
          (subst (λ o. length (opt_list o ++ present d ls) ≡ suc (length ls)) (sym e) (ap suc b))
      go (some x) e (e-not a b) =
          e-not (ap (λ o. and_also o (everywhere d ls)) e ∙ ap (and_also (some x)) a)
          (subst (λ o. length (opt_list o ++ present d ls) < suc (length ls)) (sym e) (omega arith))

module _ (B N : ℕ) {O : Ops} {L : Ordered O} {M : ℕ} (Z : Sums O L M) where
  any-fin : (q : List (Postings O.S)) → All (Accepted B N O L Z.Ok) q → length q ≤ M → (d : ℕ) → FinOf O L (total_of O (present d q))
  any-fin q qs few d = total-fin Z (present d q) (present-ok B N Z d q qs) (omega (arith, present-length d q))

  pub hit-fin : (m : Mode) (q : List (Postings O.S)) → All (Accepted B N O L Z.Ok) q → length q ≤ M → (d : ℕ) → FinOf O L (hit O m q d)
  hit-fin union q qs few d = any-fin q qs few d
  hit-fin single q qs few d = any-fin q qs few d
  hit-fin intersection q qs few d = go (every d q)
    where
      go : Every d q → FinOf O L (hit O intersection q d)
      go (e-all a b) = subst (λ o. FinOf O L (all_of O o)) (sym a) (total-fin Z (present d q) (present-ok B N Z d q qs) (omega arith))
      go (e-not a b) = subst (λ o. FinOf O L (all_of O o)) (sym a) tt

-- over one list the sum is the score
pub one-total : (O : Ops) (o : Option O.S) → total_of O (opt_list o ++ []) ≡ o
one-total O none = refl
one-total O (some x) = refl
