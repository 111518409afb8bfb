-- Texts put one behind another are their sum.
use Rattle.std.proofs.Common.{◌≡◌, ℕ, ◌+◌, ◌≤◌, List, [], ◌++◌, length, take, drop, sym, refl, ap, ◌∙◌, subst, append_assoc, arith, length-append, length-take-le, drop-drop, take_at}
use lib.Seq.{drop-append-add, paste-zero}
use Rattle.print_text.specs.Inner.Putting.{Put}

module _ {a : List ℕ} {most at : ℕ} {old : List ℕ} {end : ℕ} {new : List ℕ} (P : Put a most at old end new) where
  -- the bound may be larger
  pub put-wider : (n : ℕ) → most ≤ n → Put a n at old end new
  put-wider n h = record { end_is = P.end_is; short = let s = P.short in omega arith; inside = P.inside; long = P.long; new_is = P.new_is }

  -- the same text by another name
  pub put_as : {b : List ℕ} → a ≡ b → Put b most at old end new
  put_as {b} e = subst (λ (x : List ℕ). Put x most at old end new) e P

  -- one text behind another
  pub put_then : {b : List ℕ} {n last : ℕ} {newer : List ℕ} → Put b n end new last newer → Put (a ++ b) (most + n) at old last newer
  put_then {b} {n} {last} {newer} Q =
      let s = P.short in
      let t = Q.short in
      let e = P.end_is in
      let i = P.inside in
      let j = Q.inside in
      let p = P.long in
      let q = Q.long in
      let f = Q.end_is in
      let l = length-append a b in
      let front : List ℕ = take at old ++ a in
      let k : length front ≡ end = length-append (take at old) a ∙ rw (length-take-le at old (omega arith)) (omega arith) in
      let now : new ≡ front ++ drop end old = P.new_is ∙ ap (λ (m : ℕ). front ++ drop m old) (sym e) in
      let kept : take end new ≡ front = ap (take end) now ∙ take_at front (drop end old) end k in
      let place : end + length b ≡ at + length (a ++ b) = omega arith in
      let behind : drop (end + length b) new ≡ drop (at + length (a ++ b)) old =
      ap (drop (end + length b)) now ∙ ap (λ (m : ℕ). drop (m + length b) (front ++ drop end old)) (sym k) ∙ drop-append-add front (drop end old) (length b)
      ∙ drop-drop (length b) end old ∙ ap (λ (m : ℕ). drop m old) place in
      record {
        end_is = omega arith;
        short = omega arith;
        inside = omega arith;
        long = omega arith;
        new_is =
            Q.new_is ∙ ap (λ (x : List ℕ). (x ++ b) ++ drop (end + length b) new) kept ∙ ap (λ (x : List ℕ). (front ++ b) ++ x) behind
            ∙ ap (λ (x : List ℕ). x ++ drop (at + length (a ++ b)) old) (append_assoc (take at old) a b);
      }

-- no text
pub put-none : (at : ℕ) (old : List ℕ) → at ≤ length old → Put [] 0 at old at old
put-none at old h = record { end_is = omega arith; short = omega arith; inside = h; long = refl; new_is = paste-zero old at [] }
