-- What contents are refused for: rows 1 to 4, or else list by list.
use mathlib.Core.Path.{◌≡◌, refl, sym, ap, ◌∙◌}
use mathlib.Core.Bool.{Bool, true, false}
use mathlib.Core.List.{[], ◌∷◌}
use mathlib.Core.Logic.{inl, inr}
use Prim.Native.Nat.{ℕ, zero, suc, ◌≤◌, ◌<◌}
use native.Mathlib.Nat.{eq-or-lt_of_le, le_of_suc-le-suc, not-suc-le-zero}
use native.Mathlib.Omega.{arith}
use lib.Dec.{lit<, lit≤}
use Rattle.notefile.specs.Refusal.{test}
use Rattle.notefile.specs.Inner.Order.{or_else, first_of}
use Rattle.notefile.proofs.Order.{Numbered, numbered-append, first-append, first_below}
use Rattle.contents.specs.Contents.{Contents, lists}
use Rattle.contents.specs.Refusal.{docs_right, freqs_right_of, bound_right, head_tests, head_refusal, lists_tests, contents_tests, contents_refusal}
use Rattle.contents.specs.Inner.HeadOk.{HeadOk}
use Rattle.contents.specs.Inner.ListOk.{ListOk, list_refusal, lists_refusal}
use Rattle.contents.proofs.Either.{both-none, first-none, later-none}
use Rattle.contents.proofs.Heads.{head_ok, none-refused}

-- three tests by themselves
record Three (x y z : Bool) : Type 0 where
  pub one : x ≡ true
  pub two : y ≡ true
  pub three : z ≡ true

clear : (x y z : Bool) → first_of x y z ≡ 0 → Three x y z
clear true true true e = record { one = refl; two = refl; three = refl }
clear true true false e = absurd (omega arith)
clear true false z e = absurd (omega arith)
clear false y z e = absurd (omega arith)

module _ (c : Contents) where
  head-numbered : Numbered 9 (head_tests c)
  head-numbered = (lit< tt, lit≤ tt, (lit< tt, lit≤ tt, (lit< tt, lit≤ tt, (lit< tt, lit≤ tt, tt))))

  lists-numbered : (n : ℕ) → Numbered 9 (lists_tests c n)
  unfolding lists_tests
  lists-numbered zero = tt
  lists-numbered (suc l) = numbered-append 9 (lists_tests c l) _ (lists-numbered l) (lit< tt, lit≤ tt, (lit< tt, lit≤ tt, (lit< tt, lit≤ tt, tt)))

  pub contents-numbered : Numbered 9 (contents_tests c)
  unfolding contents_tests
  contents-numbered = numbered-append 9 (head_tests c) (lists_tests c (lists c)) head-numbered (lists-numbered (lists c))

  pub refusal-below : contents_refusal c ≤ 9
  unfolding contents_refusal
  refusal-below = first_below 9 (contents_tests c) contents-numbered

  pub refusal_is : contents_refusal c ≡ or_else (head_refusal c) (lists_refusal c (lists c))
  unfolding contents_refusal contents_tests head_refusal lists_refusal
  refusal_is = first-append 9 (head_tests c) (lists_tests c (lists c)) head-numbered

  pub lists-none : lists_refusal c 0 ≡ 0
  unfolding lists_refusal lists_tests
  lists-none = refl

  -- one list more
  pub lists-next : (l : ℕ) → lists_refusal c (suc l) ≡ or_else (lists_refusal c l) (list_refusal c l)
  unfolding lists_refusal lists_tests list_refusal
  lists-next l = first-append 9 (lists_tests c l) (test 7 (docs_right c l) ∷ test 8 (freqs_right_of c l) ∷ test 9 (bound_right c l) ∷ []) (lists-numbered l)

  pub list-ok : (l : ℕ) → list_refusal c l ≡ 0 → ListOk c l
  unfolding list_refusal
  list-ok l e = let t = clear (docs_right c l) (freqs_right_of c l) (bound_right c l) e in record { docs = t.one; freqs = t.two; bound = t.three }

  pub ok-list : (l : ℕ) → ListOk c l → list_refusal c l ≡ 0
  unfolding list_refusal
  ok-list l L = rw (L.docs, L.freqs, L.bound) refl

  pub lists-ok : (n l : ℕ) → l < n → lists_refusal c n ≡ 0 → ListOk c l
  lists-ok zero l h e = absurd (not-suc-le-zero h)
  lists-ok (suc n) l h e =
      let o = sym (lists-next n) ∙ e in
      elim (eq-or-lt_of_le (le_of_suc-le-suc h)) [
        | inl q ↦ list-ok l (ap (list_refusal c) q ∙ later-none (lists_refusal c n) (list_refusal c n) o)
        | inr k ↦ lists-ok n l k (first-none (lists_refusal c n) (list_refusal c n) o)
      ]

  ok-lists : (n : ℕ) → ((l : ℕ) → l < n → ListOk c l) → lists_refusal c n ≡ 0
  ok-lists zero L = lists-none
  ok-lists (suc n) L = lists-next n ∙ both-none (ok-lists n (λ l h. L l (omega arith))) (ok-list n (L n (omega arith)))

  -- contents that are not refused, by their rows
  pub contents-head : contents_refusal c ≡ 0 → HeadOk c
  contents-head e = head_ok c (first-none (head_refusal c) (lists_refusal c (lists c)) (sym refusal_is ∙ e))

  pub contents-list : contents_refusal c ≡ 0 → (l : ℕ) → l < lists c → ListOk c l
  contents-list e l h = lists-ok (lists c) l h (later-none (head_refusal c) (lists_refusal c (lists c)) (sym refusal_is ∙ e))

  -- and back
  pub contents-ok : HeadOk c → ((l : ℕ) → l < lists c → ListOk c l) → contents_refusal c ≡ 0
  contents-ok H L = refusal_is ∙ both-none (none-refused c H) (ok-lists (lists c) L)
