-- A loop that fills an array of N from the front, in place: what is passed holds f, and the rest is as it was.
use mathlib.Core.Path.{◌≡◌, refl, ◌∙◌, subst}
use mathlib.Core.List.{List}
use Prim.Native.Nat.{ℕ, ◌+◌, ◌<◌, ◌≤◌}
use native.Mathlib.Nat.{ne_of_lt, not-suc-le-zero}
use native.Mathlib.Omega.{arith}
use lib.ListN.{length, get_or, set, length-set}
use lib.Seq.{get_or-set_same, get_or-set_other}
use borrow.Author.Count.{below_more}
use Rattle.arrays.specs.Inner.Holds.{Holds}

pub record Filling {A : Type 0} (d : A) (N : ℕ) (f : ℕ → A) (start : List A) (i : ℕ) (xs : List A) : Type 0 where
  pub long : length xs ≡ N
  pub done : (k : ℕ) → k < i → get_or xs k d ≡ f k
  pub rest : (k : ℕ) → i ≤ k → get_or xs k d ≡ get_or start k d

module _ {A : Type 0} (d : A) (N : ℕ) (f : ℕ → A) (start : List A) where
  pub begun : length start ≡ N → Filling d N f start 0 start
  begun h = record { long = h; done = λ k l. absurd (not-suc-le-zero l); rest = λ k l. refl }

  pub goes_on : (i : ℕ) (xs : List A) (x : A) → i < N → x ≡ f i → Filling d N f start i xs → Filling d N f start (i + 1) (set xs i x)
  goes_on i xs x h e s = record {
    long = length-set xs i x ∙ s.long;
    done = below_more (λ (k : ℕ). get_or (set xs i x) k d ≡ f k) i (λ k l. get_or-set_other xs i k x d (ne_of_lt l) ∙ s.done k l)
        (get_or-set_same xs i x d (let l = s.long in omega arith) ∙ e);
    rest = λ k l. get_or-set_other xs i k x d (λ (q : k ≡ i). omega arith) ∙ s.rest k (omega arith);
  }

  pub ended : (i : ℕ) (xs : List A) → N ≤ i → Filling d N f start i xs → Holds d N f xs
  ended i xs h s = record { long = s.long; at = λ k l. s.done k (omega arith) }

  -- a row of four
  pub goes-on4 : (i : ℕ) (xs : List A) (x y z w : A) → i + 3 < N → x ≡ f i → y ≡ f (i + 1) → z ≡ f (i + 2) → w ≡ f (i + 3) → Filling d N f start i xs
      → Filling d N f start (i + 4) (set (set (set (set xs i x) (i + 1) y) (i + 2) z) (i + 3) w)
  goes-on4 i xs x y z w h e0 e1 e2 e3 s =
      let next : (n : ℕ) → i + n + 1 ≡ i + (n + 1) = λ n. omega arith in
      let xs1 = set xs i x in
      let xs2 = set xs1 (i + 1) y in
      let xs3 = set xs2 (i + 2) z in
      let s1 = goes_on i xs x (omega arith) e0 s in
      let s2 = subst (λ (k : ℕ). Filling d N f start k xs2) (next 1) (goes_on (i + 1) xs1 y (omega arith) e1 s1) in
      let s3 = subst (λ (k : ℕ). Filling d N f start k xs3) (next 2) (goes_on (i + 2) xs2 z (omega arith) e2 s2) in
      subst (λ (k : ℕ). Filling d N f start k (set xs3 (i + 3) w)) (next 3) (goes_on (i + 3) xs3 w (omega arith) e3 s3)
