-- The least width: it holds the values, and no lesser one does.
use mathlib.Core.Path.{◌≡◌, refl, sym, ap, ◌∙◌, subst}
use mathlib.Core.List.{List}
use mathlib.Core.Bool.{Bool, true, false, true≢false, cond}
use mathlib.Core.Logic.{⊎_elim}
use Prim.Native.Nat.{ℕ, zero, suc, ◌+◌, ◌-◌, ◌*◌, ◌^◌, ◌≤◌, ◌<◌}
use native.Mathlib.Nat.{not-suc-le-zero, add-zero, le_antisymm, lt_of_lt_of_le, le_trans, pow-suc, lt_of_le_of_lt}
use native.Mathlib.Omega.{arith}
use lib.ListN.{get_or}
use lib.Pow.{pow_mono}
use lib.Bits.{bit_or, or_lt, or_add_and, and_le_l, and_le_r}
use lib.Count.{count_leading_zeros, leading_length}
use lib.Dec.{ltb}
use borrow.Author.Tests.{lt-ltb, ltb-true}
use borrow.Author.Count.{below_more}
use Rattle.arrays.proofs.Order.{lt-or-ge}
use Rattle.arrays.proofs.Every.{each, all}
use Rattle.packing.specs.Width.{holds, first_from, least_width}

module _ (n : ℕ) (vs : List ℕ) (w : ℕ) where
  holds-each : holds n vs w ≡ true → (i : ℕ) → i < n → get_or vs i 0 < 2 ^ w
  unfolding holds
  holds-each e i h = ltb-true (get_or vs i 0) (2 ^ w) (each (λ i. ltb (get_or vs i 0) (2 ^ w)) n i e h)

  holds-all : ((i : ℕ) → i < n → get_or vs i 0 < 2 ^ w) → holds n vs w ≡ true
  unfolding holds
  holds-all h = all (λ i. ltb (get_or vs i 0) (2 ^ w)) n (λ i l. lt-ltb (get_or vs i 0) (2 ^ w) (h i l))

module _ (P : ℕ → Bool) where
  first_holds : (n w : ℕ) → P (w + n) ≡ true → P (first_from n w P) ≡ true
  unfolding first_from
  first_holds zero w h = ap P (sym (add-zero w)) ∙ h
  first_holds (suc n) w h = go (P w) refl (first_holds n (suc w) (ap P (next w n) ∙ h))
    where
      next : (w n : ℕ) → suc w + n ≡ w + suc n
      next w n = omega arith

      go : (b : Bool) → P w ≡ b → P (first_from n (suc w) P) ≡ true → P (cond b w (first_from n (suc w) P)) ≡ true
      go true e f = e
      go false e f = f

  first-least : (n w u : ℕ) → w ≤ u → P u ≡ true → first_from n w P ≤ u
  unfolding first_from
  first-least zero w u h e = h
  first-least (suc n) w u h e = go (P w) refl (first-least n (suc w) u)
    where
      go : (b : Bool) → P w ≡ b → (suc w ≤ u → P u ≡ true → first_from n (suc w) P ≤ u) → cond b w (first_from n (suc w) P) ≤ u
      go true f g = h
      go false f g =
          let no : u ≤ w → suc w ≤ u = λ l. let z : w ≡ u = omega arith in absurd (true≢false (sym e ∙ ap P (sym z) ∙ f)) in
          g (⊎_elim (λ l. l) no (lt-or-ge w u)) e

  first-most : (n w : ℕ) → first_from n w P ≤ w + n
  unfolding first_from
  first-most zero w = omega arith
  first-most (suc n) w = go (P w) (first-most n (suc w))
    where
      go : (b : Bool) → first_from n (suc w) P ≤ suc w + n → cond b w (first_from n (suc w) P) ≤ w + suc n
      go true h = omega arith
      go false h = omega arith

-- whatever the values
pub width-most : (vs : List ℕ) → least_width vs ≤ 32
unfolding least_width
width-most vs = first-most (holds 128 vs) 32 0

-- 128 values of at most 32 bits
module _ (vs : List ℕ) (small : (i : ℕ) → i < 128 → get_or vs i 0 < 4294967296) where
  pub least-holds : (i : ℕ) → i < 128 → get_or vs i 0 < 2 ^ least_width vs
  unfolding least_width
  least-holds = holds-each 128 vs (first_from 32 0 (holds 128 vs)) (first_holds (holds 128 vs) 32 0 (holds-all 128 vs 32 small))

  pub least-most : least_width vs ≤ 32
  unfolding least_width
  least-most = first-least (holds 128 vs) 32 0 32 (omega arith) (holds-all 128 vs 32 small)

pub least-least : (vs : List ℕ) (u : ℕ) → ((i : ℕ) → i < 128 → get_or vs i 0 < 2 ^ u) → least_width vs ≤ u
unfolding least_width
least-least vs u h = first-least (holds 128 vs) 32 0 u (omega arith) (holds-all 128 vs u h)

-- a width that holds them, and is below each that does, is it
pub least-only : (vs : List ℕ) (w : ℕ) → w ≤ 32 → ((i : ℕ) → i < 128 → get_or vs i 0 < 2 ^ w)
    → ((u : ℕ) → ((i : ℕ) → i < 128 → get_or vs i 0 < 2 ^ u) → w ≤ u) → w ≡ least_width vs
least-only vs w t h l =
    le_antisymm (l (least_width vs) (least-holds vs (λ i g. lt_of_lt_of_le (h i g) (pow_mono {j = 32} t)))) (least-least vs w h)

-- the bits of the first i values, all together
pub record Gathering (vs : List ℕ) (bits i : ℕ) : Type 0 where
  pub top : i ≤ 128
  pub small : bits < 4294967296
  pub covers : (k : ℕ) → k < i → get_or vs k 0 ≤ bits
  pub least : (u : ℕ) → ((k : ℕ) → k < i → get_or vs k 0 < 2 ^ u) → bits < 2 ^ u

pub begun : (vs : List ℕ) → Gathering vs 0 0
begun vs = record {
  top = omega arith;
  small = omega arith;
  covers = λ k h. absurd (not-suc-le-zero h);
  least = λ u h. lt_of_lt_of_le (omega arith) (pow_mono {i = 0} {j = u} (omega arith));
}

or_left : (a b : ℕ) → a ≤ bit_or a b
or_left a b = omega (arith, or_add_and a b, and_le_r a b)

or_right : (a b : ℕ) → b ≤ bit_or a b
or_right a b = omega (arith, or_add_and a b, and_le_l a b)

module _ {vs : List ℕ} {bits i : ℕ} (G : Gathering vs bits i) where
  pub goes_on : i < 128 → {x : ℕ} → x ≡ get_or vs i 0 → x < 4294967296 → Gathering vs (bit_or bits x) (i + 1)
  goes_on h e s = rw e (record {
    top = omega arith;
    small = or_lt 32 bits (get_or vs i 0) G.small (subst (λ (x : ℕ). x < 4294967296) e s);
    covers =
        below_more (λ (k : ℕ). get_or vs k 0 ≤ bit_or bits (get_or vs i 0)) i
        (λ k l. le_trans (G.covers k l) (or_left bits (get_or vs i 0)))
        (or_right bits (get_or vs i 0));
    least = λ u f. or_lt u bits (get_or vs i 0) (G.least u (λ k l. f k (omega arith))) (f i (omega arith));
  })

  pub width_is : 128 ≤ i → 32 - count_leading_zeros 32 bits ≡ least_width vs
  width_is h =
      let t = leading_length 32 bits G.small in
      let e : 32 - count_leading_zeros 32 bits ≡ t.0 = omega (arith, t.1) in
      e
      ∙ least-only vs t.0 (omega (arith, t.1))
      (λ k l. lt_of_le_of_lt (G.covers k (omega arith)) t.2)
      (λ u f. below t.0 u t.3 (G.least u (λ k l. f k (omega (arith, G.top)))))
    where
      below : (m u : ℕ) → 2 ^ m ≤ 2 * bits + 1 → bits < 2 ^ u → m ≤ u
      below m u h l = ⊎_elim
          (λ g. absurd (no (2 ^ u) (le_trans (subst (λ (x : ℕ). x ≤ 2 ^ m) (pow-suc 2 u) (pow_mono {i = suc u} {j = m} g)) h) l))
          (λ g. g)
          (lt-or-ge u m)
        where
          no : (x : ℕ) → x * 2 ≤ 2 * bits + 1 → bits < x → ⊥
          no x a b = omega arith
