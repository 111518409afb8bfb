-- What a function says along a part of the order, from place a on and up to place b.
use mathlib.Core.List.{List, map, [], ◌++◌, ◌∷◌}
use mathlib.Core.Logic.{inl, inr}
use mathlib.Core.Path.{ap, sym, ◌∙◌, ◌≡◌}
use Prim.Native.Nat.{suc, zero, ℕ, ◌+◌, ◌-◌, ◌<◌, ◌≤◌}
use native.Mathlib.Omega.{arith}
use lib.ListN.{drop, get_or, length, length-take, take, take-append-drop}
use lib.Seq.{drop-append-le, take-take}
use Rattle.arrays.proofs.Order.{lt-or-ge}
use Rattle.ordering.proofs.Places.{drop-take-cons, drop-take-nil, map-append}

module _ {A : Type 0} (l : List ℕ) where
  pub part_none : (f : ℕ → A) (a b : ℕ) → b ≤ a → map f (drop a (take b l)) ≡ []
  part_none f a b h = ap (map f) (drop-take-nil l b a h)

  pub part-first : (f : ℕ → A) (a b : ℕ) → a < b → b ≤ length l → map f (drop a (take b l)) ≡ f (get_or l a 0) ∷ map f (drop (suc a) (take b l))
  part-first f a b h k = ap (map f) (drop-take-cons l b a 0 h k)

  pub part-split : (f : ℕ → A) (a i b : ℕ) → a ≤ i → i ≤ b → b ≤ length l → map f (drop a (take b l)) ≡ map f (drop a (take i l)) ++ map f (drop i (take b l))
  part-split f a i b u v k =
      let m : length (take i l) ≡ i = omega (arith, length-take i l) in
      ap (λ (z : List ℕ). map f (drop a z)) (sym (take-append-drop i (take b l)) ∙ ap (λ (z : List ℕ). z ++ drop i (take b l)) (take-take i b l v))
      ∙ ap (map f) (drop-append-le a (take i l) (drop i (take b l)) (omega arith)) ∙ map-append f (drop a (take i l)) (drop i (take b l))

  pub part-last : (f : ℕ → A) (a i : ℕ) → a ≤ i → i < length l → map f (drop a (take (suc i) l)) ≡ map f (drop a (take i l)) ++ (f (get_or l i 0) ∷ [])
  part-last f a i u k =
      part-split f a i (suc i) u (omega arith) k
      ∙ ap (λ (z : List A). map f (drop a (take i l)) ++ z) (part-first f i (suc i) (omega arith) k ∙ ap (λ (z : List A). f (get_or l i 0) ∷ z) (part_none f (suc i) (suc i) (omega arith)))

  -- by its members
  pub part_same : (f g : ℕ → A) (a b : ℕ) → b ≤ length l → ((k : ℕ) → a ≤ k → k < b → g (get_or l k 0) ≡ f (get_or l k 0)) → map g (drop a (take b l)) ≡ map f (drop a (take b l))
  part_same f g a b h e = go (b - a) a (omega arith) e
    where
      go : (m a : ℕ) → b ≤ a + m → ((k : ℕ) → a ≤ k → k < b → g (get_or l k 0) ≡ f (get_or l k 0)) → map g (drop a (take b l)) ≡ map f (drop a (take b l))
      go zero a u e = part_none g a b (omega arith) ∙ sym (part_none f a b (omega arith))
      go (suc m) a u e = elim (lt-or-ge a b) [
        | inl v ↦
            let one = e a (omega arith) v in
            let rest = go m (suc a) (omega arith) (λ k p q. e k (omega arith) q) in
            part-first g a b v h ∙ ap (λ (z : A). z ∷ map g (drop (suc a) (take b l))) one ∙ ap (λ (z : List A). f (get_or l a 0) ∷ z) rest ∙ sym (part-first f a b v h)
        | inr v ↦ part_none g a b v ∙ sym (part_none f a b v)
      ]
