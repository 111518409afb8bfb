-- Lists of which the first n count, place by place.
use mathlib.Core.List.{List, map, [], ◌++◌, ◌∷◌}
use mathlib.Core.Path.{ap, refl, sym, ◌∙◌, ◌≡◌}
use Prim.Native.Nat.{suc, zero, ℕ, ◌+◌, ◌-◌, ◌<◌, ◌≤◌}
use native.Mathlib.Omega.{arith}
use lib.ListN.{drop, get_or, length, length-take, take, take-append-drop}
use lib.Seq.{drop-cons, get_or-take, take-nil}
use Rattle.arrays.specs.Every.{All}
use Rattle.ordering.specs.Inner.Scorers.{from_place}

module _ {A : Type 0} where
  pub drop-take-cons : (l : List A) (n i : ℕ) (d : A) → i < n → n ≤ length l → drop i (take n l) ≡ get_or l i d ∷ drop (suc i) (take n l)
  drop-take-cons l n i d h k =
      let len : i < length (take n l) = omega (arith, length-take n l) in
      drop-cons (take n l) i d len ∙ ap (λ (z : A). z ∷ drop (suc i) (take n l)) (get_or-take n l i d h)

  pub drop-take-nil : (l : List A) (n i : ℕ) → n ≤ i → drop i (take n l) ≡ []
  drop-take-nil l zero zero h = refl
  drop-take-nil l zero (suc i) h = refl
  drop-take-nil [] (suc n) zero h = absurd (omega arith)
  drop-take-nil [] (suc n) (suc i) h = refl
  drop-take-nil (x ∷ l) (suc n) zero h = absurd (omega arith)
  drop-take-nil (x ∷ l) (suc n) (suc i) h = drop-take-nil l n i (omega arith)

  pub take_next : (l : List A) (i : ℕ) (d : A) (r : List A) → i < length l → take (i + 1) l ++ r ≡ take i l ++ get_or l i d ∷ r
  take_next [] i d r h = absurd (omega arith)
  take_next (x ∷ l) zero d r h = refl
  take_next (x ∷ l) (suc i) d r h =
      rw (let e : suc i + 1 ≡ suc (i + 1) = omega arith in e) (ap (λ z. x ∷ z) (take_next l i d r (omega arith)))

  pub drop-take : (m n : ℕ) (l : List A) → drop m (take n l) ≡ take (n - m) (drop m l)
  drop-take zero n l = let z : n - 0 ≡ n = omega arith in rw z
  drop-take (suc m) zero l = let z : 0 - suc m ≡ 0 = omega arith in rw z
  drop-take (suc m) (suc n) [] = sym (take-nil (suc n - suc m))
  drop-take (suc m) (suc n) (x ∷ l) = let z : suc n - suc m ≡ n - m = omega arith in rw z (drop-take m n l)

  -- a part and the next part
  pub join : (b m : ℕ) (l : List A) → b ≤ m → drop b (take m l) ++ drop m l ≡ drop b l
  join zero m l h = take-append-drop m l
  join (suc b) zero l h = absurd (omega arith)
  join (suc b) (suc m) [] h = refl
  join (suc b) (suc m) (x ∷ l) h = join b m l (omega arith)

  pub all_take : (P : A → Type 0) (n : ℕ) (l : List A) → All P l → All P (take n l)
  all_take P zero l a = tt
  all_take P (suc n) [] a = tt
  all_take P (suc n) (x ∷ l) a = (a.0, all_take P n l a.1)

  pub all_drop : (P : A → Type 0) (n : ℕ) (l : List A) → All P l → All P (drop n l)
  all_drop P zero l a = a
  all_drop P (suc n) [] a = tt
  all_drop P (suc n) (x ∷ l) a = all_drop P n l a.1

  pub all-at : (P : A → Type 0) (l : List A) (i : ℕ) (d : A) → i < length l → All P l → P (get_or l i d)
  all-at P [] i d h a = absurd (omega arith)
  all-at P (x ∷ l) zero d h a = a.0
  all-at P (x ∷ l) (suc i) d h a = all-at P l i d (omega arith) a.1

  -- of the first n, by the array
  pub all_first : (P : A → Type 0) (l : List A) (n i : ℕ) (d : A) → i < n → n ≤ length l → All P (take n l) → P (get_or l i d)
  all_first P l n i d h k a =
      rw (get_or-take n l i d h) at (all-at P (take n l) i d (omega (arith, length-take n l)) a)

  module _ (g : A → List A → List A) where
    pub from_place-append : (xs : List A) (x : A) (ys : List A) → from_place g (xs ++ x ∷ ys) (length xs) ≡ xs ++ g x ys
    from_place-append [] x ys = refl
    from_place-append (y ∷ xs) x ys = ap (λ z. y ∷ z) (from_place-append xs x ys)

    pub from_place-split : (l : List A) (i : ℕ) (d : A) → i < length l → from_place g l i ≡ take i l ++ g (get_or l i d) (drop (suc i) l)
    from_place-split [] i d h = absurd (omega arith)
    from_place-split (x ∷ l) zero d h = refl
    from_place-split (x ∷ l) (suc i) d h = ap (λ z. x ∷ z) (from_place-split l i d (omega arith))

module _ {A B : Type 0} (g : A → B) where
  pub map-append : (l m : List A) → map g (l ++ m) ≡ map g l ++ map g m
  map-append [] m = refl
  map-append (x ∷ l) m = ap (λ z. g x ∷ z) (map-append l m)

  pub map-take : (n : ℕ) (l : List A) → map g (take n l) ≡ take n (map g l)
  map-take zero l = refl
  map-take (suc n) [] = refl
  map-take (suc n) (x ∷ l) = ap (λ z. g x ∷ z) (map-take n l)

  pub map-drop : (n : ℕ) (l : List A) → map g (drop n l) ≡ drop n (map g l)
  map-drop zero l = refl
  map-drop (suc n) [] = refl
  map-drop (suc n) (x ∷ l) = map-drop n l
