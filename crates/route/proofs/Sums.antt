-- What the theorems ask of sums: their order does not matter, and a sum of larger and more values is no smaller.
use mathlib.Core.Bool.{false}
use mathlib.Core.List.{List, [], ◌++◌, ◌∷◌}
use mathlib.Core.Option.{Option, none, some}
use mathlib.Core.Path.{ap, refl, subst, sym, ◌∙◌, ◌≡◌}
use Prim.Native.Nat.{suc, ℕ, ◌+◌, ◌<◌, ◌≤◌}
use native.Mathlib.Omega.{arith}
use lib.ListN.{length}
use Rattle.arrays.specs.Every.{All}
use Rattle.route.specs.Score.{Ops, sum, sum_from}
use Rattle.route.specs.Plain.{opt_list, total_of}
use Rattle.route.proofs.Lists.{Perm, perm-length}
use Rattle.route.proofs.Order.{FinOf, LowOf, Ordered, Values}

module _ (O : Ops) (L : Ordered O) where
  -- the second list has for each value of the first one that is no smaller, in order, and perhaps more
  pub data Dom : List O.S → List O.S → Type 0 where
    d-nil : Dom [] []
    d-skip : (y : O.S) {xs ys : List O.S} → Dom xs ys → Dom xs (y ∷ ys)
    d-keep : (x y : O.S) {xs ys : List O.S} → L.rank x ≤ L.rank y → Dom xs ys → Dom (x ∷ xs) (y ∷ ys)

  pub dom-nil : (ys : List O.S) → Dom [] ys
  dom-nil [] = d-nil
  dom-nil (y ∷ ys) = d-skip y (dom-nil ys)

  pub dom-refl : (ys : List O.S) → Dom ys ys
  dom-refl [] = d-nil
  dom-refl (y ∷ ys) = d-keep y y (omega arith) (dom-refl ys)

  pub dom-length : {xs ys : List O.S} → Dom xs ys → length xs ≤ length ys
  dom-length d-nil = omega arith
  dom-length (d-skip y d) = omega (arith, dom-length d)
  dom-length (d-keep x y h d) = omega (arith, dom-length d)

  pub dom-append : {xs ys us vs : List O.S} → Dom xs ys → Dom us vs → Dom (xs ++ us) (ys ++ vs)
  dom-append d-nil e = e
  dom-append (d-skip y d) e = d-skip y (dom-append d e)
  dom-append (d-keep x y h d) e = d-keep x y h (dom-append d e)

  pub dom-opt : (o : Option O.S) (b : O.S) {xs ys : List O.S} → LowOf O L o b → Dom xs ys → Dom (opt_list o ++ xs) (b ∷ ys)
  dom-opt none b h d = d-skip b d
  dom-opt (some x) b h d = d-keep x b h d

  -- sums of at most M values
  pub record Sums (M : ℕ) : Type 1 where
    pub Ok : O.S → Type 0
    pub values : Values O L Ok
    pub sum-fin : (xs : List O.S) → All Ok xs → length xs ≤ M → L.Fin (sum O xs)
    pub sum-perm : {xs ys : List O.S} → Perm xs ys → All Ok xs → length xs ≤ M → sum O xs ≡ sum O ys
    pub sum_mono : {xs ys : List O.S} → Dom xs ys → All Ok xs → All Ok ys → length ys ≤ M → L.rank (sum O xs) ≤ L.rank (sum O ys)
    pub sum_one : (x : O.S) → Ok x → O.add O.nil x ≡ x

  -- what an intersection asks besides: sums of parts, and a difference that tells what a sum would
  pub record Exact (M : ℕ) (Z : Sums M) : Type 1 where
    pub sum-app : (xs ys : List O.S) → All Z.Ok xs → All Z.Ok ys → length xs + length ys ≤ M
        → O.add (sum O xs) (sum O ys) ≡ sum O (xs ++ ys)
    pub sub_low : (x : O.S) (ys : List O.S) (t : O.S) → Z.Ok x → All Z.Ok ys → suc (length ys) ≤ M → L.Fin t
        → O.above x (O.sub t (sum O ys)) ≡ false → L.rank (O.add x (sum O ys)) ≤ L.rank t

  pub sum-snoc : (acc : O.S) (xs : List O.S) (x : O.S) → sum_from O acc (xs ++ (x ∷ [])) ≡ O.add (sum_from O acc xs) x
  sum-snoc acc [] x = refl
  sum-snoc acc (y ∷ ys) x = sum-snoc (O.add acc y) ys x

module _ {O : Ops} {L : Ordered O} {M : ℕ} (Z : Sums O L M) where
  -- the total of a list that is not empty is its sum
  pub total-is : (x : O.S) (xs : List O.S) → Z.Ok x → total_of O (x ∷ xs) ≡ some (sum O (x ∷ xs))
  total-is x xs k = ap (λ z. some (sum_from O z xs)) (sym (Z.sum_one x k))

  pub total-fin : (xs : List O.S) → All Z.Ok xs → length xs ≤ M → FinOf O L (total_of O xs)
  total-fin [] a h = tt
  total-fin (x ∷ xs) a h = subst (FinOf O L) (sym (total-is x xs a.0)) (Z.sum-fin (x ∷ xs) a h)

  pub total-low : (t : O.S) {xs ys : List O.S} → Perm xs ys → All Z.Ok xs → length xs ≤ M → (0 < length ys → L.rank (sum O ys) ≤ L.rank t)
      → LowOf O L (total_of O xs) t
  total-low t {xs = []} p a h f = tt
  total-low t {xs = x ∷ xs} {ys} p a h f =
      subst (λ o. LowOf O L o t) (sym (total-is x xs a.0))
      (let e = perm-length p in rw (Z.sum-perm p a h) (f (omega arith)))

  pub total-eq : {xs ys : List O.S} → Perm xs ys → All Z.Ok xs → length xs ≤ M → 0 < length ys → total_of O xs ≡ some (sum O ys)
  total-eq {xs = []} {ys} p a h f = let e = perm-length p in absurd (omega arith)
  total-eq {xs = x ∷ xs} {ys} p a h f = total-is x xs a.0 ∙ ap some (Z.sum-perm p a h)
