-- Facts about all members of a list, and lists up to order.
use mathlib.Core.List.{List, [], map, ◌++◌, ◌∷◌}
use mathlib.Core.Path.{ap, refl, subst, ◌∙◌, ◌≡◌}
use Prim.Native.Nat.{suc, zero, ℕ}
use lib.ListN.{drop, length, take}
use Rattle.arrays.specs.Every.{All}

-- A permutation as a plain derivation: no truncation and no path at its heads, so that it can be recursed on directly.
pub data Perm {A : Type 0} : List A → List A → Type 0 where
  p-nil : Perm [] []
  p-cons : (x : A) {xs ys : List A} → Perm xs ys → Perm (x ∷ xs) (x ∷ ys)
  p-swap : (x y : A) (xs : List A) → Perm (x ∷ y ∷ xs) (y ∷ x ∷ xs)
  p-trans : {xs ys zs : List A} → Perm xs ys → Perm ys zs → Perm xs zs

pub all_append : {A : Type 0} (P : A → Type 0) (l m : List A) → All P l → All P m → All P (l ++ m)
all_append P [] m a b = b
all_append P (x ∷ xs) m a b = (a.0, all_append P xs m a.1 b)

pub all-front : {A : Type 0} (P : A → Type 0) (l m : List A) → All P (l ++ m) → All P l
all-front P [] m a = tt
all-front P (x ∷ xs) m a = (a.0, all-front P xs m a.1)

pub all_back : {A : Type 0} (P : A → Type 0) (l m : List A) → All P (l ++ m) → All P m
all_back P [] m a = a
all_back P (x ∷ xs) m a = all_back P xs m a.1

module _ {A : Type 0} where
  pub take-front : (l m : List A) → take (length l) (l ++ m) ≡ l
  take-front [] m = refl
  take-front (x ∷ l) m = ap (λ z. x ∷ z) (take-front l m)

  pub drop-front : (l m : List A) → drop (length l) (l ++ m) ≡ m
  drop-front [] m = refl
  drop-front (x ∷ l) m = drop-front l m

  pub perm-refl : (xs : List A) → Perm xs xs
  perm-refl [] = p-nil
  perm-refl (x ∷ xs) = p-cons x (perm-refl xs)

  pub perm-sym : {xs ys : List A} → Perm xs ys → Perm ys xs
  perm-sym p-nil = p-nil
  perm-sym (p-cons x p) = p-cons x (perm-sym p)
  perm-sym (p-swap x y xs) = p-swap y x xs
  perm-sym (p-trans p q) = p-trans (perm-sym q) (perm-sym p)

  pub perm-eq : {xs ys : List A} → xs ≡ ys → Perm xs ys
  perm-eq {xs} {ys} e = subst (λ z. Perm xs z) e (perm-refl xs)

  pub perm-left : (l : List A) {xs ys : List A} → Perm xs ys → Perm (l ++ xs) (l ++ ys)
  perm-left [] p = p
  perm-left (x ∷ l) p = p-cons x (perm-left l p)

  pub perm_middle : (x : A) (l r : List A) → Perm (x ∷ (l ++ r)) (l ++ x ∷ r)
  perm_middle x [] r = perm-refl (x ∷ r)
  perm_middle x (y ∷ l) r = p-trans (p-swap x y (l ++ r)) (p-cons y (perm_middle x l r))

  pub perm-length : {xs ys : List A} → Perm xs ys → length xs ≡ length ys
  perm-length p-nil = refl
  perm-length (p-cons x p) = ap suc (perm-length p)
  perm-length (p-swap x y xs) = refl
  perm-length (p-trans p q) = perm-length p ∙ perm-length q

  pub all-perm : (P : A → Type 0) {xs ys : List A} → Perm xs ys → All P xs → All P ys
  all-perm P p-nil a = a
  all-perm P (p-cons x p) a = (a.0, all-perm P p a.1)
  all-perm P (p-swap x y xs) a = (a.1.0, (a.0, a.1.1))
  all-perm P (p-trans p q) a = all-perm P q (all-perm P p a)

  pub all-imp : (P Q : A → Type 0) (xs : List A) → ((x : A) → P x → Q x) → All P xs → All Q xs
  all-imp P Q [] f a = tt
  all-imp P Q (x ∷ xs) f a = (f x a.0, all-imp P Q xs f a.1)

  pub all_take : (P : A → Type 0) (n : ℕ) (xs : List A) → All P xs → All P (take n xs)
  all_take P zero xs a = tt
  all_take P (suc n) [] a = tt
  all_take P (suc n) (x ∷ xs) a = (a.0, all_take P n xs a.1)

  pub all-zip : (P Q R : A → Type 0) → ((x : A) → P x → Q x → R x) → (xs : List A) → All P xs → All Q xs → All R xs
  all-zip P Q R f [] a b = tt
  all-zip P Q R f (x ∷ xs) a b = (f x a.0 b.0, all-zip P Q R f xs a.1 b.1)

module _ {A B : Type 0} where
  pub all-each : (Q : B → Type 0) (g : A → B) (xs : List A) → ((x : A) → Q (g x)) → All Q (map g xs)
  all-each Q g [] f = tt
  all-each Q g (x ∷ xs) f = (f x, all-each Q g xs f)

  pub all_map : (P : A → Type 0) (Q : B → Type 0) (g : A → B) (xs : List A) → ((x : A) → P x → Q (g x)) → All P xs → All Q (map g xs)
  all_map P Q g [] f a = tt
  all_map P Q g (x ∷ xs) f a = (f x a.0, all_map P Q g xs f a.1)

  pub perm-map : (g : A → B) {xs ys : List A} → Perm xs ys → Perm (map g xs) (map g ys)
  perm-map g p-nil = p-nil
  perm-map g (p-cons x p) = p-cons (g x) (perm-map g p)
  perm-map g (p-swap x y xs) = p-swap (g x) (g y) (map g xs)
  perm-map g (p-trans p q) = p-trans (perm-map g p) (perm-map g q)
