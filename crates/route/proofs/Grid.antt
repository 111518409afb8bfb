-- Values on a grid, whose sums of at most M are exact, meet all that the theorems ask of sums.
use mathlib.Core.Bool.{false}
use mathlib.Core.List.{List, [], ◌++◌, ◌∷◌}
use mathlib.Core.Path.{ap, refl, subst, ◌∙◌, ◌≡◌}
use Prim.Native.Nat.{suc, ℕ, ◌+◌, ◌-◌, ◌≤◌}
use native.Mathlib.Omega.{arith}
use lib.ListN.{length, length-append}
use Rattle.arrays.specs.Every.{All}
use Rattle.route.specs.Score.{Ops, sum, sum_from}
use Rattle.route.proofs.Lists.{Perm, all_append, all-perm, p-cons, p-nil, p-swap, p-trans, perm-length}
use Rattle.route.proofs.Order.{Ordered}
use Rattle.route.proofs.Sums.{Dom, Exact, Sums, d-keep, d-nil, d-skip, dom-length}

module _ (O : Ops) (L : Ordered O) (M : ℕ) where
  -- `Part n x`: x is at most n scores' worth. `zero-at` is the rank of 0.
  pub record Grid : Type 1 where
    pub zero-at : ℕ
    pub Part : ℕ → O.S → Type 0
    pub nil-part : (n : ℕ) → Part n O.nil
    pub nil-rank : L.rank O.nil ≡ zero-at
    pub part-fin : (n : ℕ) (x : O.S) → n ≤ M → Part n x → L.Fin x
    pub part-least : (n : ℕ) (x : O.S) → n ≤ M → Part n x → zero-at ≤ L.rank x
    pub add-part : (m n : ℕ) (x y : O.S) → m + n ≤ M → Part m x → Part n y → Part (m + n) (O.add x y)
    pub add-rank : (m n : ℕ) (x y : O.S) → m + n ≤ M → Part m x → Part n y → L.rank (O.add x y) + zero-at ≡ L.rank x + L.rank y
    pub rank-inj : (m n : ℕ) (x y : O.S) → m ≤ M → n ≤ M → Part m x → Part n y → L.rank x ≡ L.rank y → x ≡ y
    pub sub-rank : (n : ℕ) (x y t : O.S) → suc n ≤ M → Part 1 x → Part n y → L.Fin t → O.above x (O.sub t y) ≡ false
        → L.rank x + L.rank y ≤ L.rank t + zero-at

  module _ (Gr : Grid) (some-room : 1 ≤ M) where
    abbrev pub Ok : O.S → Type 0
    Ok x = Gr.Part 1 x

    pub weight : List O.S → ℕ
    weight [] = 0
    weight (x ∷ xs) = (L.rank x - Gr.zero-at) + weight xs

    pub part-sum : (m : ℕ) (acc : O.S) (xs : List O.S) → Gr.Part m acc → All Ok xs → m + length xs ≤ M
        → Gr.Part (m + length xs) (sum_from O acc xs) × (L.rank (sum_from O acc xs) ≡ L.rank acc + weight xs)
    unfolding weight
    part-sum m acc [] p a h = let e : m ≡ m + 0 = omega arith in (subst (λ n. Gr.Part n acc) e p, omega arith)
    part-sum m acc (x ∷ xs) p a h =
        let r = part-sum (m + 1) (O.add acc x) xs (Gr.add-part m 1 acc x (omega arith) p a.0) a.1 (omega arith) in
        let e : (m + 1) + length xs ≡ m + suc (length xs) = omega arith in
        let k = Gr.add-rank m 1 acc x (omega arith) p a.0 in
        let l = Gr.part-least 1 x some-room a.0 in
        let r1 = r.1 in
        (subst (λ n. Gr.Part n (sum_from O (O.add acc x) xs)) e r.0, omega arith)

    pub sum-part : (xs : List O.S) → All Ok xs → length xs ≤ M → Gr.Part (length xs) (sum O xs) × (L.rank (sum O xs) ≡ Gr.zero-at + weight xs)
    sum-part xs a h =
        let r = part-sum 0 O.nil xs (Gr.nil-part 0) a (omega arith) in
        let e : 0 + length xs ≡ length xs = omega arith in
        let r1 = r.1 in
        let z = Gr.nil-rank in
        (subst (λ n. Gr.Part n (sum O xs)) e r.0, omega arith)

    pub weight-perm : {xs ys : List O.S} → Perm xs ys → weight xs ≡ weight ys
    unfolding weight
    weight-perm p-nil = refl
    weight-perm (p-cons x p) = ap (λ z. (L.rank x - Gr.zero-at) + z) (weight-perm p)
    weight-perm (p-swap x y xs) = omega arith
    weight-perm (p-trans p q) = weight-perm p ∙ weight-perm q

    pub weight-dom : {xs ys : List O.S} → Dom O L xs ys → weight xs ≤ weight ys
    unfolding weight
    weight-dom d-nil = omega arith
    weight-dom (d-skip y d) = omega (arith, weight-dom d)
    weight-dom (d-keep x y h d) = omega (arith, weight-dom d)

    pub weight-app : (xs ys : List O.S) → weight (xs ++ ys) ≡ weight xs + weight ys
    unfolding weight
    weight-app [] ys = omega arith
    weight-app (x ∷ xs) ys = omega (arith, weight-app xs ys)

    abbrev pub sums : Sums O L M
    sums = record {
      Ok = λ x. Gr.Part 1 x;
      values = record {
        fin = λ x p. Gr.part-fin 1 x some-room p;
        nil-ok = Gr.nil-part 1;
        nil-least = λ x p. omega (arith, Gr.nil-rank, Gr.part-least 1 x some-room p);
      };
      sum-fin = λ xs a h. Gr.part-fin (length xs) (sum O xs) h (sum-part xs a h).0;
      sum-perm = λ {xs} {ys} p a h.
          let l = perm-length p in
          let b = sum-part xs a h in
          let c = sum-part ys (all-perm (λ x. Gr.Part 1 x) p a) (omega arith) in
          let w = weight-perm p in
          let b1 = b.1 in
          let c1 = c.1 in
          Gr.rank-inj (length xs) (length ys) (sum O xs) (sum O ys) h (omega arith) b.0 c.0 (omega arith);
      sum_mono = λ {xs} {ys} d a b h.
          let l = dom-length O L d in
          let s = (sum-part xs a (omega arith)).1 in
          let t = (sum-part ys b h).1 in
          let w = weight-dom d in
          omega arith;
      sum_one = λ x p.
          let k = Gr.add-rank 0 1 O.nil x (omega arith) (Gr.nil-part 0) p in
          let z = Gr.nil-rank in
          Gr.rank-inj 1 1 (O.add O.nil x) x some-room some-room (Gr.add-part 0 1 O.nil x (omega arith) (Gr.nil-part 0) p) p (omega arith);
    }

    pub exact : Exact O L M sums
    exact = record {
      sum-app = λ xs ys a b h.
          let s = sum-part xs a (omega arith) in
          let t = sum-part ys b (omega arith) in
          let l = length-append xs ys in
          let u = sum-part (xs ++ ys) (all_append (λ x. Gr.Part 1 x) xs ys a b) (omega arith) in
          let k = Gr.add-rank (length xs) (length ys) (sum O xs) (sum O ys) h s.0 t.0 in
          let w = weight-app xs ys in
          let s1 = s.1 in
          let t1 = t.1 in
          let u1 = u.1 in
          Gr.rank-inj (length xs + length ys) (length (xs ++ ys)) (O.add (sum O xs) (sum O ys)) (sum O (xs ++ ys)) h (omega arith)
          (Gr.add-part (length xs) (length ys) (sum O xs) (sum O ys) h s.0 t.0) u.0 (omega arith);
      sub_low = λ x ys t p a h f e.
          let s = sum-part ys a (omega arith) in
          let k = Gr.add-rank 1 (length ys) x (sum O ys) (omega arith) p s.0 in
          let j = Gr.sub-rank (length ys) x (sum O ys) t h p s.0 f e in
          omega arith;
    }
