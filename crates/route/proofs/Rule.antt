-- The threshold never falls, and from a higher start it is the larger of that start and the threshold from the lower.
use mathlib.Core.Bool.{Bool, cond, false, true}
use mathlib.Core.List.{List, [], map-append, ◌++◌, ◌∷◌}
use mathlib.Core.Path.{refl, ◌≡◌}
use Prim.Native.Nat.{max, pred, suc, zero, ℕ, ◌+◌, ◌<◌, ◌≤◌}
use native.Mathlib.Omega.{arith}
use lib.Dec.{leb}
use lib.ListN.{get_or, length, length-append, take}
use borrow.Author.Tests.{leb-false, leb-true}
use Rattle.arrays.specs.Every.{All}
use Rattle.route.specs.Score.{Ops, larger}
use Rattle.route.specs.Report.{Report}
use Rattle.route.specs.Rule.{Rule, best, insert_down, last_of, rank_from, ruled, scores, script, threshold_after}
use Rattle.route.specs.Inner.Rules.{Rises, RuleOk}
use Rattle.route.proofs.Cases.{by-test}
use Rattle.route.proofs.Lists.{all_append}
use Rattle.route.proofs.Ranking.{rank-length, rank-snoc}
use Rattle.route.proofs.Order.{NeverFalls, Ordered, above-false, above-true, larger-rank}

module _ (O : Ops) (L : Ordered O) where
  -- a script rises from its start, as ranks
  abbrev Asc : O.S → List O.S → Type 0
  Asc s [] = Unit {0}
  Asc s (x ∷ xs) = (L.rank s ≤ L.rank x) × Asc x xs

  asc-of : (s : O.S) (l : List O.S) → L.Fin s → Rises O s l → All L.Fin l → Asc s l
  asc-of s [] f h a = tt
  asc-of s (x ∷ xs) f h a = (above-false O L s x f a.0 h.0, asc-of x xs a.0 h.1 a.1)

  asc-last : (s : O.S) (l : List O.S) (n : ℕ) → Asc s l → L.rank s ≤ L.rank (last_of s (take n l))
  asc-last s l zero h = omega arith
  asc-last s [] (suc n) h = omega arith
  asc-last s (x ∷ xs) (suc n) h = omega (arith, asc-last x xs n h.1, h.0)

  asc-step : (s : O.S) (l : List O.S) (n : ℕ) → Asc s l → L.rank (last_of s (take n l)) ≤ L.rank (last_of s (take (suc n) l))
  asc-step s [] zero h = omega arith
  asc-step s [] (suc n) h = omega arith
  asc-step s (x ∷ xs) zero h = h.0
  asc-step s (x ∷ xs) (suc n) h = asc-step x xs n h.1

  fin-last : (s : O.S) (l : List O.S) (n : ℕ) → L.Fin s → All L.Fin l → L.Fin (last_of s (take n l))
  fin-last s l zero f a = f
  fin-last s [] (suc n) f a = f
  fin-last s (x ∷ xs) (suc n) f a = fin-last x xs n a.0 a.1

  -- the better scores first
  abbrev HeadLe : O.S → List O.S → Type 0
  HeadLe x [] = Unit {0}
  HeadLe x (y ∷ ys) = L.rank y ≤ L.rank x

  abbrev Desc : List O.S → Type 0
  Desc [] = Unit {0}
  Desc (x ∷ xs) = HeadLe x xs × Desc xs

  insert-fin : (x : O.S) (l : List O.S) → L.Fin x → All L.Fin l → All L.Fin (insert_down O x l)
  insert-fin x [] f a = (f, tt)
  insert-fin x (y ∷ ys) f a =
      let ih = insert-fin x ys f a.1 in
      by-test (All L.Fin) (O.above x y) (x ∷ y ∷ ys) (y ∷ insert_down O x ys) (λ e. (f, a)) (λ e. (a.0, ih))

  insert-head : (z x : O.S) (l : List O.S) → HeadLe z l → L.rank x ≤ L.rank z → HeadLe z (insert_down O x l)
  insert-head z x [] h k = k
  insert-head z x (y ∷ ys) h k = by-test (HeadLe z) (O.above x y) (x ∷ y ∷ ys) (y ∷ insert_down O x ys) (λ e. k) (λ e. h)

  insert-desc : (x : O.S) (l : List O.S) → L.Fin x → All L.Fin l → Desc l → Desc (insert_down O x l)
  insert-desc x [] f a h = (tt, tt)
  insert-desc x (y ∷ ys) f a h =
      let ih = insert-desc x ys f a.1 h.1 in
      by-test Desc (O.above x y) (x ∷ y ∷ ys) (y ∷ insert_down O x ys)
      (λ e. (let q = above-true O L x y f a.0 e in omega arith, h))
      (λ e. (insert-head y x ys h.0 (above-false O L x y f a.0 e), ih))

  desc-step : (y : O.S) (ys : List O.S) (i : ℕ) → Desc (y ∷ ys) → i < length ys
      → L.rank (get_or ys i O.nil) ≤ L.rank (get_or (y ∷ ys) i O.nil)
  desc-step y (z ∷ zs) zero h k = h.0
  desc-step y (z ∷ zs) (suc i) h k = desc-step z zs i h.1 (omega arith)
  desc-step y [] i h k = absurd (omega arith)

  -- the i-th best never gets worse
  insert-rise : (x : O.S) (l : List O.S) (i : ℕ) → L.Fin x → All L.Fin l → Desc l → i < length l
      → L.rank (get_or l i O.nil) ≤ L.rank (get_or (insert_down O x l) i O.nil)
  insert-rise x [] i f a h k = absurd (omega arith)
  insert-rise x (y ∷ ys) zero f a h k =
      by-test (λ z. L.rank y ≤ L.rank (get_or z 0 O.nil)) (O.above x y) (x ∷ y ∷ ys) (y ∷ insert_down O x ys)
      (λ e. let q = above-true O L x y f a.0 e in omega arith) (λ e. omega arith)
  insert-rise x (y ∷ ys) (suc i) f a h k =
      let ih = insert-rise x ys i f a.1 h.1 (omega arith) in
      by-test (λ z. L.rank (get_or ys i O.nil) ≤ L.rank (get_or z (suc i) O.nil)) (O.above x y) (x ∷ y ∷ ys) (y ∷ insert_down O x ys)
      (λ e. desc-step y ys i h (omega arith)) (λ e. ih)

  rank-fin : (acc xs : List O.S) → All L.Fin acc → All L.Fin xs → All L.Fin (rank_from O acc xs)
  rank-fin acc [] a b = a
  rank-fin acc (x ∷ xs) a b = rank-fin (insert_down O x acc) xs (insert-fin x acc b.0 a) b.1

  rank-desc : (acc xs : List O.S) → All L.Fin acc → All L.Fin xs → Desc acc → Desc (rank_from O acc xs)
  rank-desc acc [] a b h = h
  rank-desc acc (x ∷ xs) a b h = rank-desc (insert_down O x acc) xs (insert-fin x acc b.0 a) b.1 (insert-desc x acc b.0 a h)

  get-fin : (l : List O.S) (i : ℕ) → i < length l → All L.Fin l → L.Fin (get_or l i O.nil)
  get-fin [] i h a = absurd (omega arith)
  get-fin (x ∷ xs) zero h a = a.0
  get-fin (x ∷ xs) (suc i) h a = get-fin xs i (omega arith) a.1

  -- ---- the rule as a callback

  kth-fin : (k : ℕ) (xs : List O.S) → 0 < k → All L.Fin xs → leb k (length xs) ≡ true → L.Fin (get_or (rank_from O [] xs) (pred k) O.nil)
  kth-fin k xs k0 a e =
      let h = leb-true k (length xs) e in
      let n = rank-length O [] xs in
      get-fin (rank_from O [] xs) (pred k) (omega arith) (rank-fin [] xs tt a)

  pub after-fin : (q : Rule O.S) (s : O.S) (xs : List O.S) → RuleOk O L.Fin q s → All L.Fin xs → L.Fin (threshold_after O q s xs)
  after-fin (script l) s xs ok a = fin-last s l (length xs) ok.0 ok.2
  after-fin (best k) s xs ok a =
      by-test L.Fin (leb k (length xs)) (larger O s (get_or (rank_from O [] xs) (pred k) O.nil)) s
      (λ e. by-test L.Fin (O.above (get_or (rank_from O [] xs) (pred k) O.nil) s) (get_or (rank_from O [] xs) (pred k) O.nil) s
      (λ _. kth-fin k xs ok.1 a e) (λ _. ok.0))
      (λ e. ok.0)

  -- a threshold as a number: the k-th best counts once k exist
  best_rank : ℕ → O.S → List O.S → ℕ
  best_rank k s xs = cond (leb k (length xs)) (max (L.rank s) (L.rank (get_or (rank_from O [] xs) (pred k) O.nil))) (L.rank s)

  best-rank : (k : ℕ) (s : O.S) (xs : List O.S) → L.Fin s → 0 < k → All L.Fin xs → L.rank (threshold_after O (best k) s xs) ≡ best_rank k s xs
  unfolding best_rank
  best-rank k s xs f k0 a = go (leb k (length xs)) refl
    where
      go : (b : Bool) → leb k (length xs) ≡ b
          → L.rank (cond b (larger O s (get_or (rank_from O [] xs) (pred k) O.nil)) s)
          ≡ cond b (max (L.rank s) (L.rank (get_or (rank_from O [] xs) (pred k) O.nil))) (L.rank s)
      go true e = larger-rank O L s (get_or (rank_from O [] xs) (pred k) O.nil) f (kth-fin k xs k0 a e)
      go false e = refl

  best-rise : (k : ℕ) (s x : O.S) (xs : List O.S) → 0 < k → L.Fin x → All L.Fin xs → best_rank k s xs ≤ best_rank k s (xs ++ (x ∷ []))
  unfolding best_rank
  best-rise k s x xs k0 fx a =
      rw (length-append xs (x ∷ []), rank-snoc O [] xs x)
      (go (leb k (length xs)) (leb k (length xs + 1)) refl refl)
    where
      go : (b c : Bool) → leb k (length xs) ≡ b → leb k (length xs + 1) ≡ c
          → cond b (max (L.rank s) (L.rank (get_or (rank_from O [] xs) (pred k) O.nil))) (L.rank s)
          ≤ cond c (max (L.rank s) (L.rank (get_or (insert_down O x (rank_from O [] xs)) (pred k) O.nil))) (L.rank s)
      go true true e f =
          let h = leb-true k (length xs) e in
          let n = rank-length O [] xs in
          let i = insert-rise x (rank_from O [] xs) (pred k) fx (rank-fin [] xs tt a) (rank-desc [] xs tt a tt) (omega arith) in
          omega arith
      go true false e f = let h = leb-true k (length xs) e in let g = leb-false k (length xs + 1) f in absurd (omega arith)
      go false true e f = omega arith
      go false false e f = omega arith

  pub after-rise : (q : Rule O.S) (s x : O.S) (xs : List O.S) → RuleOk O L.Fin q s → L.Fin x → All L.Fin xs
      → L.rank (threshold_after O q s xs) ≤ L.rank (threshold_after O q s (xs ++ (x ∷ [])))
  after-rise (script l) s x xs ok fx a =
      let e : length (xs ++ (x ∷ [])) ≡ suc (length xs) = simp length-append (omega arith) in
      rw e (asc-step s l (length xs) (asc-of s l ok.0 ok.1 ok.2))
  after-rise (best k) s x xs ok fx a =
      rw (best-rank k s xs ok.0 ok.1 a, best-rank k s (xs ++ (x ∷ [])) ok.0 ok.1 (all_append L.Fin xs (x ∷ []) a (fx, tt)))
      (best-rise k s x xs ok.1 fx a)

  pub start-fin : (q : Rule O.S) (s : O.S) → RuleOk O L.Fin q s → L.Fin s
  start-fin (script l) s ok = ok.0
  start-fin (best k) s ok = ok.0

  -- from the higher start the threshold is the larger of that start and the threshold from the lower
  pub two-starts : (q : Rule O.S) (lo hi : O.S) (xs : List O.S) → RuleOk O L.Fin q lo → RuleOk O L.Fin q hi → L.rank lo ≤ L.rank hi
      → All L.Fin xs
      → L.rank (threshold_after O q hi xs) ≡ max (L.rank hi) (L.rank (threshold_after O q lo xs))
  unfolding best_rank
  two-starts (script []) lo hi [] p r h a = omega arith
  two-starts (script []) lo hi (x ∷ xs) p r h a = omega arith
  two-starts (script (v ∷ l)) lo hi [] p r h a = omega arith
  two-starts (script (v ∷ l)) lo hi (x ∷ xs) p r h a = let c = asc-of hi (v ∷ l) r.0 r.1 r.2 in let k = asc-last v l (length xs)
      c.1 in let j = c.0 in omega arith
  two-starts (best k) lo hi xs p r h a =
      rw (best-rank k lo xs p.0 p.1 a, best-rank k hi xs r.0 r.1 a) (go (leb k (length xs)))
    where
      go : (b : Bool) → cond b (max (L.rank hi) (L.rank (get_or (rank_from O [] xs) (pred k) O.nil))) (L.rank hi)
          ≡ max (L.rank hi) (cond b (max (L.rank lo) (L.rank (get_or (rank_from O [] xs) (pred k) O.nil))) (L.rank lo))
      go true = omega arith
      go false = omega arith

  abbrev pub GoodRows : List (Report O.S) → Type 0
  GoodRows rs = All L.Fin (scores rs)

  pub good-put : (d : ℕ) (x : O.S) (rs : List (Report O.S)) → GoodRows rs → L.Fin x → GoodRows (rs ++ (record { doc = d; score = x } ∷ []))
  good-put d x rs g f = rw (map-append (λ y. y.score) rs (record { doc = d; score = x } ∷ [])) (all_append L.Fin (scores rs) (x ∷ []) g (f, tt))

  -- both rules as a callback whose threshold never falls
  abbrev pub never-falls : (q : Rule O.S) (s : O.S) → RuleOk O L.Fin q s → NeverFalls O L (ruled O q s)
  never-falls q s ok = record {
    Good = GoodRows;
    threshold-fin = λ r g. after-fin q s (scores r) ok g;
    call-good = λ d x r g f. good-put d x r g f;
    call-rise = λ d x r g f. rw (map-append (λ y. y.score) r (record { doc = d; score = x } ∷ [])) (after-rise q s x (scores r) ok f g);
  }
