-- Best k over any list of scored documents: the first k of its reports are the first k of all that score above the start, for one that is not
-- reported has k reports before it that score at or above it. Ties at the k-th score go to the lower document, which came first.
use mathlib.Core.Bool.{Bool, cond, false, not, true, true≢false, ◌&&◌, ◌||◌}
use mathlib.Core.List.{List, [], append_assoc, append-nil, map-append, ◌∷◌, ◌++◌}
use mathlib.Core.Path.{ap, refl, subst, sym, ◌∙◌, ◌≡◌}
use Prim.Native.Nat.{ℕ, pred, suc, zero, ◌<◌, ◌≤◌}
use native.Mathlib.Omega.{arith}
use lib.Dec.{leb}
use lib.ListN.{drop, get_or, length, length-map, take, take-append-drop}
use borrow.Author.Tests.{le-ltb, leb-true, lt-ltb}
use Rattle.arrays.specs.Every.{All}
use Rattle.route.specs.Score.{Ops, larger}
use Rattle.route.specs.Report.{Report, offer}
use Rattle.route.specs.Rule.{best, insert_down, rank_from, ruled, scores, threshold_after}
use Rattle.route.proofs.Cases.{by-test}
use Rattle.route.proofs.Lists.{Perm, all_append, all-imp, perm-eq, p-trans}
use Rattle.route.proofs.Order.{Ordered, above-false, above-true, larger-rank, le-above}
use Rattle.route.proofs.Ranking.{rank-length, rank-snoc}
use Rattle.route.proofs.Rule.{GoodRows, after-fin, good-put, two-starts}
use Rattle.best_notes.specs.Best.{ahead, best_of, in_order, place}
use Rattle.best_notes.specs.Matches.{above}
use Rattle.best_notes.specs.Inner.Offered.{Rising, offered}
use Rattle.best_notes.proofs.Notes.{order-all, order-perm, place-behind, take-place}
use Rattle.best_notes.proofs.Order.{ahead-across, ahead-asym, rank-orders}

all-get : {A : Type 0} (P : A → Type 0) (d : A) (l : List A) (i : ℕ) → i < length l → All P l → P (get_or l i d)
all-get P d [] i h a = absurd (omega arith)
all-get P d (x ∷ xs) zero h a = a.0
all-get P d (x ∷ xs) (suc i) h a = all-get P d xs i (omega arith) a.1

-- a test that is no case of the document
no_tie : (b c : Bool) → (b || (not c && false)) ≡ b
no_tie true c = refl
no_tie false true = refl
no_tie false false = refl

module _ (O : Ops) where
  -- against an earlier document the score alone decides
  ahead-later : (x y : Report O.S) → y.doc < x.doc → ahead O x y ≡ O.above x.score y.score
  ahead-later x y h = rw (le-ltb x.doc y.doc (omega arith)) (no_tie (O.above x.score y.score) (O.above y.score x.score))

  -- behind earlier documents a note stands where its score stands among the scores
  place-scores : (x : Report O.S) (l : List (Report O.S)) → All (λ y. y.doc < x.doc) l → scores (place O x l) ≡ insert_down O x.score (scores l)
  place-scores x [] a = refl
  place-scores x (y ∷ ys) a = rw (ahead-later x y a.0) (go (place-scores x ys a.1) (O.above x.score y.score))
    where
      go : scores (place O x ys) ≡ insert_down O x.score (scores ys) → (b : Bool)
          → scores (cond b (x ∷ y ∷ ys) (y ∷ place O x ys)) ≡ cond b (x.score ∷ y.score ∷ scores ys) (y.score ∷ insert_down O x.score (scores ys))
      go ih true = refl
      go ih false = ap (λ (l : List O.S). y.score ∷ l) ih

module _ (O : Ops) (L : Ordered O) where
  abbrev Note : Type 0
  Note = Report O.S

  abbrev Fine : Note → Type 0
  Fine x = L.Fin x.score

  abbrev asym : (x y : Note) → Fine x → Fine y → ahead O x y ≡ true → ahead O y x ≡ false
  asym = ahead-asym O L.Fin (rank-orders O L)

  abbrev across : (x y z : Note) → Fine x → Fine y → Fine z → ahead O x y ≡ false → ahead O y z ≡ false → ahead O x z ≡ false
  across = ahead-across O L.Fin (rank-orders O L)

  -- of two documents one comes before the other
  other_way : (x y : Note) → y.doc < x.doc → ahead O y x ≡ false → ahead O x y ≡ true
  other_way x y h e = go (O.above y.score x.score) (O.above x.score y.score) refl refl (subst (λ (b : Bool). (O.above y.score x.score || (not (O.above x.score y.score) && b)) ≡ false) (lt-ltb y.doc x.doc h) e)
    where
      go : (a b : Bool) → O.above y.score x.score ≡ a → O.above x.score y.score ≡ b → (a || (not b && true)) ≡ false → ahead O x y ≡ true
      go true b f g e = absurd (true≢false e)
      go false true f g e = rw g
      go false false f g e = absurd (true≢false e)

  -- two notes stand in one order, whichever is put in last
  place-swap : (x y : Note) (l : List Note) → Fine x → Fine y → All Fine l → y.doc < x.doc → place O y (place O x l) ≡ place O x (place O y l)
  place-swap x y [] p q a h = go (ahead O y x) refl
    where
      go : (b : Bool) → ahead O y x ≡ b → place O y (x ∷ []) ≡ place O x (y ∷ [])
      go true e = rw (e, asym y x q p e)
      go false e = rw (e, other_way x y h e)
  place-swap x y (z ∷ zs) p q a h = go (ahead O x z) (ahead O y z) (ahead O y x) refl refl refl (place-swap x y zs p q a.1 h)
    where
      go : (b c d : Bool) → ahead O x z ≡ b → ahead O y z ≡ c → ahead O y x ≡ d → place O y (place O x zs) ≡ place O x (place O y zs)
          → place O y (place O x (z ∷ zs)) ≡ place O x (place O y (z ∷ zs))
      go true true true e f g ih = rw (e, f, g, asym y x q p g, e)
      go true true false e f g ih = rw (e, f, g, other_way x y h g)
      go true false d e f g ih = rw (e, f, across y z x q a.0 p f (asym x z p a.0 e), e)
      go false true d e f g ih = rw (e, f, across x z y p a.0 q e (asym y z q a.0 f), e)
      go false false d e f g ih = rw (e, f, e) (ap (λ (l : List Note). z ∷ l) ih)

  -- one more behind all others
  pub order-snoc : (l : List Note) (x : Note) → All Fine l → Fine x → All (λ y. y.doc < x.doc) l → in_order O (l ++ (x ∷ [])) ≡ place O x (in_order O l)
  order-snoc [] x a p b = refl
  order-snoc (y ∷ ys) x a p b =
      ap (place O y) (order-snoc ys x a.1 p b.1)
      ∙ place-swap x y (in_order O ys) p a.0 (order-all O Fine ys a.1) b.0

  -- from the best down
  abbrev Falls : List O.S → Type 0
  Falls [] = Unit {0}
  Falls (x ∷ xs) = All (λ y. L.rank y ≤ L.rank x) xs × Falls xs

  insert_all : (P : O.S → Type 0) (x : O.S) (l : List O.S) → P x → All P l → All P (insert_down O x l)
  insert_all P x [] p a = (p, tt)
  insert_all P x (y ∷ ys) p a =
      let ih = insert_all P x ys p a.1 in
      by-test (All P) (O.above x y) (x ∷ y ∷ ys) (y ∷ insert_down O x ys) (λ e. (p, a)) (λ e. (a.0, ih))

  insert-falls : (x : O.S) (l : List O.S) → L.Fin x → All L.Fin l → Falls l → Falls (insert_down O x l)
  insert-falls x [] f a h = (tt, tt)
  insert-falls x (y ∷ ys) f a h =
      let ih = insert-falls x ys f a.1 h.1 in
      by-test Falls (O.above x y) (x ∷ y ∷ ys) (y ∷ insert_down O x ys)
      (λ e.
      let q = above-true O L x y f a.0 e in
      ((omega arith, all-imp (λ z. L.rank z ≤ L.rank y) (λ z. L.rank z ≤ L.rank x) ys (λ z k. omega arith) h.0), h))
      (λ e. (insert_all (λ z. L.rank z ≤ L.rank y) x ys (above-false O L x y f a.0 e) h.0, ih))

  rank-all : (acc xs : List O.S) → All L.Fin acc → All L.Fin xs → Falls acc → All L.Fin (rank_from O acc xs) × Falls (rank_from O acc xs)
  rank-all acc [] a b h = (a, h)
  rank-all acc (x ∷ xs) a b h = rank-all (insert_down O x acc) xs (insert_all L.Fin x acc b.0 a) b.1 (insert-falls x acc b.0 a h)

  -- what is at or below the k-th is at or below the first k
  falls-first : (r k : ℕ) (l : List O.S) → 0 < k → k ≤ length l → Falls l → r ≤ L.rank (get_or l (pred k) O.nil) → All (λ y. r ≤ L.rank y) (take k l)
  falls-first r zero l p h f g = absurd (omega arith)
  falls-first r (suc k) [] p h f g = absurd (omega arith)
  falls-first r (suc zero) (y ∷ ys) p h f g = (g, tt)
  falls-first r (suc (suc k)) (y ∷ ys) p h f g =
      let m = all-get (λ z. L.rank z ≤ L.rank y) O.nil ys k (omega arith) f.0 in
      (omega arith, falls-first r (suc k) ys (omega arith) (omega arith) f.1 g)

  -- above the start, and not above best k's threshold: k scores exist, and the first k are at or above it
  kept_out : (k : ℕ) (s x : O.S) (xs : List O.S) → 0 < k → L.Fin s → L.Fin x → All L.Fin xs → O.above x s ≡ true
      → O.above x (threshold_after O (best k) s xs) ≡ false
      → (k ≤ length xs) × All (λ y. L.rank x ≤ L.rank y) (take k (rank_from O [] xs))
  kept_out k s x xs p fs fx a up low = go (leb k (length xs)) refl
    where
      go : (b : Bool) → leb k (length xs) ≡ b → (k ≤ length xs) × All (λ y. L.rank x ≤ L.rank y) (take k (rank_from O [] xs))
      go true e =
          let kth = get_or (rank_from O [] xs) (pred k) O.nil in
          let h = leb-true k (length xs) e in
          let n = rank-length O [] xs in
          let w = rank-all [] xs tt a tt in
          let u = above-true O L x s fx fs up in
          let fk : L.Fin kth = all-get L.Fin O.nil (rank_from O [] xs) (pred k) (omega arith) w.0 in
          let m = larger-rank O L s kth fs fk in
          let lo : O.above x (larger O s kth) ≡ false = sym (ap (λ (b : Bool). O.above x (cond b (larger O s kth) s)) e) ∙ low in
          let fl : L.Fin (larger O s kth) = by-test L.Fin (O.above kth s) kth s (λ _. fk) (λ _. fs) in
          let v = above-false O L x (larger O s kth) fx fl lo in
          (h, falls-first (L.rank x) k (rank_from O [] xs) p (omega arith) w.1 (omega arith))
      go false e =
          let lo : O.above x s ≡ false = sym (ap (λ (b : Bool). O.above x (cond b (larger O s (get_or (rank_from O [] xs) (pred k) O.nil)) s)) e) ∙ low in
          absurd (omega (arith, above-true O L x s fx fs up, above-false O L x s fx fs lo))

  module _ (k : ℕ) (s : O.S) (some-kept : 0 < k) (fs : L.Fin s) where
    -- a note of a document below d
    abbrev Below : ℕ → Note → Type 0
    Below d y = Fine y × (y.doc < d)

    -- after the documents below d: `rs` reported, `ms` above the start
    record Alike (d : ℕ) (rs ms : List Note) : Type 0 where
      good : GoodRows O L rs
      reports : All (Below d) rs
      all_above : All (Below d) ms
      scores-are : scores (in_order O rs) ≡ rank_from O [] (scores rs)
      same : best_of O k rs ≡ best_of O k ms

    none_yet : Alike 0 [] []
    none_yet = record { good = tt; reports = tt; all_above = tt; scores-are = refl; same = refl }

    below_more : (d e : ℕ) (l : List Note) → d ≤ e → All (Below d) l → All (Below e) l
    below_more d e l h a = all-imp (Below d) (Below e) l (λ y w. let v = w.1 in (w.0, omega arith)) a

    -- the first k after one more of both
    both-placed : (x : Note) (a b : List Note) → best_of O k a ≡ best_of O k b → take k (place O x (in_order O a)) ≡ take k (place O x (in_order O b))
    both-placed x a b e =
        sym (take-place O x k (in_order O a)) ∙ ap (λ (l : List Note). take k (place O x l)) e ∙ take-place O x k (in_order O b)

    module _ {d : ℕ} {rs ms : List Note} (A : Alike d rs ms) (x : Note) (fx : Fine x) (h : d ≤ x.doc) where
      -- neither reported nor above the start
      passed : Alike (suc x.doc) rs ms
      passed = record {
        good = A.good;
        reports = below_more d (suc x.doc) rs (omega arith) A.reports;
        all_above = below_more d (suc x.doc) ms (omega arith) A.all_above;
        scores-are = A.scores-are;
        same = A.same;
      }

      last-in : (l : List Note) → All (Below d) l → in_order O (l ++ (x ∷ [])) ≡ place O x (in_order O l)
      last-in l a =
          order-snoc l x (all-imp (Below d) Fine l (λ y w. w.0) a) fx (all-imp (Below d) (λ y. y.doc < x.doc) l (λ y w. let v = w.1 in omega arith) a)

      with-x : (l : List Note) → All (Below d) l → All (Below (suc x.doc)) (l ++ (x ∷ []))
      with-x l a = all_append (Below (suc x.doc)) l (x ∷ []) (below_more d (suc x.doc) l (omega arith) a) ((fx, omega arith), tt)

      -- its document comes behind all that stand there in order
      in-front : (l : List Note) → All (Below d) l → All (λ y. y.doc < x.doc) (in_order O l)
      in-front l a = order-all O (λ y. y.doc < x.doc) l (all-imp (Below d) (λ y. y.doc < x.doc) l (λ y w. let v = w.1 in omega arith) a)

      -- reported, and so above the start
      taken : Alike (suc x.doc) (rs ++ (x ∷ [])) (ms ++ (x ∷ []))
      taken = record {
        good = good-put O L x.doc x.score rs A.good fx;
        reports = with-x rs A.reports;
        all_above = with-x ms A.all_above;
        scores-are =
            ap scores (last-in rs A.reports)
            ∙ place-scores O x (in_order O rs) (in-front rs A.reports)
            ∙ ap (insert_down O x.score) A.scores-are
            ∙ sym (rank-snoc O [] (scores rs) x.score)
            ∙ ap (rank_from O []) (sym (map-append (λ (y : Note). y.score) rs (x ∷ [])));
        same =
            ap (take k) (last-in rs A.reports)
            ∙ both-placed x rs ms A.same
            ∙ ap (take k) (sym (last-in ms A.all_above));
      }

      -- of notes that score at or above it, with earlier documents, it comes before none
      after-all : (n : ℕ) (l : List Note) → All (λ y. y.doc < x.doc) l → GoodRows O L l → All (λ y. L.rank x.score ≤ L.rank y) (take n (scores l))
          → All (λ y. ahead O x y ≡ false) (take n l)
      after-all zero l a g h = tt
      after-all (suc n) [] a g h = tt
      after-all (suc n) (y ∷ ys) a g h =
          (ahead-later O x y a.0 ∙ le-above O L x.score y.score fx g.0 h.0, after-all n ys a.1 g.1 h.1)

      -- above the start and not reported
      left_out : O.above x.score s ≡ true → O.above x.score (threshold_after O (best k) s (scores rs)) ≡ false → Alike (suc x.doc) rs (ms ++ (x ∷ []))
      left_out up low =
          let w = kept_out k s x.score (scores rs) some-kept fs fx A.good up low in
          let l = in_order O rs in
          let n = rank-length O [] (scores rs) in
          let e = ap length A.scores-are in
          let m = length-map l (λ (y : Note). y.score) in
          let g : GoodRows O L l = rw A.scores-are (rank-all [] (scores rs) tt A.good tt).0 in
          let t : All (λ y. L.rank x.score ≤ L.rank y) (take k (scores l)) = rw A.scores-are w.1 in
          record {
            good = A.good;
            reports = below_more d (suc x.doc) rs (omega arith) A.reports;
            all_above = with-x ms A.all_above;
            scores-are = A.scores-are;
            same =
                sym (place-behind O x k l (omega (arith, w.0)) (after-all k l (in-front rs A.reports) g t))
                ∙ both-placed x rs ms A.same
                ∙ ap (take k) (sym (last-in ms A.all_above));
          }

      -- one document offered
      one : Alike (suc x.doc) (offer O (ruled O (best k) s) x.doc x.score rs) (ms ++ above O s (x ∷ []))
      one = go (O.above x.score (threshold_after O (best k) s (scores rs))) (O.above x.score s) refl refl
        where
          go : (b c : Bool) → O.above x.score (threshold_after O (best k) s (scores rs)) ≡ b → O.above x.score s ≡ c
              → Alike (suc x.doc) (offer O (ruled O (best k) s) x.doc x.score rs) (ms ++ above O s (x ∷ []))
          go true true e f = rw (e, f) taken
          go true false e f =
              let t = threshold_after O (best k) s (scores rs) in
              let m = two-starts O L (best k) s s (scores rs) (fs, some-kept) (fs, some-kept) (omega arith) A.good in
              let u = above-true O L x.score t fx (after-fin O L (best k) s (scores rs) (fs, some-kept) A.good) e in
              let v = above-false O L x.score s fx fs f in
              absurd (omega arith)
          go false true e f = rw (e, f) (left_out f e)
          go false false e f = rw (e, f, append-nil ms) passed

    above_more : (x : Note) (xs : List Note) → above O s (x ∷ []) ++ above O s xs ≡ above O s (x ∷ xs)
    above_more x xs = by-test (λ z. z ++ above O s xs ≡ above O s (x ∷ xs)) (O.above x.score s) (x ∷ []) [] (λ e. rw e) (λ e. rw e)

    all-offered : (xs : List Note) (d : ℕ) (rs ms : List Note) → Rising d xs → All Fine xs → Alike d rs ms
        → best_of O k (offered O (ruled O (best k) s) xs rs) ≡ best_of O k (ms ++ above O s xs)
    all-offered [] d rs ms r f A = A.same ∙ ap (best_of O k) (sym (append-nil ms))
    all-offered (x ∷ xs) d rs ms r f A =
        all-offered xs (suc x.doc) (offer O (ruled O (best k) s) x.doc x.score rs) (ms ++ above O s (x ∷ [])) r.1 f.1 (one A x f.0 r.0)
        ∙ ap (best_of O k) (append_assoc ms (above O s (x ∷ [])) (above O s xs) ∙ ap (λ (l : List Note). ms ++ l) (above_more x xs))

    module _ (xs : List Note) (rising : Rising 0 xs) (fine : All Fine xs) where
      -- THE FIRST k OF THE REPORTS ARE THE FIRST k OF ALL THAT SCORE ABOVE THE START
      pub best-of-reports : best_of O k (offered O (ruled O (best k) s) xs []) ≡ best_of O k (above O s xs)
      best-of-reports = all-offered xs 0 [] [] rising fine none_yet

      -- EVERY ONE OF THE FIRST k WAS REPORTED: the reports are those and others
      pub first-reported : (rest : List Note) × Perm (offered O (ruled O (best k) s) xs []) (best_of O k (above O s xs) ++ rest)
      first-reported =
          let rs = offered O (ruled O (best k) s) xs [] in (
            drop k (in_order O rs),
            p-trans (order-perm O rs) (perm-eq (sym (take-append-drop k (in_order O rs)) ∙ ap (λ (l : List Note). l ++ drop k (in_order O rs)) best-of-reports)),
          )
