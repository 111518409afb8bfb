-- The scorers that stand behind the frontier, and why no pivot is found among them that passes the block test.
use mathlib.Core.Bool.{Bool, cond, false, true}
use mathlib.Core.List.{List, [], map, ◌++◌, ◌∷◌}
use mathlib.Core.Path.{ap, refl, subst, sym, ◌≡◌}
use Prim.Native.Nat.{suc, ℕ, ◌<◌, ◌≤◌}
use native.Mathlib.Omega.{arith}
use lib.Dec.{eqb, leb, ltb}
use lib.ListN.{length}
use borrow.Author.Tests.{le-ltb, leb-false, leb-true, lt-ltb}
use Rattle.arrays.specs.Every.{All}
use Rattle.route.specs.Score.{Ops, sum}
use Rattle.route.specs.Postings.{TERMINATED, last_doc}
use Rattle.route.specs.Cursor.{Cursor, block_max, doc_here, load_at, next_in, seek_block_in, tail_max}
use Rattle.route.specs.Ordering.{restore_ordering}
use Rattle.route.specs.Scorer.{Scorer, block_max_score, doc_of, last_doc_in_block, max_score, on_cur, seek, seek_block}
use Rattle.route.specs.Inner.Orders.{From}
use Rattle.route.proofs.Cases.{by-test, on_test}
use Rattle.route.proofs.Lists.{Perm, p-cons, p-nil, p-swap, p-trans, perm-refl}
use Rattle.route.proofs.Order.{Ordered}
use Rattle.route.proofs.Cursor.{seek_is}
use Rattle.route.proofs.Bounds.{tail-top}
use Rattle.route.proofs.Sums.{Dom, Sums, d-keep, d-nil, d-skip}
use Rattle.route.proofs.Scorers.{Sc}

module _ {S : Type 0} where
  -- the scorers behind f
  abbrev pub lag_of : ℕ → List (Scorer S) → List (Scorer S)
  lag_of f [] = []
  lag_of f (s ∷ ss) = cond (ltb (doc_of s) f) (s ∷ lag_of f ss) (lag_of f ss)

  pub lag-app : (f : ℕ) (xs ys : List (Scorer S)) → lag_of f (xs ++ ys) ≡ lag_of f xs ++ lag_of f ys
  lag-app f [] ys = refl
  lag-app f (x ∷ xs) ys = go (ltb (doc_of x) f) (lag-app f xs ys)
    where
      go : (b : Bool) → lag_of f (xs ++ ys) ≡ lag_of f xs ++ lag_of f ys
          → cond b (x ∷ lag_of f (xs ++ ys)) (lag_of f (xs ++ ys)) ≡ cond b (x ∷ lag_of f xs) (lag_of f xs) ++ lag_of f ys
      go true e = ap (λ z. x ∷ z) e
      go false e = e

  pub lag-none : (f : ℕ) (ss : List (Scorer S)) → From doc_of f ss → lag_of f ss ≡ []
  lag-none f [] a = refl
  lag-none f (s ∷ ss) a = rw (le-ltb (doc_of s) f a.0) (lag-none f ss a.1)

  pub lag-all : (f : ℕ) (ss : List (Scorer S)) → All (λ s. doc_of s < f) ss → lag_of f ss ≡ ss
  lag-all f [] a = refl
  lag-all f (s ∷ ss) a = rw (lt-ltb (doc_of s) f a.0) (ap (λ z. s ∷ z) (lag-all f ss a.1))

  pub lag-perm : (f : ℕ) {xs ys : List (Scorer S)} → Perm xs ys → Perm (lag_of f xs) (lag_of f ys)
  lag-perm f p-nil = p-nil
  lag-perm f (p-cons x {xs} {ys} p) = go (ltb (doc_of x) f) (lag-perm f p)
    where
      go : (b : Bool) → Perm (lag_of f xs) (lag_of f ys) → Perm (cond b (x ∷ lag_of f xs) (lag_of f xs)) (cond b (x ∷ lag_of f ys) (lag_of f ys))
      go true e = p-cons x e
      go false e = e
  lag-perm f (p-swap x y xs) = go (ltb (doc_of x) f) (ltb (doc_of y) f)
    where
      go : (a b : Bool) → Perm (cond a (x ∷ cond b (y ∷ lag_of f xs) (lag_of f xs)) (cond b (y ∷ lag_of f xs) (lag_of f xs)))
          (cond b (y ∷ cond a (x ∷ lag_of f xs) (lag_of f xs)) (cond a (x ∷ lag_of f xs) (lag_of f xs)))
      go true true = p-swap x y (lag_of f xs)
      go true false = perm-refl (x ∷ lag_of f xs)
      go false true = perm-refl (y ∷ lag_of f xs)
      go false false = perm-refl (lag_of f xs)
  lag-perm f (p-trans p q) = p-trans (lag-perm f p) (lag-perm f q)

  pub lag-keep : (P : Scorer S → Type 0) (f : ℕ) (ss : List (Scorer S)) → All P ss → All P (lag_of f ss)
  lag-keep P f [] a = tt
  lag-keep P f (s ∷ ss) a =
      let ih = lag-keep P f ss a.1 in
      by-test (All P) (ltb (doc_of s) f) (s ∷ lag_of f ss) (lag_of f ss) (λ _. (a.0, ih)) (λ _. ih)

  pub lag-length : (f : ℕ) (ss : List (Scorer S)) → length (lag_of f ss) ≤ length ss
  lag-length f [] = omega arith
  lag-length f (s ∷ ss) =
      let ih = lag-length f ss in
      by-test (λ z. length z ≤ suc (length ss)) (ltb (doc_of s) f) (s ∷ lag_of f ss) (lag_of f ss) (λ _. omega arith) (λ _. omega arith)

  pub lag-far : (f : ℕ) (x : Scorer S) (ys : List (Scorer S)) → f ≤ doc_of x → lag_of f (x ∷ ys) ≡ lag_of f ys
  lag-far f x ys h = rw (le-ltb (doc_of x) f h)

  pub lag-near : (f : ℕ) (x : Scorer S) (ys : List (Scorer S)) → doc_of x < f → lag_of f (x ∷ ys) ≡ x ∷ lag_of f ys
  lag-near f x ys h = rw (lt-ltb (doc_of x) f h)

  -- a scorer that stands at f or behind it is put in order past the others: nothing changes
  pub lag-bubble : (f : ℕ) (x : Scorer S) (ys : List (Scorer S)) → f ≤ doc_of x → lag_of f (restore_ordering doc_of x ys) ≡ lag_of f ys
  lag-bubble f x [] h = lag-far f x [] h
  lag-bubble f x (y ∷ ys) h =
      let ih = lag-bubble f x ys h in
      by-test (λ z. lag_of f z ≡ lag_of f (y ∷ ys)) (leb (doc_of x) (doc_of y)) (x ∷ y ∷ ys) (y ∷ restore_ordering doc_of x ys)
      (λ _. lag-far f x (y ∷ ys) h)
      (λ _. ap (λ z. cond (ltb (doc_of y) f) (y ∷ z) z) ih)

module _ (B N : ℕ) {O : Ops} {L : Ordered O} {M : ℕ} (Z : Sums O L M) where
  pub lag-dom : (g : Scorer O.S → O.S) (f : ℕ) (ss : List (Scorer O.S)) → Dom O L (map g (lag_of f ss)) (map g ss)
  lag-dom g f [] = d-nil
  lag-dom g f (s ∷ ss) =
      let ih = lag-dom g f ss in
      by-test (λ z. Dom O L (map g z) (g s ∷ map g ss)) (ltb (doc_of s) f) (s ∷ lag_of f ss) (lag_of f ss)
      (λ _. d-keep (g s) (g s) (omega arith) ih) (λ _. d-skip (g s) ih)

  -- either the list bounds of those behind f do not reach the threshold, or their blocks cover up to f and the block bounds do not
  pub data Lag (f : ℕ) (t : O.S) (ss : List (Scorer O.S)) : Type 0 where
    l-none : lag_of f ss ≡ [] → Lag f t ss
    l-tops : L.rank (sum O (map max_score (lag_of f ss))) ≤ L.rank t → Lag f t ss
    l-blocks : All (λ s. f ≤ suc (last_doc_in_block B s)) (lag_of f ss) → L.rank (sum O (map (block_max_score B O) (lag_of f ss))) ≤ L.rank t → Lag f t ss

  -- the skip reader stays where its block covers the target
  pub shallow-stays : (t : ℕ) (s : Scorer O.S) → t ≤ last_doc_in_block B s → seek_block B t s ≡ s
  shallow-stays t s h = rw (le-ltb (last_doc_in_block B s) t h)

  pub shallow-stays-all : (t : ℕ) (ss : List (Scorer O.S)) → All (λ s. t ≤ last_doc_in_block B s) ss → map (seek_block B t) ss ≡ ss
  shallow-stays-all t [] a = refl
  shallow-stays-all t (s ∷ ss) a = λ i. shallow-stays t s a.0 i ∷ shallow-stays-all t ss a.1 i

  -- a scorer whose block covers up to f, sought to t and still behind f, has kept its block, and its bound has not grown
  pub record KeepsBlock (s s' : Scorer O.S) : Type 0 where
    pub last : last_doc_in_block B s' ≡ last_doc_in_block B s
    pub bound : L.rank (block_max_score B O s') ≤ L.rank (block_max_score B O s)

  loaded-less : (s : Scorer O.S) (f : ℕ) (c : Cursor) → Sc B N Z f s → c.blk ≡ s.cur.blk → c.loaded ≡ true
      → L.rank (block_max B O s.list c) ≤ L.rank (block_max_score B O s)
  loaded-less s f c k e u =
      let l = s.list in
      let tl : O.S = cond (eqb s.cur.blk l.full) (tail_max B O l) O.nil in
      subst (λ z. L.rank (cond (ltb z l.full) (l.bound z)
      (cond c.loaded (cond (eqb z l.full) (tail_max B O l) O.nil) l.top)) ≤ L.rank (block_max_score B O s)) (sym e)
      (subst (λ z. L.rank (cond (ltb s.cur.blk l.full) (l.bound s.cur.blk) (cond z tl l.top)) ≤ L.rank (block_max_score B O s)) (sym u)
      (go (ltb s.cur.blk l.full) s.cur.loaded))
    where
      tail-le : (b : Bool) → L.rank (cond b (tail_max B O s.list) O.nil) ≤ L.rank s.list.top
      tail-le true = tail-top B Z.values N s.list k.good.ok k.good.vals
      tail-le false = Z.values.nil-least s.list.top k.good.vals.top-ok

      go : (a b : Bool) → L.rank (cond a (s.list.bound s.cur.blk) (cond (eqb s.cur.blk s.list.full) (tail_max B O s.list) O.nil))
          ≤ L.rank (cond a (s.list.bound s.cur.blk) (cond b (cond (eqb s.cur.blk s.list.full) (tail_max B O s.list) O.nil)
          s.list.top))
      go true b = omega arith
      go false true = omega arith
      go false false = tail-le (eqb s.cur.blk s.list.full)

  pub seek-keeps : (f t : ℕ) (s : Scorer O.S) → Sc B N Z f s → t ≤ TERMINATED → f ≤ suc (last_doc_in_block B s) → doc_of (seek B t s) < f
      → KeepsBlock s (seek B t s)
  seek-keeps f t s k h cov lt =
      let l = s.list in
      let c = s.cur in
      by-test (λ z. doc_of (on_cur s z) < f → KeepsBlock s (on_cur s z)) (leb t (doc_here l c)) c
      (cond (leb t (doc_here l (next_in l B c))) (next_in l B c) (load_at l B t (seek_block_in l B t c).blk))
      (λ _ _. record { last = refl; bound = omega arith })
      (λ e1.
      by-test (λ z. doc_of (on_cur s z) < f → KeepsBlock s (on_cur s z)) (leb t (doc_here l (next_in l B c))) (next_in l B c)
      (load_at l B t (seek_block_in l B t c).blk)
      (λ _ _. record { last = refl; bound = omega arith })
      (λ e2 w.
      let lands = (seek_is B N l k.good.ok t c h k.wf).lands in
      let lands' : t ≤ doc_here l (load_at l B t (seek_block_in l B t c).blk) = rw (e1, e2) at lands in
      let stay : seek_block_in l B t c ≡ c = rw (le-ltb (last_doc_in_block B s) t
      (on_test (leb t (last_doc_in_block B s)) (λ u. leb-true t (last_doc_in_block B s) u)
      (λ u. let v = leb-false t (last_doc_in_block B s) u in absurd (omega arith)))) in
      let same : (seek_block_in l B t c).blk ≡ c.blk = ap (λ z. z.blk) stay in
      record { last = ap (last_doc l B) same; bound = loaded-less s f (load_at l B t (seek_block_in l B t c).blk) k same refl }))
      lt
