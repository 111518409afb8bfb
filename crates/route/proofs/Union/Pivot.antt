-- What the parts of a union's turn do: alignment, the document to seek, the choice of the scorer to move, the pivot.
use mathlib.Core.Bool.{Bool, cond, false, true}
use mathlib.Core.List.{List, [], append_assoc, map, ◌++◌, ◌∷◌}
use mathlib.Core.Option.{Option, none, some}
use mathlib.Core.Path.{ap, refl, subst, sym, ◌≡◌}
use Prim.Native.Nat.{min, suc, zero, ℕ, ◌+◌, ◌<◌, ◌≤◌}
use native.Mathlib.Omega.{arith}
use lib.Dec.{eqb}
use lib.ListN.{length, length-append}
use borrow.Author.Tests.{eqb-false, eqb-true}
use Rattle.arrays.specs.Every.{All}
use Rattle.route.specs.Score.{Ops, sum}
use Rattle.route.specs.Postings.{TERMINATED, score_of}
use Rattle.route.specs.Plain.{opt_list}
use Rattle.route.specs.Ordering.{swap_remove, sweep}
use Rattle.route.specs.Scorer.{Scorer, doc_of, last_doc_in_block, max_score, seek}
use Rattle.route.specs.Union.{Aligned, Around, Pivot, align_on, align_scorers, aligned, behind, least_doc, least_last_doc, missed, off_doc, on_doc, pivot_from, push_pre, scorer_to_seek}
use Rattle.route.specs.Inner.Orders.{From, Sorted}
use Rattle.route.proofs.Cases.{by-test, lt_of_ne}
use Rattle.route.proofs.Lists.{Perm, all_append, all_back, all-front, all-imp, all-perm, p-nil, p-trans, perm-eq, perm-left, perm-refl}
use Rattle.route.proofs.Order.{Ordered, above-false, above-true}
use Rattle.route.proofs.Sums.{Sums, sum-snoc}
use Rattle.route.proofs.Ordering.{rotate-perm}
use Rattle.route.proofs.Scorers.{Sc, contrib, contrib-perm, finished}

module _ (B : ℕ) {S : Type 0} where
  -- ---- alignment

  pub record Missed (p : ℕ) (ss : List (Scorer S)) (m : Around S) : Type 0 where
    pub old : Scorer S
    pub rest : List (Scorer S)
    pub split : ss ≡ m.left ++ (old ∷ rest)
    pub one-is : m.one ≡ seek B p old
    pub right_is : m.right ≡ map (seek B p) rest
    pub right-on : All (λ s. doc_of s ≡ p) m.right
    pub off : doc_of m.one ≡ p → ⊥

  abbrev pub AlignIs : ℕ → List (Scorer S) → Aligned S → Type 0
  AlignIs p ss (aligned xs) = (xs ≡ map (seek B p) ss) × All (λ s. doc_of s ≡ p) xs
  AlignIs p ss (missed m) = Missed p ss m

  align_on-is : (p : ℕ) (s : Scorer S) (ss : List (Scorer S)) (a : Aligned S) → AlignIs p ss a → AlignIs p (s ∷ ss) (align_on B p s a)
  align_on-is p s ss (missed m) h =
      record {
        old = h.old;
        rest = h.rest;
        split = ap (λ z. s ∷ z)
            h.split;
        one-is = h.one-is;
        right_is = h.right_is;
        right-on = h.right-on;
        off = h.off;
      }
  align_on-is p s ss (aligned xs) h =
      by-test (AlignIs p (s ∷ ss)) (eqb (doc_of (seek B p s)) p) (aligned (seek B p s ∷ xs))
      (missed (record { left = []; one = seek B p s; right = xs }))
      (λ e. (ap (λ z. seek B p s ∷ z) h.0, (eqb-true (doc_of (seek B p s)) p e, h.1)))
      (λ e. record { old = s; rest = ss; split = refl; one-is = refl; right_is = h.0; right-on = h.1; off = eqb-false (doc_of (seek B p s)) p e })

  pub align_is : (p : ℕ) (ss : List (Scorer S)) → AlignIs p ss (align_scorers B p ss)
  align_is p [] = (refl, tt)
  align_is p (s ∷ ss) = align_on-is p s ss (align_scorers B p ss) (align_is p ss)

  -- ---- the next document to seek

  pub least_last-le : (x : Scorer S) (xs : List (Scorer S)) → All (λ s. least_last_doc B x xs ≤ last_doc_in_block B s) (x ∷ xs)
  least_last-le x [] = (omega arith, tt)
  least_last-le x (y ∷ ys) = (
    omega arith,
    all-imp (λ s. least_last_doc B y ys ≤ last_doc_in_block B s) (λ s. min (last_doc_in_block B x) (least_last_doc B y ys) ≤ last_doc_in_block B s)
        (y ∷ ys) (λ s h. omega arith) (least_last-le y ys),
  )

  pub least_last-ge : (t : ℕ) (x : Scorer S) (xs : List (Scorer S)) → All (λ s. t ≤ last_doc_in_block B s) (x ∷ xs) → t ≤ least_last_doc B x xs
  least_last-ge t x [] a = a.0
  least_last-ge t x (y ∷ ys) a = let h = a.0 in let k = least_last-ge t y ys a.1 in omega arith

module _ {S : Type 0} where
  pub least_doc-le : (t : ℕ) (ss : List (Scorer S)) → (least_doc t ss ≤ t) × All (λ s. least_doc t ss ≤ doc_of s) ss
  least_doc-le t [] = (omega arith, tt)
  least_doc-le t (y ∷ ys) = let h = least_doc-le (min (doc_of y) t) ys in let h0 = h.0 in (omega arith, (omega arith, h.1))

  pub least_doc-gt : (p t : ℕ) (ss : List (Scorer S)) → p < t → All (λ s. p < doc_of s) ss → p < least_doc t ss
  least_doc-gt p t [] h a = h
  least_doc-gt p t (y ∷ ys) h a = let g = a.0 in least_doc-gt p (min (doc_of y) t) ys (omega arith) a.1

pub behind-is : (e : ℕ) → e ≤ TERMINATED → (behind e ≤ TERMINATED) × (behind e ≤ suc e)
behind-is e h =
    by-test (λ z. (z ≤ TERMINATED) × (z ≤ suc e)) (eqb e TERMINATED) e (suc e)
    (λ _. (h, omega arith))
    (λ t.
    let f = eqb-false e TERMINATED t in
    (lt_of_ne (omega arith) f, omega arith))

pub behind-gt : (p e : ℕ) → p ≤ e → p < TERMINATED → p < behind e
behind-gt p e h k =
    by-test (λ z. p < z) (eqb e TERMINATED) e (suc e) (λ t. let f = eqb-true e TERMINATED t in omega arith) (λ t. omega arith)

module _ (O : Ops) where
  -- the chosen scorer, with what stands around it, is the list
  pub pick_is : (x : Scorer O.S) (xs : List (Scorer O.S))
      → x ∷ xs ≡ (scorer_to_seek O x xs).left ++ ((scorer_to_seek O x xs).one ∷ (scorer_to_seek O x xs).right)
  pick_is x [] = refl
  pick_is x (y ∷ ys) =
      let ih = pick_is y ys in
      let m = scorer_to_seek O y ys in
      by-test (λ (a : Around O.S). x ∷ y ∷ ys ≡ a.left ++ (a.one ∷ a.right)) (O.above (max_score x) (max_score m.one))
      (record { left = []; one = x; right = y ∷ ys })
      (record { left = x ∷ m.left; one = m.one; right = m.right })
      (λ _. refl) (λ _. ap (λ z. x ∷ z) ih)

  -- ---- the pivot

  -- what the pivot's three parts are, for scorers in order
  pub record Shape (ss : List (Scorer O.S)) (c : Pivot O.S) : Type 0 where
    pub split : ss ≡ c.pre ++ (c.piv ++ c.post)
    pub head : Scorer O.S
    pub tail : List (Scorer O.S)
    pub piv-is : c.piv ≡ head ∷ tail
    pub on : All (λ s. doc_of s ≡ c.doc) c.piv
    pub pre-le : All (λ s. doc_of s ≤ c.doc) c.pre
    pub post-gt : All (λ s. c.doc < doc_of s) c.post

  abbrev pub ShapeOf : List (Scorer O.S) → Option (Pivot O.S) → Type 0
  ShapeOf ss none = Unit {0}
  ShapeOf ss (some c) = Shape ss c

  -- the first scorer on the pivot
  pub head-all : (P : Scorer O.S → Type 0) (ss : List (Scorer O.S)) (c : Pivot O.S) (k : Shape ss c) → All P ss → P k.head
  head-all P ss c k a =
      (subst (All P) k.piv-is (all-front P c.piv c.post (all_back P c.pre (c.piv ++ c.post) (subst (All P) k.split a)))).0

  pub head-on : (ss : List (Scorer O.S)) (c : Pivot O.S) (k : Shape ss c) → doc_of k.head ≡ c.doc
  head-on ss c k = (subst (All (λ s. doc_of s ≡ c.doc)) k.piv-is k.on).0

  on-off : (d : ℕ) (ss : List (Scorer O.S)) → ss ≡ on_doc d ss ++ off_doc d ss
  on-off d [] = refl
  on-off d (s ∷ ss) = go (eqb (doc_of s) d) (on-off d ss)
    where
      go : (b : Bool) → ss ≡ on_doc d ss ++ off_doc d ss → s ∷ ss ≡ cond b (s ∷ on_doc d ss) [] ++ cond b (off_doc d ss) (s ∷ ss)
      go true ih = ap (λ z. s ∷ z) ih
      go false ih = refl

  on-all : (d : ℕ) (ss : List (Scorer O.S)) → All (λ s. doc_of s ≡ d) (on_doc d ss)
  on-all d [] = tt
  on-all d (s ∷ ss) =
      let ih = on-all d ss in
      by-test (All (λ s. doc_of s ≡ d)) (eqb (doc_of s) d) (s ∷ on_doc d ss) [] (λ e. (eqb-true (doc_of s) d e, ih)) (λ e. tt)

  off-all : (d : ℕ) (ss : List (Scorer O.S)) → From doc_of d ss → Sorted doc_of ss → All (λ s. d < doc_of s) (off_doc d ss)
  off-all d [] f o = tt
  off-all d (s ∷ ss) f o =
      let ih = off-all d ss f.1 o.1 in
      by-test (All (λ s. d < doc_of s)) (eqb (doc_of s) d) (off_doc d ss) (s ∷ ss) (λ e. ih)
      (λ e.
      let g = eqb-false (doc_of s) d e in
      let h = f.0 in
      let k : d < doc_of s = lt_of_ne (omega arith) (λ u. g (sym u)) in
      (k, all-imp (λ y. doc_of s ≤ doc_of y) (λ y. d < doc_of y) ss (λ y w. omega arith) o.0))

  pub push-shape : (s : Scorer O.S) (ss : List (Scorer O.S)) (o : Option (Pivot O.S)) → From doc_of (doc_of s) ss → ShapeOf ss o
      → ShapeOf (s ∷ ss) (push_pre s o)
  push-shape s ss none f k = tt
  push-shape s ss (some c) f k =
      let hd = head-all (λ y. doc_of s ≤ doc_of y) ss c k f in
      let on = head-on ss c k in
      record {
        split = ap (λ z. s ∷ z)
            k.split;
        head = k.head;
        tail = k.tail;
        piv-is = k.piv-is;
        on = k.on;
        pre-le = (omega arith, k.pre-le);
        post-gt = k.post-gt;
      }

  pub first-shape : (s : Scorer O.S) (ss : List (Scorer O.S)) → Sorted doc_of (s ∷ ss)
      → Shape (s ∷ ss) (record { pre = []; piv = s ∷ on_doc (doc_of s) ss; post = off_doc (doc_of s) ss; doc = doc_of s })
  first-shape s ss o = record {
    split = ap (λ z. s ∷ z) (on-off (doc_of s) ss);
    head = s;
    tail = on_doc (doc_of s) ss;
    piv-is = refl;
    on = (refl, on-all (doc_of s) ss);
    pre-le = tt;
    post-gt = off-all (doc_of s) ss o.0 o.1;
  }

  pub shape_is : (t acc : O.S) (ss : List (Scorer O.S)) → Sorted doc_of ss → ShapeOf ss (pivot_from O t acc ss)
  shape_is t acc [] o = tt
  shape_is t acc (s ∷ ss) o =
      by-test (ShapeOf (s ∷ ss)) (O.above (O.add acc (max_score s)) t)
      (some (record { pre = []; piv = s ∷ on_doc (doc_of s) ss; post = off_doc (doc_of s) ss; doc = doc_of s }))
      (push_pre s (pivot_from O t (O.add acc (max_score s)) ss))
      (λ _. first-shape s ss o)
      (λ _. push-shape s ss (pivot_from O t (O.add acc (max_score s)) ss) o.0 (shape_is t (O.add acc (max_score s)) ss o.1))

module _ (B N : ℕ) {O : Ops} {L : Ordered O} {M : ℕ} (Z : Sums O L M) where
  pub sweep-contrib : (f d n : ℕ) (xs : List (Scorer O.S)) → All (Sc B N Z f) xs → f ≤ d → Perm (contrib d xs) (contrib d (sweep doc_of n xs))
  sweep-contrib f d zero xs a h = perm-refl (contrib d xs)
  sweep-contrib f d (suc n) [] a h = p-nil
  sweep-contrib f d (suc n) (x ∷ xs) a h =
      by-test (λ z. Perm (contrib d (x ∷ xs)) (contrib d z)) (eqb (doc_of x) TERMINATED) (sweep doc_of n (swap_remove xs)) (x ∷ sweep doc_of n xs)
      (λ e.
      p-trans (perm-eq (ap (λ o. opt_list o ++ contrib d xs) (finished B N Z f d x a.0 h (eqb-true (doc_of x) TERMINATED e))))
      (p-trans (contrib-perm d (rotate-perm xs))
      (sweep-contrib f d n (swap_remove xs) (all-perm (Sc B N Z f) (rotate-perm xs) a.1) h)))
      (λ e. perm-left (opt_list (score_of x.list d)) (sweep-contrib f d n xs a.1 h))

  -- besides: before the pivot the list bounds do not exceed t, with its first scorer they do
  pub record CutOk (t : O.S) (done : List O.S) (ss : List (Scorer O.S)) (c : Pivot O.S) : Type 0 where
    pub shape : Shape O ss c
    pub low : 0 < length c.pre → L.rank (sum O (done ++ map max_score c.pre)) ≤ L.rank t
    pub high : L.rank t < L.rank (sum O (done ++ (map max_score c.pre ++ (max_score shape.head ∷ []))))

  abbrev pub CutIs : O.S → List O.S → List (Scorer O.S) → Option (Pivot O.S) → Type 0
  CutIs t done ss none = 0 < length ss → L.rank (sum O (done ++ map max_score ss)) ≤ L.rank t
  CutIs t done ss (some c) = CutOk t done ss c

  push-is : (t : O.S) (done : List O.S) (s : Scorer O.S) (ss : List (Scorer O.S)) (o : Option (Pivot O.S))
      → From doc_of (doc_of s) ss → L.rank (sum O (done ++ (max_score s ∷ []))) ≤ L.rank t
      → CutIs t (done ++ (max_score s ∷ [])) ss o → CutIs t done (s ∷ ss) (push_pre s o)
  unfolding push-shape
  push-is t done s [] none f h c = λ _. h
  push-is t done s (y ∷ ys) none f h c =
      λ _. rw (append_assoc done (max_score s ∷ []) (map max_score (y ∷ ys))) at (c (omega arith))
  push-is t done s ss (some c) f h k =
      record {
        shape = push-shape O s ss (some c) f k.shape;
        low = λ _. low c.pre k.low;
        high = rw (append_assoc done (max_score s ∷ []) (map max_score c.pre ++ (max_score k.shape.head ∷ []))) at k.high;
      }
    where
      low : (pre : List (Scorer O.S)) → (0 < length pre → L.rank (sum O ((done ++ (max_score s ∷ [])) ++ map max_score pre)) ≤ L.rank t)
          → L.rank (sum O (done ++ map max_score (s ∷ pre))) ≤ L.rank t
      low [] m = h
      low (y ∷ ys) m = rw (append_assoc done (max_score s ∷ []) (map max_score (y ∷ ys))) at (m (omega arith))

  pub cut-is : (f : ℕ) (t : O.S) (done : List O.S) (ss : List (Scorer O.S)) → L.Fin t → All Z.Ok done → All (Sc B N Z f) ss
      → Sorted doc_of ss
      → length done + length ss ≤ M → CutIs t done ss (pivot_from O t (sum O done) ss)
  unfolding first-shape
  cut-is f t done [] ft a b o h = λ e. absurd (omega arith)
  cut-is f t done (s ∷ ss) ft a b o h =
      let x = max_score s in
      let a' : All Z.Ok (done ++ (x ∷ [])) = all_append Z.Ok done (x ∷ []) a (b.0.good.vals.top-ok, tt) in
      let ln = length-append done (x ∷ []) in
      let sn : sum O (done ++ (x ∷ [])) ≡ O.add (sum O done) x = sum-snoc O L O.nil done x in
      let fs = Z.sum-fin (done ++ (x ∷ [])) a' (omega arith) in
      subst (λ z. CutIs t done (s ∷ ss) (cond (O.above z t)
      (some (record { pre = []; piv = s ∷ on_doc (doc_of s) ss; post = off_doc (doc_of s) ss; doc = doc_of s }))
      (push_pre s (pivot_from O t z ss)))) sn
      (by-test (CutIs t done (s ∷ ss)) (O.above (sum O (done ++ (x ∷ []))) t)
      (some (record { pre = []; piv = s ∷ on_doc (doc_of s) ss; post = off_doc (doc_of s) ss; doc = doc_of s }))
      (push_pre s (pivot_from O t (sum O (done ++ (x ∷ []))) ss))
      (λ e. record {
        shape = first-shape O s ss o;
        low = λ g. absurd (omega arith);
        high = above-true O L (sum O (done ++ (x ∷ []))) t fs ft e;
      })
      (λ e. push-is t done s ss (pivot_from O t (sum O (done ++ (x ∷ []))) ss) o.0
      (above-false O L (sum O (done ++ (x ∷ []))) t fs ft e)
      (cut-is f t (done ++ (x ∷ [])) ss ft a' b.1 o.1 (omega arith))))
