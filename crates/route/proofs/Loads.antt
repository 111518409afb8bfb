-- What a run's loads tell: each scorer on the way is one of the query's, and has decoded the block that the last load of its list names.
use mathlib.Core.Bool.{Bool, cond, false, true}
use mathlib.Core.List.{List, [], append_assoc, append-nil, map, ◌++◌, ◌∷◌}
use mathlib.Core.Logic.{inl, inr, ◌⊎◌}
use mathlib.Core.Option.{Option, none, some}
use mathlib.Core.Path.{ap, refl, subst, sym, ◌∙◌, ◌≡◌}
use Prim.Native.Nat.{suc, zero, ℕ, ◌-◌, ◌<◌}
use native.Mathlib.Omega.{arith}
use lib.Dec.{eqb, ltb}
use lib.ListN.{drop, length, take, take-append-drop}
use borrow.Author.Tests.{eq-eqb, eqb-true, ne_eqb}
use Rattle.arrays.specs.Every.{All}
use Rattle.route.specs.Score.{Ops, sum}
use Rattle.route.specs.Report.{Callback, Report}
use Rattle.route.specs.Postings.{Postings, TERMINATED, last_doc}
use Rattle.route.specs.Plain.{Mode, intersection, single, union}
use Rattle.route.specs.Cursor.{fresh, skip_to}
use Rattle.route.specs.Ordering.{put_back, restore_ordering, retain, sort_by, swap_remove, sweep}
use Rattle.route.specs.Scorer.{Scorer, advance, block_max_score, doc_of, on_cur, score_here, scorers_from, seek, seek_block, size_hint}
use Rattle.route.specs.Route.{Load, Route, Turn, after, load_of, loads_back, loads_of, quiet}
use Rattle.route.specs.Single.{block_wand_single_scorer}
use Rattle.route.specs.Union.{Aligned, Pivot, Stage, UnionPlace, advance_all_scorers_on_pivot, after_align, after_pivot, align_on, align_scorers, aligned, block_max_was_too_low, called, go_on, live_only, looking, missed, missed_on, on_pivot, over, past_low, pivot_from, pivot_route, scorer_to_seek, too_low_loads, union_by}
use Rattle.route.specs.Intersection as inter
use Rattle.route.specs.Intersection.{InterPlace, Tried, found_turn, has_remaining_docs, inter_by, leader_route, load_leader, seek_block_all, tail_of, try_candidate, window_turn}
use Rattle.route.specs.Skipping.{route}
use Rattle.route.specs.Inner.Lists.{ListOk}
use Rattle.route.specs.Inner.Loads.{loads_after}
use Rattle.route.specs.Inner.Singles.{SingleKept, single_cost}
use Rattle.route.specs.Inner.Unions.{UnionKept}
use Rattle.route.specs.Inner.Intersections.{InterKept}
use Rattle.route.proofs.Cases.{by-test, on_test}
use Rattle.route.proofs.Lists.{Perm, all-imp, all-perm, all-zip, p-cons, p-nil, p-swap, p-trans, perm-eq, perm-left, perm_middle, perm-sym}
use Rattle.route.proofs.Ordering.{bubble-perm, put_back-all, retain-all, rotate-perm, sort-perm, sweep-all}
use Rattle.route.proofs.Ending.{Nears, Stays}
use Rattle.route.proofs.Single.Ends.{single-nears, single-stays}
use Rattle.route.proofs.Union.Pivot.{Shape, ShapeOf, pick_is, shape_is}
use Rattle.route.proofs.Union.Ends.{union-nears, union-stays, union_cost}
use Rattle.route.proofs.Intersection.Ends.{inter_cost, intersection-nears, intersection-stays, try-by, window-by}
use Rattle.route.proofs.Agree.{Fresh, by-live, by_one, by_two, live_all}

-- the block that list i has decoded behind these loads, where it had decoded b
abbrev pub decoded_after : List Load → ℕ → ℕ → ℕ
decoded_after [] i b = b
decoded_after (x ∷ xs) i b = decoded_after xs i (cond (eqb x.ord i) x.block b)

decoded-app : (xs ys : List Load) (i b : ℕ) → decoded_after (xs ++ ys) i b ≡ decoded_after ys i (decoded_after xs i b)
decoded-app [] ys i b = refl
decoded-app (x ∷ xs) ys i b = decoded-app xs ys i (cond (eqb x.ord i) x.block b)

module _ {A : Type 0} where
  -- P holds of one
  abbrev pub Some : (A → Type 0) → List A → Type 0
  Some P [] = ⊥
  Some P (x ∷ xs) = P x ⊎ Some P xs

  some-imp : (P Q : A → Type 0) (xs : List A) → ((x : A) → P x → Q x) → Some P xs → Some Q xs
  some-imp P Q [] f w = w
  some-imp P Q (x ∷ xs) f (inl h) = inl (f x h)
  some-imp P Q (x ∷ xs) f (inr w) = inr (some-imp P Q xs f w)

  -- R holds of two lists, place by place
  abbrev Each : (A → A → Type 0) → List A → List A → Type 0
  Each R [] [] = Unit {0}
  Each R [] (y ∷ ys) = ⊥
  Each R (x ∷ xs) [] = ⊥
  Each R (x ∷ xs) (y ∷ ys) = R x y × Each R xs ys

  each-self : (R : A → A → Type 0) → ((x : A) → R x x) → (xs : List A) → Each R xs xs
  each-self R f [] = tt
  each-self R f (x ∷ xs) = (f x, each-self R f xs)

  each_map : (R : A → A → Type 0) (g : A → A) → ((x : A) → R x (g x)) → (xs : List A) → Each R xs (map g xs)
  each_map R g f [] = tt
  each_map R g f (x ∷ xs) = (f x, each_map R g f xs)

  each-imp : (R Q : A → A → Type 0) → ((x y : A) → R x y → Q x y) → (xs ys : List A) → Each R xs ys → Each Q xs ys
  each-imp R Q f [] [] e = tt
  each-imp R Q f [] (y ∷ ys) e = e
  each-imp R Q f (x ∷ xs) [] e = e
  each-imp R Q f (x ∷ xs) (y ∷ ys) e = (f x y e.0, each-imp R Q f xs ys e.1)

  each_append : (R : A → A → Type 0) (xs ys zs ws : List A) → Each R xs ys → Each R zs ws → Each R (xs ++ zs) (ys ++ ws)
  each_append R [] [] zs ws e f = f
  each_append R [] (y ∷ ys) zs ws e f = absurd e
  each_append R (x ∷ xs) [] zs ws e f = absurd e
  each_append R (x ∷ xs) (y ∷ ys) zs ws e f = (e.0, each_append R xs ys zs ws e.1 f)

module _ {S : Type 0} where
  -- s' is s behind the loads
  pub record Behind (ls : List Load) (s s' : Scorer S) : Type 0 where
    pub same-ord : s'.ord ≡ s.ord
    pub same-list : s'.list ≡ s.list
    pub decoded : s'.cur.dec ≡ decoded_after ls s.ord s.cur.dec

  -- s' is one of ss behind the loads
  abbrev pub OneOf : List Load → List (Scorer S) → Scorer S → Type 0
  OneOf ls ss s' = Some (λ s. Behind ls s s') ss

  -- no two are of one position in the query
  abbrev pub Apart : List (Scorer S) → Type 0
  Apart [] = Unit {0}
  Apart (s ∷ ss) = All (λ z. s.ord ≡ z.ord → ⊥) ss × Apart ss

  -- each of ss' is one of ss behind the loads
  pub record Moved (ls : List Load) (ss ss' : List (Scorer S)) : Type 0 where
    pub apart : Apart ss'
    pub each : All (OneOf ls ss) ss'

  self : (ss : List (Scorer S)) → All (OneOf [] ss) ss
  self [] = tt
  self (s ∷ ss) = (
    inl (record { same-ord = refl; same-list = refl; decoded = refl }),
    all-imp (OneOf [] ss) (OneOf [] (s ∷ ss)) ss (λ z w. inr w) (self ss),
  )

  through : (ls ms : List Load) (ss ts : List (Scorer S)) (z : Scorer S) → All (OneOf ls ss) ts → OneOf ms ts z → OneOf (ls ++ ms) ss z
  through ls ms ss [] z a w = absurd w
  through ls ms ss (y ∷ ts) z a (inl h) =
      some-imp (λ s. Behind ls s y) (λ s. Behind (ls ++ ms) s z) ss
      (λ s k. record {
        same-ord = h.same-ord ∙ k.same-ord;
        same-list = h.same-list ∙ k.same-list;
        decoded = h.decoded ∙ ap (λ i. decoded_after ms i y.cur.dec) k.same-ord ∙ ap (decoded_after ms s.ord) k.decoded
            ∙ sym (decoded-app ls ms s.ord s.cur.dec);
      })
      a.0
  through ls ms ss (y ∷ ts) z a (inr w) = through ls ms ss ts z a.1 w

  -- one after the other
  both : (ls ms : List Load) (xs ys zs : List (Scorer S)) → Moved ls xs ys → Moved ms ys zs → Moved (ls ++ ms) xs zs
  both ls ms xs ys zs m n = record {
    apart = n.apart;
    each = all-imp (OneOf ms ys) (OneOf (ls ++ ms) xs) zs (λ z w. through ls ms xs ys z m.each w) n.each;
  }

  then-still : (ls : List Load) (xs ys zs : List (Scorer S)) → Moved ls xs ys → Moved [] ys zs → Moved ls xs zs
  then-still ls xs ys zs m n = subst (λ z. Moved z xs zs) (append-nil ls) (both ls [] xs ys zs m n)

  -- ---- moves without a load

  still : (ss : List (Scorer S)) → Apart ss → Moved [] ss ss
  still ss a = record { apart = a; each = self ss }

  apart-perm : {xs ys : List (Scorer S)} → Perm xs ys → Apart xs → Apart ys
  apart-perm p-nil a = a
  apart-perm (p-cons x p) a = (all-perm (λ z. x.ord ≡ z.ord → ⊥) p a.0, apart-perm p a.1)
  apart-perm (p-swap x y xs) a = ((λ e. a.0.0 (sym e), a.1.0), (a.0.1, a.1.1))
  apart-perm (p-trans p q) a = apart-perm q (apart-perm p a)

  reordered : {xs ys : List (Scorer S)} → Perm xs ys → Apart xs → Moved [] xs ys
  reordered {xs} {ys} p a = record { apart = apart-perm p a; each = all-perm (OneOf [] xs) p (self xs) }

  -- the first drops out
  without : (x : Scorer S) (xs : List (Scorer S)) → Apart (x ∷ xs) → Moved [] (x ∷ xs) xs
  without x xs a = record { apart = a.1; each = (self (x ∷ xs)).1 }

  apart-sweep : (n : ℕ) (xs : List (Scorer S)) → Apart xs → Apart (sweep doc_of n xs)
  apart-sweep zero xs a = a
  apart-sweep (suc n) [] a = tt
  apart-sweep (suc n) (x ∷ xs) a =
      by-test Apart (eqb (doc_of x) TERMINATED) (sweep doc_of n (swap_remove xs)) (x ∷ sweep doc_of n xs)
      (λ _. apart-sweep n (swap_remove xs) (apart-perm (rotate-perm xs) a.1))
      (λ _. (sweep-all doc_of (λ z. x.ord ≡ z.ord → ⊥) n xs a.0, apart-sweep n xs a.1))

  apart-retain : (xs : List (Scorer S)) → Apart xs → Apart (retain doc_of xs)
  apart-retain [] a = tt
  apart-retain (x ∷ xs) a =
      by-test Apart (eqb (doc_of x) TERMINATED) (retain doc_of xs) (x ∷ retain doc_of xs) (λ _. apart-retain xs a.1)
      (λ _. (retain-all doc_of (λ z. x.ord ≡ z.ord → ⊥) xs a.0, apart-retain xs a.1))

  put-back : (left : List (Scorer S)) (one : Scorer S) (ys : List (Scorer S)) → Apart (left ++ (one ∷ ys)) → Moved [] (left ++ (one ∷ ys)) (left ++ put_back doc_of one ys)
  put-back left one ys a =
      put_back-all doc_of (λ zs. Moved [] (left ++ (one ∷ ys)) (left ++ zs)) one ys
      (λ zs _ p.
      let m = reordered (perm-sym (perm_middle one left ys)) a in
      let n = without one (left ++ ys) m.apart in
      both [] [] (left ++ (one ∷ ys)) (left ++ ys) (left ++ zs) (both [] [] (left ++ (one ∷ ys)) (one ∷ (left ++ ys)) (left ++ ys) m n)
      (reordered (perm-left left p) n.apart))
      (λ zs p. reordered (perm-left left p) a)

  -- ---- moves with their loads

  abbrev Same : Scorer S → Scorer S → Type 0
  Same x y = (y.ord ≡ x.ord) × (y.list ≡ x.list)

  -- a load of another list
  apart-load : (x y : Scorer S) (i b : ℕ) → (x.ord ≡ i → ⊥) → decoded_after (load_of x y) i b ≡ b
  apart-load x y i b n =
      by-test (λ ls. decoded_after ls i b ≡ b) (eqb x.cur.dec y.cur.dec) [] (record { ord = x.ord; block = y.cur.dec } ∷ []) (λ _. refl)
      (λ _. rw (ne_eqb x.ord i n))

  first-moved : (x y : Scorer S) (r : List (Scorer S)) → Same x y → Apart (x ∷ r) → Moved (load_of x y) (x ∷ r) (y ∷ r)
  first-moved x y r e a = record {
    apart = (all-imp (λ z. x.ord ≡ z.ord → ⊥) (λ z. y.ord ≡ z.ord → ⊥) r (λ z n w. n (sym e.0 ∙ w)) a.0, a.1);
    each = (
      inl (record {
        same-ord = e.0;
        same-list = e.1;
        decoded = by-test (λ ls. y.cur.dec ≡ decoded_after ls x.ord x.cur.dec) (eqb x.cur.dec y.cur.dec) []
            (record { ord = x.ord; block = y.cur.dec } ∷ []) (λ w. sym (eqb-true x.cur.dec y.cur.dec w))
            (λ _. rw (eq-eqb x.ord x.ord refl));
      }),
      all-zip (OneOf [] r) (λ z. x.ord ≡ z.ord → ⊥) (OneOf (load_of x y) (x ∷ r))
          (λ z w n. inr (some-imp (λ s. Behind [] s z) (λ s. Behind (load_of x y) s z) r
          (λ s k. record {
            same-ord = k.same-ord;
            same-list = k.same-list;
            decoded = k.decoded ∙ sym (apart-load x y s.ord s.cur.dec (λ v. n (v ∙ sym k.same-ord)));
          })
          w))
          r (self r) a.0,
    );
  }

  -- from the first on
  moved_on : (xs ys r : List (Scorer S)) → Each Same xs ys → Apart (xs ++ r) → Moved (loads_of xs ys) (xs ++ r) (ys ++ r)
  moved_on [] [] r e a = still r a
  moved_on [] (y ∷ ys) r e a = absurd e
  moved_on (x ∷ xs) [] r e a = absurd e
  moved_on (x ∷ xs) (y ∷ ys) r e a =
      let m = first-moved x y (xs ++ r) e.0 a in
      let aside = reordered (perm_middle y xs r) m.apart in
      let n = moved_on xs ys (y ∷ r) e.1 aside.apart in
      both (load_of x y) (loads_of xs ys) (x ∷ (xs ++ r)) (y ∷ (xs ++ r)) (y ∷ (ys ++ r)) m
      (then-still (loads_of xs ys) (y ∷ (xs ++ r)) (ys ++ (y ∷ r)) (y ∷ (ys ++ r))
      (both [] (loads_of xs ys) (y ∷ (xs ++ r)) (xs ++ (y ∷ r)) (ys ++ (y ∷ r)) aside n) (reordered (perm-sym (perm_middle y ys r)) n.apart))

  -- from the last
  moved_back : (xs ys r : List (Scorer S)) → Each Same xs ys → Apart (xs ++ r) → Moved (loads_back xs ys) (xs ++ r) (ys ++ r)
  moved_back [] [] r e a = still r a
  moved_back [] (y ∷ ys) r e a = absurd e
  moved_back (x ∷ xs) [] r e a = absurd e
  moved_back (x ∷ xs) (y ∷ ys) r e a =
      let aside = reordered (perm_middle x xs r) a in
      let n = moved_back xs ys (x ∷ r) e.1 aside.apart in
      let back = then-still (loads_back xs ys) (x ∷ (xs ++ r)) (ys ++ (x ∷ r)) (x ∷ (ys ++ r))
      (both [] (loads_back xs ys) (x ∷ (xs ++ r)) (xs ++ (x ∷ r)) (ys ++ (x ∷ r)) aside n) (reordered (perm-sym (perm_middle x ys r)) n.apart) in
      both (loads_back xs ys) (load_of x y) (x ∷ (xs ++ r)) (x ∷ (ys ++ r)) (y ∷ (ys ++ r)) back (first-moved x y (ys ++ r) e.0 back.apart)

  -- behind one that stays
  moved-tail : (x : Scorer S) (xs ys : List (Scorer S)) → Each Same xs ys → Apart (x ∷ xs) → Moved (loads_of xs ys) (x ∷ xs) (x ∷ ys)
  moved-tail x xs ys e a =
      let last : (zs : List (Scorer S)) → Perm (x ∷ zs) (zs ++ (x ∷ [])) =
      λ zs. p-trans (perm-eq (ap (λ z. x ∷ z) (sym (append-nil zs)))) (perm_middle x zs []) in
      let aside = reordered (last xs) a in
      let n = moved_on xs ys (x ∷ []) e aside.apart in
      then-still (loads_of xs ys) (x ∷ xs) (ys ++ (x ∷ [])) (x ∷ ys)
      (both [] (loads_of xs ys) (x ∷ xs) (xs ++ (x ∷ [])) (ys ++ (x ∷ [])) aside n) (reordered (perm-sym (last ys)) n.apart)

  -- the block decoded last stays
  abbrev Shallow : Scorer S → Scorer S → Type 0
  Shallow x y = Same x y × (y.cur.dec ≡ x.cur.dec)

  no-loads : (xs ys : List (Scorer S)) → Each Shallow xs ys → loads_of xs ys ≡ []
  no-loads [] [] e = refl
  no-loads [] (y ∷ ys) e = refl
  no-loads (x ∷ xs) [] e = refl
  no-loads (x ∷ xs) (y ∷ ys) e = rw (eq-eqb x.cur.dec y.cur.dec (sym e.0.1)) (no-loads xs ys e.1)

  shallow-same : (xs ys : List (Scorer S)) → Each Shallow xs ys → Each Same xs ys
  shallow-same xs ys e = each-imp Shallow Same (λ x y h. h.0) xs ys e

  shallow-on : (xs ys r : List (Scorer S)) → Each Shallow xs ys → Apart (xs ++ r) → Moved [] (xs ++ r) (ys ++ r)
  shallow-on xs ys r e a = subst (λ z. Moved z (xs ++ r) (ys ++ r)) (no-loads xs ys e) (moved_on xs ys r (shallow-same xs ys e) a)

  shallow-tail : (x : Scorer S) (xs ys : List (Scorer S)) → Each Shallow xs ys → Apart (x ∷ xs) → Moved [] (x ∷ xs) (x ∷ ys)
  shallow-tail x xs ys e a = subst (λ z. Moved z (x ∷ xs) (x ∷ ys)) (no-loads xs ys e) (moved-tail x xs ys (shallow-same xs ys e) a)

  seek_block-shallow : (B d : ℕ) (s : Scorer S) → Shallow s (seek_block B d s)
  seek_block-shallow B d s = (
    (refl, refl),
    by-test (λ c. c.dec ≡ s.cur.dec) (ltb (last_doc s.list B s.cur.blk) d)
        (record { blk = skip_to s.list B d (s.list.full - s.cur.blk) s.cur.blk; loaded = false; dec = s.cur.dec; at = s.cur.at })
        s.cur (λ _. refl) (λ _. refl),
  )

-- In a turn from a kept place, its loads tell what the scorers have decoded behind it.
abbrev pub Tells : {S : Type 0} (W : Route S) → (W.Place → Type 0) → Type 0
Tells {S} W Kept = (t : S) (p : W.Place) → Kept p → Apart (W.scorers p) → Moved (W.turn t p).loads (W.scorers p) (W.scorers (W.turn t p).next)

module _ (B : ℕ) (O : Ops) where
  abbrev Us : Type 0
  Us = List (Scorer O.S)

  -- THE SINGLE ROUTE
  pub single-tells : (s : Scorer O.S) → Tells (block_wand_single_scorer B O s) (λ _. Unit {0})
  single-tells s t p k a =
      let u = (block_wand_single_scorer B O s).turn t p in first-moved (on_cur s p.cur) (on_cur s u.next.cur) [] (refl, refl) a

  -- ---- the union

  low-moved : (ps post : Us) → Apart (ps ++ post) → Moved (too_low_loads B O ps post) (ps ++ post) (block_max_was_too_low B O ps post)
  low-moved [] post a = still post a
  low-moved (x ∷ xs) post a =
      let m = scorer_to_seek O x xs in
      let one' = past_low B O x xs post in
      let r : Us = m.right ++ post in
      let out : Perm ((x ∷ xs) ++ post) (m.one ∷ (m.left ++ r)) =
      p-trans (perm-eq (ap (λ z. z ++ post) (pick_is O x xs) ∙ append_assoc m.left (m.one ∷ m.right) post)) (perm-sym (perm_middle m.one m.left r)) in
      let p = reordered out a in
      let n = first-moved m.one one' (m.left ++ r) (refl, refl) p.apart in
      then-still (too_low_loads B O (x ∷ xs) post) ((x ∷ xs) ++ post) (one' ∷ (m.left ++ r)) (m.left ++ restore_ordering doc_of one' r)
      (both [] (load_of m.one one') ((x ∷ xs) ++ post) (m.one ∷ (m.left ++ r)) (one' ∷ (m.left ++ r)) p n)
      (reordered (p-trans (perm_middle one' m.left r) (perm-left m.left (bubble-perm doc_of one' r))) n.apart)

  advance-moved : (on post : Us) → Apart (on ++ post)
      → Moved (loads_of on (map (advance B) on)) (on ++ post) (advance_all_scorers_on_pivot B on post)
  advance-moved on post a =
      let all : Us = map (advance B) on ++ post in
      let sw : Us = sweep doc_of (length all) all in
      let ls = loads_of on (map (advance B) on) in
      let m = moved_on on (map (advance B) on) post (each_map Same (advance B) (λ s. (refl, refl)) on) a in
      let n : Moved [] all sw = record { apart = apart-sweep (length all) all m.apart; each = sweep-all doc_of (OneOf [] all) (length all) all (self all) } in
      then-still ls (on ++ post) sw (sort_by doc_of sw) (then-still ls (on ++ post) all sw m n) (reordered (sort-perm doc_of sw) n.apart)

  -- the scorers that alignment leaves, in their places
  abbrev row_of : Aligned O.S → Us
  row_of (aligned xs) = xs
  row_of (missed m) = m.left ++ (m.one ∷ m.right)

  align_same : (p : ℕ) (ss : Us) → Each Same ss (row_of (align_scorers B p ss))
  align_same p [] = tt
  align_same p (s ∷ ss) = go (align_scorers B p ss) (align_same p ss)
    where
      go : (a : Aligned O.S) → Each Same ss (row_of a) → Each Same (s ∷ ss) (row_of (align_on B p s a))
      go (missed m) e = ((refl, refl), e)
      go (aligned xs) e =
          by-test (λ a. Each Same (s ∷ ss) (row_of a)) (eqb (doc_of (seek B p s)) p) (aligned (seek B p s ∷ xs))
          (missed (record { left = []; one = seek B p s; right = xs })) (λ _. ((refl, refl), e)) (λ _. ((refl, refl), e))

  align-moved : (t : O.S) (p : ℕ) (pre piv post : Us) (al : Aligned O.S) → Each Same pre (row_of al) → Apart (pre ++ (piv ++ post))
      → (let u = after_align B O t pre al p piv post in Moved u.loads (pre ++ (piv ++ post)) u.next.scorers)
  align-moved t p pre piv post (missed m) e a =
      let tail : Us = piv ++ post in
      let row : Us = m.left ++ (m.one ∷ m.right) in
      let n = moved_back pre row tail e a in
      let w = append_assoc m.left (m.one ∷ m.right) tail in
      let n' = subst (λ z. Moved (loads_back pre row) (pre ++ tail) z) w n in
      then-still (loads_back pre row) (pre ++ tail) (m.left ++ (m.one ∷ (m.right ++ tail))) (missed_on m tail) n'
      (put-back m.left m.one (m.right ++ tail) n'.apart)
  align-moved t p pre piv post (aligned xs) e a = go (O.above (sum O (map score_here on)) t)
    where
      on : Us
      on = xs ++ piv

      to : Moved (loads_back pre xs) (pre ++ (piv ++ post)) (on ++ post)
      to = subst (λ z. Moved (loads_back pre xs) (pre ++ (piv ++ post)) z) (sym (append_assoc xs piv post)) (moved_back pre xs (piv ++ post) e a)

      go : (z : Bool) → Moved (loads_back pre xs ++ cond z [] (loads_of on (map (advance B) on))) (pre ++ (piv ++ post))
          (cond z (record { stage = called (length on); scorers = on ++ post }) (go_on (advance_all_scorers_on_pivot B on post))).scorers
      go true = subst (λ z. Moved z (pre ++ (piv ++ post)) (on ++ post)) (sym (append-nil (loads_back pre xs))) to
      go false =
          both (loads_back pre xs) (loads_of on (map (advance B) on)) (pre ++ (piv ++ post)) (on ++ post) (advance_all_scorers_on_pivot B on post) to
          (advance-moved on post to.apart)

  pivot_moved : (t : O.S) (ss : Us) (c : Pivot O.S) → Shape O ss c → Apart ss
      → (let u = on_pivot B O t c in Moved u.loads ss u.next.scorers)
  pivot_moved t ss c k a =
      let p = c.doc in
      let pre : Us = map (seek_block B p) c.pre in
      let piv : Us = map (seek_block B p) c.piv in
      let post = c.post in
      let split = perm-eq (k.split ∙ sym (append_assoc c.pre c.piv post)) in
      let s0 = reordered split a in
      let shallow = each_append Shallow c.pre pre c.piv piv (each_map Shallow (seek_block B p) (seek_block-shallow B p) c.pre)
      (each_map Shallow (seek_block B p) (seek_block-shallow B p) c.piv) in
      let s1 = both [] [] ss ((c.pre ++ c.piv) ++ post) ((pre ++ piv) ++ post) s0
      (shallow-on (c.pre ++ c.piv) (pre ++ piv) post shallow s0.apart) in
      let s2 = subst (Moved [] ss) (append_assoc pre piv post) s1 in
      by-test (λ (u : Turn (UnionPlace O.S) O.S). Moved u.loads ss u.next.scorers) (O.above (sum O (map (block_max_score B O) (pre ++ piv))) t)
      (after_align B O t pre (align_scorers B p pre) p piv post)
      (quiet (go_on (block_max_was_too_low B O (pre ++ piv) post)) (too_low_loads B O (pre ++ piv) post))
      (λ _.
      let u = after_align B O t pre (align_scorers B p pre) p piv post in
      both [] u.loads ss (pre ++ (piv ++ post)) u.next.scorers s2
      (align-moved t p pre piv post (align_scorers B p pre) (align_same p pre) s2.apart))
      (λ _. both [] (too_low_loads B O (pre ++ piv) post) ss ((pre ++ piv) ++ post) (block_max_was_too_low B O (pre ++ piv) post) s1
      (low-moved (pre ++ piv) post s1.apart))

  cut_moved : (t : O.S) (ss : Us) (o : Option (Pivot O.S)) → ShapeOf O ss o → Apart ss
      → (let u = after_pivot B O t (live_only o) ss in Moved u.loads ss u.next.scorers)
  cut_moved t ss none k a = still ss a
  cut_moved t ss (some c) k a =
      by-test (λ o. let u = after_pivot B O t o ss in Moved u.loads ss u.next.scorers) (eqb c.doc TERMINATED) none (some c)
      (λ _. still ss a) (λ _. pivot_moved t ss c k a)

  -- THE UNION'S ROUTE
  pub union-tells : (N : ℕ) (ss : Us) → Tells (pivot_route B O ss) (UnionKept B N O)
  union-tells N _ t u k a = go u.stage
    where
      go : (st : Stage) → (let v = union_by B O st t u.scorers in Moved v.loads u.scorers v.next.scorers)
      go looking = cut_moved t u.scorers (pivot_from O t O.nil u.scorers) (shape_is O t O.nil u.scorers k.order) a
      go (called n) =
          let on : Us = take n u.scorers in
          let post : Us = drop n u.scorers in
          let parts = reordered (perm-eq (sym (take-append-drop n u.scorers))) a in
          both [] (loads_of on (map (advance B) on)) u.scorers (on ++ post) (advance_all_scorers_on_pivot B on post) parts
          (advance-moved on post parts.apart)
      go over = still u.scorers a

  -- ---- the intersection

  shallow-all : (d : ℕ) (ss : Us) → Each Shallow ss (seek_block_all B d ss)
  shallow-all d [] = tt
  shallow-all d (s ∷ ss) =
      let h = seek_block-shallow B d s in
      by-test (Each Shallow (s ∷ ss)) (has_remaining_docs B (seek_block B d s)) (seek_block B d s ∷ seek_block_all B d ss) (seek_block B d s ∷ ss)
      (λ _. (h, shallow-all d ss)) (λ _. (h, each-self Shallow (λ x. ((refl, refl), refl)) ss))

  lead-moved : (ld ld' : Scorer O.S) (ss ss' : Us) → Same ld ld' → Each Shallow ss ss' → Apart (ld ∷ ss) → Moved (load_of ld ld') (ld ∷ ss) (ld' ∷ ss')
  lead-moved ld ld' ss ss' e f a =
      let m = first-moved ld ld' ss e a in
      then-still (load_of ld ld') (ld ∷ ss) (ld' ∷ ss) (ld' ∷ ss') m (shallow-tail ld' ss ss' f m.apart)

  window-moved : (t : O.S) (d : ℕ) (ld : Scorer O.S) (ss : Us) → Apart (ld ∷ ss)
      → (let u = window_turn B O t d ld ss in Moved (load_of ld u.leader) (ld ∷ ss) (u.leader ∷ u.secs))
  window-moved t d ld ss a =
      let blocks = lead-moved ld (seek_block B d ld) ss (seek_block_all B d ss) (refl, refl) (shallow-all d ss) a in
      window-by B 0 O (λ (u : InterPlace O.S). Moved (load_of ld u.leader) (ld ∷ ss) (u.leader ∷ u.secs)) t d ld ss
      (λ _ _. lead-moved ld (load_leader B (seek_block B d ld)) ss (seek_block_all B d ss) (refl, refl) (shallow-all d ss) a)
      (λ _ _. blocks) blocks
      (lead-moved ld ld ss ss (refl, refl) (each-self Shallow (λ x. ((refl, refl), refl)) ss) a)

  try-same : (c : ℕ) (t tot : O.S) (ss : Us) (bs : List O.S) → Each Same ss (try_candidate B O c t tot ss bs).secs
  try-same c t tot [] bs = tt
  try-same c t tot (s ∷ ss) bs =
      let rest = each-self Same (λ x. (refl, refl)) ss in
      try-by B 0 O (λ (r : Tried O.S). Each Same (s ∷ ss) r.secs) c t tot s ss bs ((refl, refl), rest)
      (λ _. ((refl, refl), try-same c t (O.add tot (score_here (seek B c s))) ss (tail_of bs))) ((refl, refl), rest)

  -- THE INTERSECTION'S ROUTE
  pub intersection-tells : (ld : Scorer O.S) (ss : Us) → Tells (leader_route B O ld ss) (λ _. Unit {0})
  intersection-tells _ _ t u k a = go u.stage
    where
      ld : Scorer O.S
      ld = u.leader

      ss : Us
      ss = u.secs

      found : (o : Option O.S) (c : ℕ) (cs : List (Report O.S)) (e : ℕ) (bs : List O.S) (ss' : Us) → Each Same ss ss'
          → (let v = found_turn B O t o c cs e bs u.doc ld ss' (loads_of ss ss') in Moved v.loads (ld ∷ ss) (v.next.leader ∷ v.next.secs))
      found none c cs e bs ss' w = moved-tail ld ss ss' w a
      found (some x) c cs e bs ss' w = moved-tail ld ss ss' w a

      go : (st : inter.Stage O.S)
          → (let v = inter_by B O st t u.doc ld ss in Moved v.loads (ld ∷ ss) (v.next.leader ∷ v.next.secs))
      go inter.early = still (ld ∷ ss) a
      go inter.window = window-moved t u.doc ld ss a
      go (inter.within [] e bs) = still (ld ∷ ss) a
      go (inter.within (c ∷ cs) e bs) =
          let x = try_candidate B O c.doc t c.score ss bs in
          found x.found c.doc cs e bs x.secs (try-same c.doc t c.score ss bs)
      go (inter.called cs e bs) = still (ld ∷ ss) a
      go inter.over = still (ld ∷ ss) a

  -- ---- runs

  module _ (K : Callback O.S) (r : K.State) (W : Route O.S) (stays : Stays W) (Kept : W.Place → Type 0) (cost : W.Place → ℕ)
      (near : Nears W Kept cost) (tells : Tells W Kept) where
    kept-after : (n : ℕ) → Kept (after K W r n).place
    kept-after zero = near.begins
    kept-after (suc n) =
        let u = after K W r n in
        let t = K.threshold u.state in
        on_test (W.ended u.place)
        (λ e. subst (λ (z : Turn W.Place O.S). Kept z.next) (sym (stays t u.place e)) (kept-after n))
        (λ e. (near.nears t u.place e (kept-after n)).0)

    run_moved : (ss : Us) → Moved [] ss (W.scorers W.first) → (n : ℕ) → Moved (loads_after K W r n) ss (W.scorers (after K W r n).place)
    run_moved ss m zero = m
    run_moved ss m (suc n) =
        let u = after K W r n in
        let v = W.turn (K.threshold u.state) u.place in
        let m' = run_moved ss m n in
        both (loads_after K W r n) v.loads ss (W.scorers u.place) (W.scorers v.next) m'
        (tells (K.threshold u.state) u.place (kept-after n) m'.apart)

-- a query's scorers are apart
fresh-other : {S : Type 0} (i j : ℕ) (q : List (Postings S)) → i < j → All (λ z. i ≡ z.ord → ⊥) (scorers_from j q)
fresh-other i j [] h = tt
fresh-other i j (l ∷ q) h = (λ e. omega (arith, e), fresh-other i (suc j) q (omega arith))

pub fresh-apart : {S : Type 0} (i : ℕ) (q : List (Postings S)) → Apart (scorers_from i q)
fresh-apart i [] = tt
fresh-apart i (l ∷ q) = (fresh-other i (suc i) q (omega arith), fresh-apart (suc i) q)

module _ (B N : ℕ) (O : Ops) (q : List (Postings O.S)) (ok : All (ListOk B N) q) (K : Callback O.S) (r : K.State) where
  abbrev Told : Route O.S → Type 0
  Told W = (n : ℕ) → All (OneOf (loads_after K W r n) (scorers_from 0 q)) (W.scorers (after K W r n).place)

  single-told : (i : ℕ) (l : Postings O.S) → ListOk B N l → Moved [] (scorers_from 0 q) (record { ord = i; list = l; cur = fresh } ∷ [])
      → Told (block_wand_single_scorer B O (record { ord = i; list = l; cur = fresh }))
  single-told i l k m n =
      let s : Scorer O.S = record { ord = i; list = l; cur = fresh } in
      (run_moved B O K r (block_wand_single_scorer B O s) (single-stays B O s) (λ p. SingleKept B l p.phase p.cur p.doc)
      (λ p. single_cost B l p.phase p.cur) (single-nears B N O l k i) (λ t p _ a. single-tells B O s t p tt a) (scorers_from 0 q) m n).each

  -- A RUN'S LOADS TELL WHAT ITS SCORERS HAVE DECODED
  pub loads-tell : (m : Mode) → Told (route B O m q)
  loads-tell union =
      let live : List (Scorer O.S) = retain doc_of (scorers_from 0 q) in
      let apart = fresh-apart 0 q in
      let kept : Moved [] (scorers_from 0 q) live =
      record { apart = apart-retain (scorers_from 0 q) apart; each = retain-all doc_of (OneOf [] (scorers_from 0 q)) (scorers_from 0 q) (self (scorers_from 0 q)) } in
      by-live B O (ListOk B N) Told q ok
      (λ s e k.
      let f = (subst (All (Fresh B O (ListOk B N))) e (live_all B O (ListOk B N) q ok)).0.1 in
      single-told s.ord s.list k (subst (Moved [] (scorers_from 0 q)) (e ∙ ap (λ c. on_cur s c ∷ []) f) kept))
      (λ n. (run_moved B O K r (pivot_route B O live) (union-stays B O) (UnionKept B N O) (union_cost B N O) (union-nears B N O q ok) (union-tells B O N live)
      (scorers_from 0 q) (then-still [] (scorers_from 0 q) live (sort_by doc_of live) kept (reordered (sort-perm doc_of live) kept.apart)) n).each)
  loads-tell intersection =
      let sorted = reordered (sort-perm size_hint (scorers_from 0 q)) (fresh-apart 0 q) in
      by_two B O Told (sort_by size_hint (scorers_from 0 q))
      (λ ld ss e n.
      (run_moved B O K r (leader_route B O ld ss) (intersection-stays B O) (λ u. InterKept B N O u.stage u.doc u.leader u.secs)
      (λ u. inter_cost B N O u.stage u.doc) (intersection-nears B N O q ok ld ss e) (λ t p _ a. intersection-tells B O ld ss t p tt a)
      (scorers_from 0 q) (subst (Moved [] (scorers_from 0 q)) e sorted) n).each)
      (λ _ n. tt)
  loads-tell single =
      by_one B O Told q
      (λ l e. single-told 0 l (subst (All (ListOk B N)) e ok).0
      (subst (λ z. Moved [] (scorers_from 0 q) (scorers_from 0 z)) e (still (scorers_from 0 q) (fresh-apart 0 q))))
      (λ _ n. tt)
