-- For both scorings: a scorer's moves keep its cursor in its list, and leave fewer places ahead of it.
use mathlib.Core.Bool.{cond, false, true}
use mathlib.Core.List.{List, [], map, ◌++◌, ◌∷◌}
use mathlib.Core.Path.{ap, refl, ◌∙◌, ◌≡◌}
use Prim.Native.Nat.{pred, suc, zero, ℕ, ◌+◌, ◌-◌, ◌<◌, ◌≤◌}
use native.Mathlib.Omega.{arith}
use lib.Dec.{eqb, leb, ltb}
use borrow.Author.Tests.{eqb-false, eqb-true, leb-false, leb-true, ltb-false, ltb-true}
use Rattle.arrays.specs.Every.{All}
use Rattle.route.specs.Postings.{TERMINATED, doc_at, last_doc, start}
use Rattle.route.specs.Cursor.{doc_here, find_in, load_at, next_in, seek_block_in, skip_to}
use Rattle.route.specs.Ordering.{restore_ordering, swap_remove, sweep}
use Rattle.route.specs.Scorer.{Scorer, advance, doc_of, last_doc_in_block, on_cur, seek, seek_block}
use Rattle.route.specs.Inner.Unions.{SafeS}
use Rattle.route.specs.Inner.Orders.{Sorted}
use Rattle.route.proofs.Cases.{by-test, lt_of_ne, on_test}
use Rattle.route.proofs.Lists.{Perm, all_back, p-cons, p-nil, p-swap, p-trans}
use Rattle.route.proofs.Places.{doc_at-le, doc_at-lt, last_out, start-le, start-suc}
use Rattle.route.proofs.Cursor.{block-hits, skipped}
use Rattle.route.proofs.Ordering.{bubble-perm, replace-all, replace-sorted, rotate-perm}

module _ (B N : ℕ) {S : Type 0} where
  -- on a document, the skip reader is in the list
  pub inside : (s : Scorer S) → SafeS B N s → doc_of s < TERMINATED → (s.cur.blk ≤ s.list.full) × (s.cur.at < s.list.len)
  inside s k h =
      let l = s.list in
      let i = doc_at-lt B N l k.ok s.cur.at h in
      let il = k.safe.in_list in (
        on_test (leb s.cur.blk l.full) (λ e. leb-true s.cur.blk l.full e)
            (λ e.
            let w = leb-false s.cur.blk l.full e in
            let b : s.cur.blk ≡ suc l.full = omega arith in
            let d = k.safe.edge b in
            let st = ap (start B) (d ∙ b) in
            absurd (omega (arith, start-suc B l.full, k.ok.tail, k.safe.lo))),
        i,
      )

  pub record BlockSought (t : ℕ) (s s' : Scorer S) : Type 0 where
    pub safe : SafeS B N s'
    pub covers : t ≤ last_doc_in_block B s'
    pub same : doc_of s' ≡ doc_of s
    pub at_same : s'.cur.at ≡ s.cur.at

  pub safe-shallow : (t : ℕ) (s : Scorer S) → t ≤ TERMINATED → SafeS B N s → BlockSought t s (seek_block B t s)
  safe-shallow t s h k =
      let l = s.list in
      let c = s.cur in
      by-test (λ z. BlockSought t s (on_cur s z)) (ltb (last_doc l B c.blk) t)
      (record { blk = skip_to l B t (l.full - c.blk) c.blk; loaded = false; dec = c.dec; at = c.at }) c
      (λ e.
      let lt = ltb-true (last_doc l B c.blk) t e in
      let il : c.blk < l.full =
      on_test (ltb c.blk l.full) (λ u. ltb-true c.blk l.full u)
      (λ u. absurd (omega (arith, last_out B N l k.ok c.blk (ltb-false c.blk l.full u)))) in
      let sk = skipped B N l k.ok t h (l.full - c.blk) c.blk (omega arith) in
      let o = k.safe.order in
      let u = sk.up in
      let v = sk.in_list in
      record {
        safe = record {
          ok = k.ok;
          safe = record { lo = k.safe.lo; hi = k.safe.hi; order = omega arith; in_list = omega arith; edge = λ z. absurd (omega arith) };
        };
        covers = sk.covers;
        same = refl;
        at_same = refl;
      })
      (λ e. record { safe = k; covers = ltb-false (last_doc l B c.blk) t e; same = refl; at_same = refl })

  pub record DocSought (t : ℕ) (s s' : Scorer S) : Type 0 where
    pub safe : SafeS B N s'
    pub lands : t ≤ doc_of s'
    pub on : s.cur.at ≤ s'.cur.at

  pub safe-seek : (t : ℕ) (s : Scorer S) → t ≤ TERMINATED → SafeS B N s → DocSought t s (seek B t s)
  safe-seek t s h k =
      let l = s.list in
      let c = s.cur in
      let w = k.ok.wide in
      let lo = k.safe.lo in
      let hi = k.safe.hi in
      by-test (λ z. DocSought t s (on_cur s z)) (leb t (doc_here l c)) c
      (cond (leb t (doc_here l (next_in l B c))) (next_in l B c) (load_at l B t (seek_block_in l B t c).blk))
      (λ e. record { safe = k; lands = leb-true t (doc_here l c) e; on = omega arith })
      (λ e.
      let g = leb-false t (doc_here l c) e in
      let ins = inside s k (omega arith) in
      by-test (λ z. DocSought t s (on_cur s z)) (leb t (doc_here l (next_in l B c))) (next_in l B c) (load_at l B t (seek_block_in l B t c).blk)
      (λ f. record {
        safe = record {
          ok = k.ok;
          safe = record { lo = omega arith; hi = omega arith; order = k.safe.order; in_list = k.safe.in_list; edge = k.safe.edge };
        };
        lands = leb-true t (doc_here l (next_in l B c)) f;
        on = omega arith;
      })
      (λ f.
      let sh = safe-shallow t s h k in
      let b = (seek_block_in l B t c).blk in
      let ib : b ≤ l.full =
      on_test (leb b l.full) (λ u. leb-true b l.full u)
      (λ u.
      let x = leb-false b l.full u in
      let y = sh.safe.safe.in_list in
      let z = sh.safe.safe.edge (omega arith) in
      let st = ap (start B) (z ∙ b-is x y) in
      let a = sh.safe.safe.lo in
      absurd (omega (arith, start-suc B l.full, k.ok.tail, ins.1, sh.at_same))) in
      let q = block-hits B N l k.ok t b ib h sh.covers in
      let q3 = q.3 in
      record {
        safe = record {
          ok = k.ok;
          safe = record { lo = q.0; hi = q.1; order = omega arith; in_list = omega arith; edge = λ _. refl };
        };
        lands = q3;
        on =
            on_test (leb c.at (find_in l t B (start B b))) (λ u. leb-true c.at (find_in l t B (start B b)) u)
            (λ u. absurd (omega (
              arith,
              doc_at-le B N l k.ok (find_in l t B (start B b)) c.at
                  (omega (arith, leb-false c.at (find_in l t B (start B b)) u)),
            )));
      }))
    where
      b-is : s.list.full < (seek_block_in s.list B t s.cur).blk → (seek_block_in s.list B t s.cur).blk ≤ suc s.list.full
          → (seek_block_in s.list B t s.cur).blk ≡ suc s.list.full
      b-is x y = omega arith

  -- a scorer that was before t has moved
  pub seek-moves : (t : ℕ) (s : Scorer S) → t ≤ TERMINATED → SafeS B N s → doc_of s < t → (s.cur.at < (seek B t s).cur.at) × (s.cur.at < s.list.len)
  seek-moves t s h k g =
      let r = safe-seek t s h k in
      let o = r.on in
      let ld = r.lands in
      let x = s.cur.at in
      let y = (seek B t s).cur.at in (
        on_test (ltb x y) (λ u. ltb-true x y u)
            (λ u. let w = ltb-false x y u in let e : x ≡ y = omega arith in absurd (omega (arith, ap (doc_at s.list) e))),
        (inside s k (omega arith)).1,
      )

  pub safe-advance : (s : Scorer S) → SafeS B N s → doc_of s < TERMINATED
      → SafeS B N (advance B s) × (s.cur.at < (advance B s).cur.at) × (s.cur.at < s.list.len)
  safe-advance s k h =
      let l = s.list in
      let c = s.cur in
      let w = k.ok.wide in
      let lo = k.safe.lo in
      let hi = k.safe.hi in
      let o = k.safe.order in
      let ins = inside s k h in
      let i0 = ins.0 in
      by-test (λ z. SafeS B N (on_cur s z) × (c.at < z.at) × (c.at < l.len)) (eqb c.at (start B c.dec + pred B))
      (record { blk = suc c.blk; loaded = true; dec = suc c.blk; at = start B (suc c.blk) })
      (record { blk = c.blk; loaded = c.loaded; dec = c.dec; at = suc c.at })
      (λ e.
      let f = eqb-true c.at (start B c.dec + pred B) e in (
        record { ok = k.ok; safe = record { lo = omega arith; hi = omega arith; order = omega arith; in_list = omega arith; edge = λ _. refl } },
        omega (arith, start-le B c.dec c.blk o, start-suc B c.blk),
        ins.1,
      ))
      (λ e.
      let f = eqb-false c.at (start B c.dec + pred B) e in
      let ne : c.at < start B c.dec + pred B =
      lt_of_ne (omega arith) f in
      (record { ok = k.ok; safe = record { lo = omega arith; hi = omega arith; order = o; in_list = k.safe.in_list; edge = k.safe.edge } }, omega arith, ins.1))

  -- ---- what is left

  unfoldable pub left-of : Scorer S → ℕ
  left-of s = s.list.len - s.cur.at

  unfoldable pub left-all : List (Scorer S) → ℕ
  left-all [] = 0
  left-all (s ∷ ss) = left-of s + left-all ss

  pub left-app : (xs ys : List (Scorer S)) → left-all (xs ++ ys) ≡ left-all xs + left-all ys
  unfolding left-all
  left-app [] ys = omega arith
  left-app (x ∷ xs) ys = omega (arith, left-app xs ys)

  pub left-perm : {xs ys : List (Scorer S)} → Perm xs ys → left-all xs ≡ left-all ys
  unfolding left-all
  left-perm p-nil = refl
  left-perm (p-cons x p) = ap (λ z. left-of x + z) (left-perm p)
  left-perm (p-swap x y xs) = omega arith
  left-perm (p-trans p q) = left-perm p ∙ left-perm q

  pub left-sweep : (n : ℕ) (xs : List (Scorer S)) → left-all (sweep doc_of n xs) ≤ left-all xs
  unfolding left-all
  left-sweep zero xs = omega arith
  left-sweep (suc n) [] = omega arith
  left-sweep (suc n) (x ∷ xs) =
      by-test (λ z. left-all z ≤ left-of x + left-all xs) (eqb (doc_of x) TERMINATED) (sweep doc_of n (swap_remove xs)) (x ∷ sweep doc_of n xs)
      (λ _. omega (arith, left-sweep n (swap_remove xs), left-perm (rotate-perm xs))) (λ _. omega (arith, left-sweep n xs))

  pub left-map : (g : Scorer S → Scorer S) (xs : List (Scorer S)) → All (λ s. left-of (g s) ≤ left-of s) xs → left-all (map g xs) ≤ left-all xs
  unfolding left-all
  left-map g [] a = omega arith
  left-map g (x ∷ xs) a = let h = a.0 in omega (arith, left-map g xs a.1)

  pub seek-left : (t : ℕ) (s : Scorer S) → t ≤ TERMINATED → SafeS B N s → left-of (seek B t s) ≤ left-of s
  unfolding left-of
  seek-left t s h k = omega (arith, (safe-seek t s h k).on)

  pub seek-less : (t : ℕ) (s : Scorer S) → t ≤ TERMINATED → SafeS B N s → doc_of s < t → left-of (seek B t s) < left-of s
  unfolding left-of
  seek-less t s h k g = let m = seek-moves t s h k g in omega (arith, m.0, m.1)

  pub adv-less : (s : Scorer S) → SafeS B N s → doc_of s < TERMINATED → left-of (advance B s) < left-of s
  unfolding left-of
  adv-less s k h = let m = safe-advance s k h in omega (arith, m.1, m.2)

  shallow-left : (t : ℕ) (s : Scorer S) → t ≤ TERMINATED → SafeS B N s → left-of (seek_block B t s) ≡ left-of s
  unfolding left-of
  shallow-left t s h k = ap (λ z. s.list.len - z) (safe-shallow t s h k).at_same

  pub left-shallow : (t : ℕ) (ss : List (Scorer S)) → t ≤ TERMINATED → All (SafeS B N) ss → left-all (map (seek_block B t) ss) ≡ left-all ss
  unfolding left-all
  left-shallow t [] h a = refl
  left-shallow t (s ∷ ss) h a = omega (arith, shallow-left t s h a.0, left-shallow t ss h a.1)

  pub record USafe (m : ℕ) (ss : List (Scorer S)) : Type 0 where
    pub scs : All (SafeS B N) ss
    pub order : Sorted doc_of ss
    pub less : left-all ss < m

  -- one scorer moves on, from a place before t
  pub move-safe : (m t : ℕ) (left ys : List (Scorer S)) (one : Scorer S) → t ≤ TERMINATED → All (SafeS B N) (left ++ (one ∷ ys))
      → Sorted doc_of (left ++ (one ∷ ys)) → doc_of one < t
      → left-all (left ++ (one ∷ ys)) ≤ m → USafe m (left ++ restore_ordering doc_of (seek B t one) ys)
  unfolding left-all
  move-safe m t left ys one h a o g e =
      let b = (all_back (SafeS B N) left (one ∷ ys) a).0 in
      let sk = safe-seek t one h b in
      let pm = bubble-perm doc_of (seek B t one) ys in
      record {
        scs = replace-all doc_of (SafeS B N) left one (seek B t one) ys sk.safe a;
        order = replace-sorted doc_of left one (seek B t one) ys
            (doc_at-le B N one.list b.ok one.cur.at (seek B t one).cur.at sk.on) o;
        less = omega (
          arith,
          left-app left (restore_ordering doc_of (seek B t one) ys),
          left-app left (one ∷ ys),
          left-perm pm,
          seek-less t one h b g,
        );
      }
