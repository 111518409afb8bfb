-- What seeking and advancing may pass: a cursor never leaves a document behind that it was not sent past.
use mathlib.Core.Bool.{cond, false, false≢true, true}
use mathlib.Core.Path.{ap, refl, ◌≡◌}
use Prim.Native.Nat.{pred, suc, zero, ℕ, ◌+◌, ◌-◌, ◌<◌, ◌≤◌}
use native.Mathlib.Omega.{arith}
use lib.Dec.{eqb, leb, ltb}
use borrow.Author.Tests.{eqb-false, eqb-true, leb-false, leb-true, ltb-false, ltb-true}
use Rattle.route.specs.Postings.{Postings, TERMINATED, doc_at, last_doc, start}
use Rattle.route.specs.Cursor.{Cursor, advance_in, doc_here, find_in, fresh, load_at, next_in, seek_block_in, seek_in, skip_to}
use Rattle.route.specs.Inner.Cursors.{Past, Wf}
use Rattle.route.specs.Inner.Lists.{ListOk}
use Rattle.route.proofs.Cases.{by-test, lt_of_ne, on_test}
use Rattle.route.proofs.Places.{doc_at-in, doc_at-le, doc_at-lt, doc_at-out, last-in, last_out, last-place, le-last, start-inv, start-le, start-suc}

module _ (B : ℕ) where
  -- what moving a cursor may do
  module _ {S : Type 0} (l : Postings S) where
    pub record Moved (t : ℕ) (c c' : Cursor) : Type 0 where
      pub wf : Wf B l c'
      pub up : c.blk ≤ c'.blk
      pub on : c.at ≤ c'.at
      pub past : (x : ℕ) → t ≤ x → Past B l c x → Past B l c' x

    pub record Shallow (t : ℕ) (c c' : Cursor) : Type 0 where
      pub moved : Moved t c c'
      pub covers : t ≤ last_doc l B c'.blk
      pub same_at : c'.at ≡ c.at
      pub same-dec : c'.dec ≡ c.dec

    pub record Sought (t : ℕ) (c c' : Cursor) : Type 0 where
      pub moved : Moved t c c'
      pub lands : t ≤ doc_here l c'

    pub record Advanced (c c' : Cursor) : Type 0 where
      pub wf : Wf B l c'
      pub next : c'.at ≡ suc c.at
      pub block : c'.dec ≡ c'.blk
      pub past : (x : ℕ) → doc_here l c < x → Past B l c x → Past B l c' x

  module _ (N : ℕ) {S : Type 0} (l : Postings S) (k : ListOk B N l) where
    pub record Skipped (t b b' : ℕ) : Type 0 where
      pub up : b ≤ b'
      pub in_list : b' ≤ l.full
      pub covers : t ≤ last_doc l B b'
      pub misses : (i : ℕ) → i < l.len → t ≤ l.doc i → start B b ≤ i → start B b' ≤ i

    pub skipped : (t : ℕ) → t ≤ TERMINATED → (n b : ℕ) → b + n ≡ l.full → Skipped t b (skip_to l B t n b)
    skipped t c zero b e =
        record {
          up = omega arith;
          in_list = omega arith;
          covers = let f : l.full ≤ b = omega arith in rw (last_out B N l k b f) c;
          misses = λ i p h s. s;
        }
    skipped t c (suc n) b e =
        let ih = skipped t c n (suc b) (omega arith) in
        by-test (Skipped t b) (ltb (last_doc l B b) t) (skip_to l B t n (suc b)) b
        (λ f. record {
          up = omega (arith, ih.up);
          in_list = ih.in_list;
          covers = ih.covers;
          misses = λ i p h s. ih.misses i p h
              (on_test (leb (start B (suc b)) i) (λ g. leb-true (start B (suc b)) i g)
              (λ g. absurd (omega (arith, le-last B N l k b i p (leb-false (start B (suc b)) i g), ltb-true (last_doc l B b) t f))));
        })
        (λ f. record { up = omega arith; in_list = omega arith; covers = ltb-false (last_doc l B b) t f; misses = λ i p h s. s })

    pub find-misses : (t n p i : ℕ) → i < l.len → t ≤ l.doc i → p ≤ i → find_in l t n p ≤ i
    find-misses t zero p i h q r = r
    find-misses t (suc n) p i h q r =
        by-test (λ z. z ≤ i) (ltb (doc_at l p) t) (find_in l t n (suc p)) p
        (λ e. find-misses t n (suc p) i h q
        (on_test (ltb p i) (λ f. ltb-true p i f)
        (λ f.
        let g = ltb-false p i f in
        let j : p ≡ i = omega arith in
        absurd (omega (arith, ltb-true (doc_at l p) t e, doc_at-in B N l k i h, ap (doc_at l) j)))))
        (λ e. r)

    pub find-up : (t n p : ℕ) → p ≤ find_in l t n p
    find-up t zero p = omega arith
    find-up t (suc n) p =
        let ih = find-up t n (suc p) in
        by-test (λ z. p ≤ z) (ltb (doc_at l p) t) (find_in l t n (suc p)) p (λ e. omega arith) (λ e. omega arith)

    -- what stands before the place found is before t
    pub find-below : (t n p i : ℕ) → p ≤ i → i < find_in l t n p → doc_at l i < t
    find-below t zero p i a b = absurd (omega arith)
    find-below t (suc n) p i a b =
        by-test (λ z. i < z → doc_at l i < t) (ltb (doc_at l p) t) (find_in l t n (suc p)) p
        (λ e c.
        on_test (ltb p i) (λ u. find-below t n (suc p) i (ltb-true p i u) c)
        (λ u.
        let w = ltb-false p i u in
        let j : p ≡ i = omega arith in
        omega (arith, ltb-true (doc_at l p) t e, ap (doc_at l) j)))
        (λ e c. absurd (omega arith)) b

    pub find-hits : (t n p q : ℕ) → p ≤ q → q < p + n → t ≤ doc_at l q → (find_in l t n p ≤ q) × (t ≤ doc_at l (find_in l t n p))
    find-hits t zero p q a b c = absurd (omega arith)
    find-hits t (suc n) p q a b c =
        by-test (λ z. (z ≤ q) × (t ≤ doc_at l z)) (ltb (doc_at l p) t) (find_in l t n (suc p)) p
        (λ e. find-hits t n (suc p) q
        (on_test (ltb p q) (λ f. ltb-true p q f)
        (λ f.
        let g = ltb-false p q f in
        let j : p ≡ q = omega arith in
        absurd (omega (arith, ltb-true (doc_at l p) t e, ap (doc_at l) j))))
        (omega arith) c)
        (λ e. (a, ltb-false (doc_at l p) t e))

    -- block b holds a place with a document from t on, if its last is
    pub block-hits : (t b : ℕ) → b ≤ l.full → t ≤ TERMINATED → t ≤ last_doc l B b
        → (start B b ≤ find_in l t B (start B b)) × (find_in l t B (start B b) < start B b + B)
        × (find_in l t B (start B b) ≤ l.len) × (t ≤ doc_at l (find_in l t B (start B b)))
    block-hits t b h c g =
        on_test (ltb b l.full)
        (λ e.
        let f = ltb-true b l.full e in
        let q = last-place B N l k b f in
        let q0 = q.0 in
        let q2 = q.2 in
        let j = find-hits t B (start B b) (pred (start B (suc b))) q.1 (omega arith)
        (rw (doc_at-in B N l k (pred (start B (suc b))) q.0, ← (last-in B N l k b f)) g) in
        let j0 = j.0 in
        (find-up t B (start B b), omega arith, omega arith, j.1))
        (λ e.
        let f = ltb-false b l.full e in
        let s : b ≡ l.full = omega arith in
        let w = ap (start B) s in
        let u = k.blocks in
        let v = k.tail in
        let j = find-hits t B (start B b) l.len (omega arith) (omega arith) (rw (doc_at-out B N l k l.len (omega arith)) c) in
        let j0 = j.0 in
        (find-up t B (start B b), omega arith, j0, j.1))

    pub past_up : (c : Cursor) (x y : ℕ) → x ≤ y → Past B l c x → Past B l c y
    past_up c x y h p i a b = p i a (omega arith)

    pub moved-not : (t : ℕ) (c : Cursor) → Wf B l c → Moved l t c c
    moved-not t c w = record { wf = w; up = omega arith; on = omega arith; past = λ x h p. p }

    pub seek_block-is : (t : ℕ) (c : Cursor) → t ≤ TERMINATED → Wf B l c → Shallow l t c (seek_block_in l B t c)
    seek_block-is t c h w =
        by-test (Shallow l t c) (ltb (last_doc l B c.blk) t)
        (record { blk = skip_to l B t (l.full - c.blk) c.blk; loaded = false; dec = c.dec; at = c.at }) c
        (λ e.
        let i = w.in_list in
        let s = skipped t h (l.full - c.blk) c.blk (omega arith) in
        let b' : ℕ = skip_to l B t (l.full - c.blk) c.blk in
        let lt : c.blk < b' =
        on_test (ltb c.blk b') (λ f. ltb-true c.blk b' f)
        (λ f.
        let g = ltb-false c.blk b' f in
        let u = s.up in
        let q : b' ≡ c.blk = omega arith in
        absurd (omega (arith, ltb-true (last_doc l B c.blk) t e, s.covers, ap (last_doc l B) q))) in
        let o = w.order in
        record {
          moved = record {
            wf = record {
              lo = w.lo;
              hi = w.hi;
              order = omega arith;
              in_list = s.in_list;
              here = w.here;
              is-loaded = λ f. absurd (false≢true f);
              to-loaded = λ f. absurd (omega arith);
            };
            up = s.up;
            on = omega arith;
            past = λ x a p j m n. ((p j m n).0, s.misses j m (omega arith) (p j m n).1);
          };
          covers = s.covers;
          same_at = refl;
          same-dec = refl;
        })
        (λ e. record { moved = moved-not t c w; covers = ltb-false (last_doc l B c.blk) t e; same_at = refl; same-dec = refl })

    next-is : (t : ℕ) (c : Cursor) → t ≤ TERMINATED → Wf B l c → doc_here l c < t → Moved l t c (next_in l B c)
    next-is t c h w g =
        let i = doc_at-lt B N l k c.at (omega arith) in
        let lo = w.lo in
        let hi = w.hi in
        let b = k.wide in
        record {
          wf = record {
            lo = omega arith;
            hi = omega arith;
            order = w.order;
            in_list = w.in_list;
            here = omega arith;
            is-loaded = w.is-loaded;
            to-loaded = w.to-loaded;
          };
          up = omega arith;
          on = omega arith;
          past = λ x a p j m n.
              let q = p j m n in
              let q0 = q.0 in (
                on_test (ltb c.at j) (λ e. omega (arith, ltb-true c.at j e))
                    (λ e.
                    let f = ltb-false c.at j e in
                    let s : c.at ≡ j = omega arith in
                    absurd (omega (arith, doc_at-in B N l k j m, ap (doc_at l) s))),
                q.1,
              );
        }

    load_is : (t : ℕ) (c : Cursor) → t ≤ TERMINATED → Wf B l c → doc_here l c < t → Sought l t c (load_at l B t (seek_block_in l B t c).blk)
    load_is t c h w g =
        let s = seek_block-is t c h w in
        let b' : ℕ = (seek_block_in l B t c).blk in
        let f = block-hits t b' s.moved.wf.in_list h s.covers in
        record {
          moved = record {
            wf = record {
              lo = f.0;
              hi = f.1;
              order = omega arith;
              in_list = s.moved.wf.in_list;
              here = f.2;
              is-loaded = λ _. refl;
              to-loaded = λ _. refl;
            };
            up = s.moved.up;
            on =
                on_test (leb c.at (find_in l t B (start B b'))) (λ e. leb-true c.at (find_in l t B (start B b')) e)
                (λ e.
                let m = doc_at-le B N l k (find_in l t B (start B b')) c.at (omega (arith, leb-false c.at (find_in l t B (start B b')) e)) in
                absurd (omega (arith, f.3)));
            past = λ x a p j m n.
                let q = s.moved.past x a p j m n in
                (find-misses t B (start B b') j m (omega arith) q.1, q.1);
          };
          lands = f.3;
        }

    pub seek_is : (t : ℕ) (c : Cursor) → t ≤ TERMINATED → Wf B l c → Sought l t c (seek_in l B t c)
    seek_is t c h w =
        by-test (Sought l t c) (leb t (doc_here l c)) c
        (cond (leb t (doc_here l (next_in l B c))) (next_in l B c) (load_at l B t (seek_block_in l B t c).blk))
        (λ e. record { moved = moved-not t c w; lands = leb-true t (doc_here l c) e })
        (λ e.
        let g = leb-false t (doc_here l c) e in
        by-test (Sought l t c) (leb t (doc_here l (next_in l B c))) (next_in l B c) (load_at l B t (seek_block_in l B t c).blk)
        (λ f. record { moved = next-is t c h w g; lands = leb-true t (doc_here l (next_in l B c)) f })
        (λ f. load_is t c h w g))

    -- a cursor that stands on a document that it has not passed has its block loaded
    pub on-block : (c : Cursor) (x : ℕ) → Wf B l c → Past B l c x → doc_here l c < TERMINATED → x ≤ doc_here l c → c.dec ≡ c.blk
    on-block c x w p h g =
        let i = doc_at-lt B N l k c.at h in
        let q = (p c.at i (omega (arith, doc_at-in B N l k c.at i))).1 in
        let j = start-inv B c.dec c.blk c.at q w.hi in
        let o = w.order in
        omega arith

    pub advance-is : (c : Cursor) → Wf B l c → c.dec ≡ c.blk → doc_here l c < TERMINATED → Advanced l c (advance_in l B c)
    advance-is c w o h =
        let i = doc_at-lt B N l k c.at h in
        let b = k.wide in
        let ss = start-suc B c.blk in
        let od = ap (start B) o in
        let lo = w.lo in
        let hi = w.hi in
        let passes : (x j : ℕ) → doc_here l c < x → Past B l c x → j < l.len → x ≤ l.doc j → c.at < j =
        λ x j a p m n.
        on_test (ltb c.at j) (λ e. ltb-true c.at j e)
        (λ e.
        let f = ltb-false c.at j e in
        let q = (p j m n).0 in
        let s : c.at ≡ j = omega arith in
        absurd (omega (arith, doc_at-in B N l k j m, ap (doc_at l) s))) in
        by-test (Advanced l c) (eqb c.at (start B c.dec + pred B))
        (record { blk = suc c.blk; loaded = true; dec = suc c.blk; at = start B (suc c.blk) })
        (record { blk = c.blk; loaded = c.loaded; dec = c.dec; at = suc c.at })
        (λ e.
        let f = eqb-true c.at (start B c.dec + pred B) e in
        let il = w.in_list in
        let less : suc c.blk ≤ l.full =
        on_test (ltb c.blk l.full) (λ g. ltb-true c.blk l.full g)
        (λ g.
        let u = ltb-false c.blk l.full g in
        let v : c.blk ≡ l.full = omega arith in
        absurd (omega (arith, k.tail, ap (start B) v))) in
        let full = start-le B (suc c.blk) l.full less in
        let kb = k.blocks in
        record {
          wf = record {
            lo = omega arith;
            hi = omega arith;
            order = omega arith;
            in_list = less;
            here = omega arith;
            is-loaded = λ _. refl;
            to-loaded = λ _. refl;
          };
          next = omega arith;
          block = refl;
          past = λ x a p j m n. let q = passes x j a p m n in (omega arith, omega arith);
        })
        (λ e.
        let f = eqb-false c.at (start B c.dec + pred B) e in
        let ne : c.at < start B c.dec + pred B =
        lt_of_ne (omega arith) f in
        record {
          wf = record {
            lo = omega arith;
            hi = omega arith;
            order = w.order;
            in_list = w.in_list;
            here = omega arith;
            is-loaded = w.is-loaded;
            to-loaded = w.to-loaded;
          };
          next = refl;
          block = o;
          past = λ x a p j m n. (passes x j a p m n, (p j m n).1);
        })

    -- on the first place of the skip reader's block, loaded
    pub first-wf : (c : Cursor) → Wf B l c → Wf B l (record { blk = c.blk; loaded = true; dec = c.blk; at = start B c.blk })
    first-wf c w =
        let h = k.wide in
        record {
          lo = omega arith;
          hi = omega arith;
          order = omega arith;
          in_list = w.in_list;
          here = omega (arith, start-le B c.blk l.full w.in_list, k.blocks);
          is-loaded = λ _. refl;
          to-loaded = λ _. refl;
        }

    pub fresh-is : Wf B l fresh × ((x : ℕ) → Past B l fresh x)
    unfolding start
    fresh-is = (
      record {
        lo = omega arith;
        hi = omega (arith, k.wide);
        order = omega arith;
        in_list = omega arith;
        here = omega arith;
        is-loaded = λ _. refl;
        to-loaded = λ _. refl;
      },
      λ x i a b. (omega arith, omega arith),
    )
