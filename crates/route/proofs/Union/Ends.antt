-- For both scorings: each turn of the union comes nearer to the end. Nothing is asked of scores.
use mathlib.Core.Bool.{false, false≢true, true, true≢false}
use mathlib.Core.List.{List, [], append_assoc, map, map-append, ◌++◌, ◌∷◌}
use mathlib.Core.Option.{Option, none, some}
use mathlib.Core.Path.{ap, refl, subst, sym, ◌∙◌, ◌≡◌}
use Prim.Native.Nat.{suc, ℕ, ◌*◌, ◌+◌, ◌<◌, ◌≤◌}
use native.Mathlib.Omega.{arith}
use lib.Dec.{eqb, ltb}
use lib.ListN.{drop, length, length-append, length-map, length-take, take, take-append-drop}
use borrow.Author.Tests.{eqb-false, le-leb, ltb-false, ltb-true}
use Rattle.arrays.specs.Every.{All}
use Rattle.route.specs.Score.{Ops, sum}
use Rattle.route.specs.Postings.{Postings, TERMINATED}
use Rattle.route.specs.Ordering.{retain, sweep}
use Rattle.route.specs.Scorer.{Scorer, advance, block_max_score, doc_of, last_doc_in_block, score_here, scorers_from, seek, seek_block}
use Rattle.route.specs.Route.{Load, Route, Turn, loads_back, quiet}
use Rattle.route.specs.Union.{Aligned, Around, Pivot, Stage, UnionPlace, advance_all_scorers_on_pivot, after_align, after_pivot, align_scorers, aligned, behind, block_max_was_too_low, called, go_on, is_over, least_doc, least_last_doc, live_only, looking, missed, missed_on, on_pivot, over, pivot_from, pivot_route, scored, scorer_to_seek, too_low_loads, union_by, union_turn}
use Rattle.route.specs.Inner.Unions.{UnionKept, SafeS}
use Rattle.route.specs.Inner.Lists.{ListOk}
use Rattle.route.specs.Inner.Orders.{From, Sorted}
use Rattle.route.proofs.Cases.{by-test, lt_of_ne, on_test}
use Rattle.route.proofs.Lists.{all_append, all_back, all-front, all-imp, all_map, all-perm, drop-front, take-front}
use Rattle.route.proofs.Places.{doc_at-cap, doc_at-le, last-cap}
use Rattle.route.proofs.Cursor.{fresh-is}
use Rattle.route.proofs.Ordering.{end-sorted, level-sorted, map_keys, map-sorted, put_back-all, put_back-each, put_back-sorted, retain-all, sort-perm, sort_sorted, sorted_back, swept_all}
use Rattle.route.proofs.Union.Pivot.{AlignIs, Missed, Shape, ShapeOf, align_is, behind-gt, behind-is, head-all, head-on, least_doc-gt, least_doc-le, least_last-ge, least_last-le, pick_is, shape_is}
use Rattle.route.proofs.Ending.{Nears}
use Rattle.route.proofs.Union.Landed.{landed_by}
use Rattle.route.proofs.Union.Safe.{USafe, adv-less, left-all, left-app, left-map, left-of, left-perm, left-shallow, left-sweep, move-safe, safe-advance, safe-seek, safe-shallow, seek-left, seek-less}

module _ (B N : ℕ) (O : Ops) where
  abbrev Ts : Type 0
  Ts = List (Scorer O.S)

  -- the document to seek past blocks too low
  pub target-cap : (x : Scorer O.S) (xs post : Ts) → SafeS B N x → least_doc (behind (least_last_doc B x xs)) post ≤ TERMINATED
  target-cap x xs post k =
      let ll = least_last_doc B x xs in
      let lc = last-cap B N x.list k.ok x.cur.blk in
      let llc : ll ≤ TERMINATED = omega (arith, (least_last-le B x xs).0) in
      omega (arith, (least_doc-le (behind ll) post).0, (behind-is ll llc).0)

  low-safe : (m p : ℕ) (ps post : Ts) → 0 < length ps → p < TERMINATED → All (SafeS B N) (ps ++ post) → Sorted doc_of (ps ++ post)
      → All (λ s. p ≤ last_doc_in_block B s) ps → All (λ s. doc_of s ≤ p) ps
      → All (λ s. p < doc_of s) post → left-all B N (ps ++ post) ≤ m → USafe B N m (block_max_was_too_low B O ps post)
  low-safe m p [] post n lv a o cov le gt e = absurd (omega arith)
  low-safe m p (x ∷ xs) post n lv a o cov le gt e =
      let k = scorer_to_seek O x xs in
      let sp = pick_is O x xs in
      let ll = least_last_doc B x xs in
      let t = least_doc (behind ll) post in
      let g = least_doc-gt p (behind ll) post (behind-gt p ll (least_last-ge B p x xs cov) lv) gt in
      let re : (x ∷ xs) ++ post ≡ k.left ++ (k.one ∷ (k.right ++ post)) = ap (λ z. z ++ post) sp ∙ append_assoc k.left
      (k.one ∷ k.right) post in
      let lo = (all_back (λ s. doc_of s ≤ p) k.left (k.one ∷ k.right) (subst (All (λ s. doc_of s ≤ p)) sp le)).0 in
      move-safe B N m t k.left (k.right ++ post) k.one (target-cap x xs post a.0) (subst (All (SafeS B N)) re a) (subst (Sorted doc_of) re o) (omega arith)
      (subst (λ z. left-all B N z ≤ m) re e)

  miss-safe : (m p : ℕ) (pre piv post : Ts) (k : Around O.S) → p < TERMINATED → All (SafeS B N) (pre ++ (piv ++ post))
      → Sorted doc_of (pre ++ (piv ++ post)) → All (λ s. doc_of s ≤ p) pre
      → All (λ s. doc_of s ≡ p) piv → All (λ s. p < doc_of s) post → left-all B N (pre ++ (piv ++ post)) ≤ m → Missed B p pre k
      → USafe B N m (missed_on k (piv ++ post))
  unfolding left-all
  miss-safe m p pre piv post k lv a o le on gt e w =
      let left = k.left in
      let one = k.one in
      let right = k.right in
      let old = w.old in
      let more = w.rest in
      let tail : Ts = piv ++ post in
      let R : Ts = right ++ tail in
      let re : pre ++ tail ≡ left ++ (old ∷ (more ++ tail)) = ap (λ z. z ++ tail) w.split ∙ append_assoc left (old ∷ more) tail in
      let a1 = subst (All (SafeS B N)) re a in
      let al = all-front (SafeS B N) left (old ∷ (more ++ tail)) a1 in
      let ab = all_back (SafeS B N) left (old ∷ (more ++ tail)) a1 in
      let am = all-front (SafeS B N) more tail ab.1 in
      let at = all_back (SafeS B N) more tail ab.1 in
      let sk = safe-seek B N p old (omega arith) ab.0 in
      let sone : SafeS B N one = subst (SafeS B N) (sym w.one-is) sk.safe in
      let sright : All (SafeS B N) right = subst (All (SafeS B N)) (sym w.right_is)
      (all_map (SafeS B N) (SafeS B N) (seek B p) more (λ s c. (safe-seek B N p s (omega arith) c).safe) am) in
      let s_r : All (SafeS B N) R = all_append (SafeS B N) right tail sright at in
      let le-pre = subst (All (λ s. doc_of s ≤ p)) w.split le in
      let le-old = (all_back (λ s. doc_of s ≤ p) left (old ∷ more) le-pre).0 in
      let ups : doc_of old ≤ doc_of one = subst (λ z. doc_of old ≤ doc_of z) (sym w.one-is)
      (doc_at-le B N old.list ab.0.ok old.cur.at (seek B p old).cur.at sk.on) in
      let fpost : From doc_of p post = all-imp (λ s. p < doc_of s) (λ s. p ≤ doc_of s) post (λ s h. omega arith) gt in
      let fpiv : From doc_of p piv = all-imp (λ s. doc_of s ≡ p) (λ s. p ≤ doc_of s) piv (λ s h. omega arith) on in
      let ftail : From doc_of p tail = all_append (λ s. p ≤ doc_of s) piv post fpiv fpost in
      let f_r : From doc_of p R = all_append (λ s. p ≤ doc_of s) right tail
      (all-imp (λ s. doc_of s ≡ p) (λ s. p ≤ doc_of s) right (λ s h. omega arith) w.right-on) ftail in
      let opost : Sorted doc_of post = sorted_back doc_of piv post (sorted_back doc_of pre tail o) in
      let o_r : Sorted doc_of R = level-sorted doc_of p right tail w.right-on ftail (level-sorted doc_of p piv post on fpost opost) in
      let o1 = subst (Sorted doc_of) re o in
      let o2 : Sorted doc_of (left ++ (old ∷ R)) =
      subst (Sorted doc_of) (append_assoc left (old ∷ []) R)
      (end-sorted doc_of p (left ++ (old ∷ [])) (more ++ tail) R (subst (Sorted doc_of) (sym (append_assoc left (old ∷ []) (more ++ tail))) o1)
      (all_append (λ s. doc_of s ≤ p) left (old ∷ []) (all-front (λ s. doc_of s ≤ p) left (old ∷ more) le-pre) (le-old, tt)) f_r o_r) in
      -- the scorer that missed stood before the pivot: on it, it would not have moved
      let moved : left-of B N one < left-of B N old =
      on_test (ltb (doc_of old) p)
      (λ u. subst (λ z. left-of B N z < left-of B N old) (sym w.one-is) (seek-less B N p old (omega arith) ab.0 (ltb-true (doc_of old) p u)))
      (λ u.
      let v = ltb-false (doc_of old) p u in
      let stay : seek B p old ≡ old = rw (le-leb p (doc_of old) v) in
      absurd (w.off (ap doc_of (w.one-is ∙ stay) ∙ eq_of le-old v))) in
      let m_r : left-all B N R ≤ left-all B N (more ++ tail) =
      omega (
        arith,
        left-app B N right tail,
        left-app B N more tail,
        ap (left-all B N) w.right_is,
        left-map B N (seek B p) more (all-imp (SafeS B N) (λ s. left-of B N (seek B p s) ≤ left-of B N s) more
            (λ s c. seek-left B N p s (omega arith) c) am),
      ) in
      let m0 : left-all B N (left ++ (old ∷ (more ++ tail))) ≤ m = subst (λ z. left-all B N z ≤ m) re e in
      let m1 = left-app B N left (old ∷ (more ++ tail)) in
      record {
        scs = put_back-each doc_of (SafeS B N) left one R sone al s_r;
        order = put_back-sorted doc_of left old one R ups o2;
        less = put_back-all doc_of (λ zs. left-all B N (left ++ zs) < m) one R
            (λ zs _ pm. omega (arith, left-app B N left zs, left-perm B N pm))
            (λ zs pm. omega (arith, left-app B N left zs, left-perm B N pm));
      }
    where
      eq_of : {x : ℕ} → x ≤ p → p ≤ x → x ≡ p
      eq_of {x} h g = omega arith

  hit-safe : (m p : ℕ) (on post : Ts) → p < TERMINATED → 0 < length on → All (SafeS B N) (on ++ post) → All (λ s. doc_of s ≡ p) on
      → left-all B N (on ++ post) ≤ m → USafe B N m (advance_all_scorers_on_pivot B on post)
  unfolding left-all
  hit-safe m p on post lv np a here e =
      let all : Ts = map (advance B) on ++ post in
      let sw : Ts = sweep doc_of (length all) all in
      let adv = advanced on (all-front (SafeS B N) on post a) here in
      let less = adv.1 np in
      record {
        scs = swept_all doc_of (SafeS B N) (length all) all
            (all_append (SafeS B N) (map (advance B) on) post adv.0 (all_back (SafeS B N) on post a));
        order = sort_sorted doc_of sw;
        less = omega (
          arith,
          left-perm B N (sort-perm doc_of sw),
          left-sweep B N (length all) all,
          left-app B N (map (advance B) on) post,
          left-app B N on post,
        );
      }
    where
      advanced : (ss : Ts) → All (SafeS B N) ss → All (λ s. doc_of s ≡ p) ss
          → All (SafeS B N) (map (advance B) ss) × (0 < length ss → left-all B N (map (advance B) ss) < left-all B N ss)
      advanced [] x y = (tt, λ n. absurd (omega arith))
      advanced (s ∷ ss) x y =
          let e1 = y.0 in
          let r = advanced ss x.1 y.1 in
          let l = adv-less B N s x.0 (omega arith) in
          (((safe-advance B N s x.0 (omega arith)).0, r.0), λ n. more ss r.1 l)
        where
          more : (ss : Ts) → (0 < length ss → left-all B N (map (advance B) ss) < left-all B N ss) → left-of B N (advance B s) < left-of B N s
              → left-of B N (advance B s) + left-all B N (map (advance B) ss) < left-of B N s + left-all B N ss
          more [] f l = omega arith
          more (z ∷ zs) f l = omega (arith, f (omega arith))

  -- a turn for each place that is left and for each report, and one that finds no pivot
  abbrev pub cost_by : Stage → ℕ → ℕ
  cost_by looking n = suc (2 * n)
  cost_by (called k) n = 2 * n
  cost_by over n = 0

  pub union_cost : UnionPlace O.S → ℕ
  union_cost u = cost_by u.stage (left-all B N u.scorers)

  -- kept, and nearer to the end than a search for a pivot with m places left
  Next : ℕ → UnionPlace O.S → Type 0
  Next m u = UnionKept B N O u × (union_cost u < suc (2 * m))

  looking-next : (m : ℕ) (ss : Ts) → USafe B N m ss → Next m (go_on ss)
  unfolding Next union_cost
  looking-next m ss s =
      let nearer : suc (2 * left-all B N ss) < suc (2 * m) = omega (arith, s.less) in
      (record { scs = s.scs; order = s.order; stands = tt }, nearer)

  over-next : (m : ℕ) (ss : Ts) → All (SafeS B N) ss → Sorted doc_of ss → Next m (record { stage = over; scorers = ss })
  unfolding Next union_cost
  over-next m ss a o = let nearer : 0 < suc (2 * m) = omega arith in (record { scs = a; order = o; stands = tt }, nearer)

  hit-next : (m p : ℕ) (t : O.S) (ls : List Load) (on post : Ts) → p < TERMINATED → 0 < length on → All (SafeS B N) (on ++ post)
      → All (λ s. doc_of s ≡ p) on → All (λ s. p < doc_of s) post → Sorted doc_of post → left-all B N (on ++ post) ≤ m
      → Next m (scored B O t p ls on post).next
  unfolding Next union_cost
  hit-next m p t ls on post lv np a here gt o e =
      let nearer : 2 * left-all B N (on ++ post) < suc (2 * m) = omega arith in
      by-test (Next m) (O.above (sum O (map score_here on)) t) (record { stage = called (length on); scorers = on ++ post })
      (go_on (advance_all_scorers_on_pivot B on post))
      (λ _. (
        record {
          scs = a;
          order = level-sorted doc_of p on post here (all-imp (λ s. p < doc_of s) (λ s. p ≤ doc_of s) post (λ s h. omega arith) gt) o;
          stands = record {
            doc = p;
            live = lv;
            some = np;
            few = omega (arith, length-append on post);
            on = subst (All (λ s. doc_of s ≡ p)) (sym (take-front on post)) here;
            off = subst (All (λ s. p < doc_of s)) (sym (drop-front on post)) gt;
          };
        },
        nearer,
      ))
      (λ _. looking-next m (advance_all_scorers_on_pivot B on post) (hit-safe m p on post lv np a here e))

  align-next : (m p : ℕ) (t : O.S) (pre piv post : Ts) (al : Aligned O.S) → p < TERMINATED → 0 < length piv
      → All (SafeS B N) (pre ++ (piv ++ post)) → Sorted doc_of (pre ++ (piv ++ post)) → All (λ s. doc_of s ≤ p) pre
      → All (λ s. doc_of s ≡ p) piv → All (λ s. p < doc_of s) post → left-all B N (pre ++ (piv ++ post)) ≤ m → AlignIs B p pre al
      → Next m (after_align B O t pre al p piv post).next
  align-next m p t pre piv post (aligned xs) lv np a o le on gt e k =
      let apre = all-front (SafeS B N) pre (piv ++ post) a in
      let ab = all_back (SafeS B N) pre (piv ++ post) a in
      let axs : All (SafeS B N) xs = subst (All (SafeS B N)) (sym k.0)
      (all_map (SafeS B N) (SafeS B N) (seek B p) pre (λ s c. (safe-seek B N p s (omega arith) c).safe) apre) in
      let asc = append_assoc xs piv post in
      let mx : left-all B N xs ≤ left-all B N pre =
      omega (
        arith,
        ap (left-all B N) k.0,
        left-map B N (seek B p) pre
            (all-imp (SafeS B N) (λ s. left-of B N (seek B p s) ≤ left-of B N s) pre (λ s c. seek-left B N p s (omega arith) c) apre),
      ) in
      hit-next m p t (loads_back pre xs) (xs ++ piv) post lv (omega (arith, length-append xs piv))
      (subst (All (SafeS B N)) (sym asc) (all_append (SafeS B N) xs (piv ++ post) axs ab))
      (all_append (λ s. doc_of s ≡ p) xs piv k.1 on) gt (sorted_back doc_of piv post (sorted_back doc_of pre (piv ++ post) o))
      (omega (arith, ap (left-all B N) asc, left-app B N xs (piv ++ post), left-app B N pre (piv ++ post)))
  align-next m p t pre piv post (missed x) lv np a o le on gt e k =
      looking-next m (missed_on x (piv ++ post)) (miss-safe m p pre piv post x lv a o le on gt e k)

  pivot-next : (t : O.S) (ss : Ts) (c : Pivot O.S) → All (SafeS B N) ss → Sorted doc_of ss → Shape O ss c → c.doc < TERMINATED
      → Next (left-all B N ss) (on_pivot B O t c).next
  pivot-next t ss c a o k lv =
      let p = c.doc in
      let sh = seek_block B p in
      let pre : Ts = map sh c.pre in
      let piv : Ts = map sh c.piv in
      let split : ss ≡ (c.pre ++ c.piv) ++ c.post = k.split ∙ sym (append_assoc c.pre c.piv c.post) in
      let P : Ts = c.pre ++ c.piv in
      let a1 = subst (All (SafeS B N)) split a in
      let a_p = all-front (SafeS B N) P c.post a1 in
      let apost = all_back (SafeS B N) P c.post a1 in
      let s_p : All (SafeS B N) (map sh P) = all_map (SafeS B N) (SafeS B N) sh P (λ s x. (safe-shallow B N p s (omega arith) x).safe) a_p in
      let mp : map sh P ≡ pre ++ piv = map-append sh c.pre c.piv in
      let docs : All (λ s. doc_of (sh s) ≡ doc_of s) P = all-imp (SafeS B N) (λ s. doc_of (sh s) ≡ doc_of s) P
      (λ s x. (safe-shallow B N p s (omega arith) x).same) a_p in
      let all : All (SafeS B N) ((pre ++ piv) ++ c.post) = subst (λ z. All (SafeS B N) (z ++ c.post)) mp
      (all_append (SafeS B N) (map sh P) c.post s_p apost) in
      let ord : Sorted doc_of ((pre ++ piv) ++ c.post) = subst (λ z. Sorted doc_of (z ++ c.post)) mp
      (map-sorted doc_of sh P c.post docs (subst (Sorted doc_of) split o)) in
      let m1 : left-all B N ((pre ++ piv) ++ c.post) ≤ left-all B N ss =
      omega (
        arith,
        left-app B N (pre ++ piv) c.post,
        ap (left-all B N) mp,
        left-shallow B N p P (omega arith) a_p,
        left-app B N P c.post,
        ap
            (left-all B N) split,
      ) in
      let asc = append_assoc pre piv c.post in
      let le-pre = map_keys doc_of (λ d. d ≤ p) sh c.pre (all-front (λ s. doc_of (sh s) ≡ doc_of s) c.pre c.piv docs) k.pre-le in
      let on-piv = map_keys doc_of (λ d. d ≡ p) sh c.piv (all_back (λ s. doc_of (sh s) ≡ doc_of s) c.pre c.piv docs) k.on in
      let cov : All (λ s. p ≤ last_doc_in_block B s) (pre ++ piv) = subst (All (λ s. p ≤ last_doc_in_block B s)) mp
      (all_map (SafeS B N) (λ s. p ≤ last_doc_in_block B s) sh P (λ s x. (safe-shallow B N p s (omega arith) x).covers) a_p) in
      let lp = ap length k.piv-is in
      let lpp = length-map c.piv sh in
      let lap = length-append pre piv in
      by-test (λ (u : Turn (UnionPlace O.S) O.S). Next (left-all B N ss) u.next)
      (O.above (sum O (map (block_max_score B O) (pre ++ piv))) t)
      (after_align B O t pre (align_scorers B p pre) p piv c.post)
      (quiet (go_on (block_max_was_too_low B O (pre ++ piv) c.post)) (too_low_loads B O (pre ++ piv) c.post))
      (λ _. align-next (left-all B N ss) p t pre piv c.post (align_scorers B p pre) lv (omega arith) (subst (All (SafeS B N)) asc all)
      (subst (Sorted doc_of) asc ord) le-pre on-piv k.post-gt (subst (λ z. left-all B N z ≤ left-all B N ss) asc m1) (align_is B p pre))
      (λ _. looking-next (left-all B N ss) (block_max_was_too_low B O (pre ++ piv) c.post)
      (low-safe (left-all B N ss) p (pre ++ piv) c.post (omega arith) lv all ord cov
      (all_append (λ s. doc_of s ≤ p) pre piv le-pre (all-imp (λ s. doc_of s ≡ p) (λ s. doc_of s ≤ p) piv (λ s e. omega arith) on-piv)) k.post-gt m1))

  pub pivot-live : (ss : Ts) (c : Pivot O.S) → All (SafeS B N) ss → Shape O ss c → eqb c.doc TERMINATED ≡ false → c.doc < TERMINATED
  pivot-live ss c a k e =
      let d = head-on O ss c k in
      lt_of_ne (omega (arith, doc_at-cap B N k.head.list (head-all O (SafeS B N) ss c k a).ok k.head.cur.at))
      (eqb-false c.doc TERMINATED e)

  cut-next : (t : O.S) (ss : Ts) (o : Option (Pivot O.S)) → All (SafeS B N) ss → Sorted doc_of ss → ShapeOf O ss o
      → Next (left-all B N ss) (after_pivot B O t (live_only o) ss).next
  cut-next t ss none a o k = over-next (left-all B N ss) ss a o
  cut-next t ss (some c) a o k =
      by-test (λ p. Next (left-all B N ss) (after_pivot B O t p ss).next) (eqb c.doc TERMINATED) none (some c)
      (λ _. over-next (left-all B N ss) ss a o) (λ e. pivot-next t ss c a o k (pivot-live ss c a k e))

  -- the scorers behind a report advance
  called-next : (n : ℕ) (ss : Ts) → UnionKept B N O (record { stage = called n; scorers = ss })
      → (let u = go_on (landed_by B (called n) ss) in UnionKept B N O u × (union_cost u < 2 * left-all B N ss))
  unfolding union_cost
  called-next n ss k =
      let r = k.stands in
      let whole = sym (take-append-drop n ss) in
      let np = r.some in
      let fw = r.few in
      let s = hit-safe (left-all B N ss) r.doc (take n ss) (drop n ss) r.live (omega (arith, length-take n ss)) (subst (All (SafeS B N)) whole k.scs) r.on
      (omega (arith, ap (left-all B N) whole)) in
      let nearer : suc (2 * left-all B N (landed_by B (called n) ss)) < 2 * left-all B N ss = omega (arith, s.less) in
      (record { scs = s.scs; order = s.order; stands = tt }, nearer)

  turn-next : (t : O.S) (st : Stage) (ss : Ts) → is_over st ≡ false → UnionKept B N O (record { stage = st; scorers = ss })
      → UnionKept B N O (union_by B O st t ss).next × (union_cost (union_by B O st t ss).next < cost_by st (left-all B N ss))
  unfolding Next
  turn-next t looking ss e k = cut-next t ss (pivot_from O t O.nil ss) k.scs k.order (shape_is O t O.nil ss k.order)
  turn-next t (called n) ss e k = called-next n ss k
  turn-next t over ss e k = absurd (true≢false e)

  -- ---- the beginning

  fresh-safe : (n : ℕ) (ls : List (Postings O.S)) → All (ListOk B N) ls → All (SafeS B N) (scorers_from n ls)
  fresh-safe n [] a = tt
  fresh-safe n (l ∷ ls) a =
      let w = (fresh-is B N l a.0).0 in (
        record { ok = a.0; safe = record { lo = w.lo; hi = w.hi; order = w.order; in_list = omega arith; edge = λ z. absurd (omega arith) } },
        fresh-safe (suc n) ls a.1,
      )

  module _ (q : List (Postings O.S)) (ok : All (ListOk B N) q) where
    abbrev W : Route O.S
    W = pivot_route B O (retain doc_of (scorers_from 0 q))

    -- for both scorings: the route ends
    pub union-nears : Nears W (UnionKept B N O) union_cost
    unfolding union_cost
    union-nears =
        let live : Ts = retain doc_of (scorers_from 0 q) in
        record {
          begins = record {
            scs = all-perm (SafeS B N) (sort-perm doc_of live) (retain-all doc_of (SafeS B N) (scorers_from 0 q) (fresh-safe 0 q ok));
            order = sort_sorted doc_of live;
            stands = tt;
          };
          nears = λ t u e k. turn-next t u.stage u.scorers e k;
        }

module _ (B : ℕ) (O : Ops) where
  pub union-stays : (t : O.S) (u : UnionPlace O.S) → is_over u.stage ≡ true → union_turn B O t u ≡ quiet u []
  union-stays t u = go u.stage
    where
      go : (st : Stage) → is_over st ≡ true → union_by B O st t u.scorers ≡ quiet (record { stage = st; scorers = u.scorers }) []
      go looking e = absurd (false≢true e)
      go (called n) e = absurd (false≢true e)
      go over e = refl
