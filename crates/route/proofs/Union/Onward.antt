-- For both scorings: the union never turns back. Nothing is asked of scores.
use mathlib.Core.Bool.{cond, false, true≢false}
use mathlib.Core.List.{List, [], append_assoc, map, ◌++◌, ◌∷◌}
use mathlib.Core.Option.{Option, none, some}
use mathlib.Core.Path.{ap, subst, sym, ◌∙◌, ◌≡◌}
use Prim.Native.Nat.{suc, ℕ, ◌<◌, ◌≤◌}
use native.Mathlib.Omega.{arith}
use lib.Dec.{eqb}
use lib.ListN.{length}
use Rattle.arrays.specs.Every.{All}
use Rattle.route.specs.Score.{Ops, sum}
use Rattle.route.specs.Postings.{Postings, TERMINATED}
use Rattle.route.specs.Ordering.{retain, sort_by}
use Rattle.route.specs.Scorer.{Scorer, advance, block_max_score, doc_of, score_here, scorers_from, seek, seek_block}
use Rattle.route.specs.Route.{Load, Turn, loads_back, quiet}
use Rattle.route.specs.Union.{Aligned, Pivot, Stage, UnionPlace, advance_all_scorers_on_pivot, after_align, after_pivot, align_scorers, aligned, behind, block_max_was_too_low, called, go_on, is_over, least_doc, least_last_doc, live_only, looking, missed, on_pivot, over, pivot_from, pivot_route, scored, scorer_to_seek, too_low_loads, union_by}
use Rattle.route.specs.Inner.Unions.{SafeS, UnionKept}
use Rattle.route.specs.Inner.Lists.{ListOk}
use Rattle.route.proofs.Cases.{by-test}
use Rattle.route.proofs.Lists.{all_append, all_back, all-front, all-imp, all_map, all-perm, all-zip}
use Rattle.route.proofs.ListLaws.{Scored}
use Rattle.route.proofs.Places.{doc_at-in, doc_at-le, doc_at-lt, doc_at-rises}
use Rattle.route.proofs.Ordering.{map_keys, put_back-each, replace-all, sort-perm, swept_all}
use Rattle.route.proofs.Onward.{Goes, Onward, Summed, due-goes, sum-has}
use Rattle.route.proofs.Union.Pivot.{AlignIs, Shape, ShapeOf, align_is, head-all, head-on, pick_is, shape_is}
use Rattle.route.proofs.Union.Landed.{called-lands, landed, landed_by}
use Rattle.route.proofs.Union.Safe.{safe-advance, safe-seek, safe-shallow}
use Rattle.route.proofs.Union.Ends.{pivot-live, target-cap, union-nears}

module _ (B N : ℕ) (O : Ops) (P : O.S → Type 0) where
  abbrev Ts : Type 0
  Ts = List (Scorer O.S)

  -- a safe scorer from f on, of a list whose scores have P
  pub record Fore (f : ℕ) (s : Scorer O.S) : Type 0 where
    pub safe : SafeS B N s
    pub from : f ≤ doc_of s
    pub has : Scored P s.list

  -- all scorers are from f on, once they have landed
  abbrev pub UnionAhead : ℕ → UnionPlace O.S → Type 0
  UnionAhead f u = All (Fore f) (landed B u)

  -- ---- moves

  fore-seek : (f t : ℕ) (s : Scorer O.S) → t ≤ TERMINATED → Fore f s → Fore f (seek B t s)
  fore-seek f t s h k =
      let m = safe-seek B N t s h k.safe in
      let g = k.from in
      record {
        safe = m.safe;
        from = omega (arith, doc_at-le B N s.list k.safe.ok s.cur.at (seek B t s).cur.at m.on);
        has = k.has;
      }

  fore-shallow : (f t : ℕ) (ss : Ts) → t ≤ TERMINATED → All (Fore f) ss → All (Fore f) (map (seek_block B t) ss)
  fore-shallow f t ss h =
      all_map (Fore f) (Fore f) (seek_block B t) ss
      (λ s k.
      let m = safe-shallow B N t s h k.safe in
      let g = k.from in
      record { safe = m.safe; from = omega (arith, m.same); has = k.has })

  fore-advance : (f p : ℕ) (s : Scorer O.S) → p < TERMINATED → doc_of s ≡ p → Fore f s → Fore (suc p) (advance B s)
  fore-advance f p s h e k =
      let m = safe-advance B N s k.safe (omega arith) in
      record {
        safe = m.0;
        from = omega (arith, doc_at-rises B N s.list k.safe.ok s.cur.at (advance B s).cur.at m.1 (omega arith));
        has = k.has;
      }

  -- ---- the kinds of turn

  low-ahead : (f : ℕ) (ps post : Ts) → All (Fore f) (ps ++ post) → All (Fore f) (block_max_was_too_low B O ps post)
  low-ahead f [] post a = a
  low-ahead f (x ∷ xs) post a =
      let k = scorer_to_seek O x xs in
      let t = least_doc (behind (least_last_doc B x xs)) post in
      let re : (x ∷ xs) ++ post ≡ k.left ++ (k.one ∷ (k.right ++ post)) = ap (λ z. z ++ post) (pick_is O x xs)
      ∙ append_assoc k.left (k.one ∷ k.right) post in
      let b = subst (All (Fore f)) re a in
      replace-all doc_of (Fore f) k.left k.one (seek B t k.one) (k.right ++ post)
      (fore-seek f t k.one (target-cap B N O x xs post a.0.safe) (all_back (Fore f) k.left (k.one ∷ (k.right ++ post)) b).0) b

  module _ (Z : Summed O P) (t : O.S) (f p : ℕ) (lv : p < TERMINATED) (fp : f ≤ p) (pn : p < N) where
    -- the scorers on the pivot are scored, and go on behind it
    hit-goes : (hs post : Ts) → All (Fore f) hs → All (λ s. doc_of s ≡ p) hs → All (Fore f) post → All (λ s. p < doc_of s) post
        → (ls : List Load) → (let u = scored B O t p ls hs post in Goes P N UnionAhead f u.next u.due)
    hit-goes hs post a on b gt ls =
        let here = all-zip (Fore f) (λ s. doc_of s ≡ p) (λ s. Fore f s × (doc_of s ≡ p)) (λ s k e. (k, e)) hs a on in
        let scores = all_map (λ s. Fore f s × (doc_of s ≡ p)) P score_here hs
        (λ s k. let e = k.1 in k.0.has s.cur.at (doc_at-lt B N s.list k.0.safe.ok s.cur.at (omega arith))) here in
        let gone = all_map (λ s. Fore f s × (doc_of s ≡ p)) (Fore (suc p)) (advance B) hs (λ s k. fore-advance f p s lv k.1 k.0) here in
        let rest = all-zip (Fore f) (λ s. p < doc_of s) (Fore (suc p)) (λ s k g. record { safe = k.safe; from = g; has = k.has }) post b gt in
        let all : Ts = map (advance B) hs ++ post in
        let next = swept_all doc_of (Fore (suc p)) (length all) all (all_append (Fore (suc p)) (map (advance B) hs) post gone rest) in
        let ss : Ts = advance_all_scorers_on_pivot B hs post in
        due-goes O P N UnionAhead t f p (sum O (map score_here hs))
        (λ z. cond z (record { stage = called (length hs); scorers = hs ++ post }) (go_on ss)) fp pn
        (sum-has O P Z O.nil (map score_here hs) Z.nil-has scores) (subst (All (Fore (suc p))) (sym (called-lands B hs post)) next)
        (all-imp (Fore (suc p)) (Fore f) ss (λ s k. let g = k.from in record { safe = k.safe; from = omega arith; has = k.has }) next)

    align-goes : (pre piv post : Ts) (al : Aligned O.S) → All (Fore f) pre → All (Fore f) piv → All (λ s. doc_of s ≡ p) piv → All (Fore f) post
        → All (λ s. p < doc_of s) post → AlignIs B p pre al
        → (let u = after_align B O t pre al p piv post in Goes P N UnionAhead f u.next u.due)
    align-goes pre piv post (aligned xs) a b on c gt k =
        let ax = subst (All (Fore f)) (sym k.0) (all_map (Fore f) (Fore f) (seek B p) pre (λ s h. fore-seek f p s (omega arith) h) a) in
        hit-goes (xs ++ piv) post (all_append (Fore f) xs piv ax b) (all_append (λ s. doc_of s ≡ p) xs piv k.1 on) c gt (loads_back pre xs)
    align-goes pre piv post (missed m) a b on c gt k =
        let ab = subst (All (Fore f)) k.split a in
        let back = all_back (Fore f) m.left (k.old ∷ k.rest) ab in
        let one = subst (Fore f) (sym k.one-is) (fore-seek f p k.old (omega arith) back.0) in
        let right = subst (All (Fore f)) (sym k.right_is) (all_map (Fore f) (Fore f) (seek B p) k.rest (λ s h. fore-seek f p s (omega arith) h)
        back.1) in
        put_back-each doc_of (Fore f) m.left m.one (m.right ++ (piv ++ post)) one (all-front (Fore f) m.left (k.old ∷ k.rest) ab)
        (all_append (Fore f) m.right (piv ++ post) right (all_append (Fore f) piv post b c))

  module _ (Z : Summed O P) (t : O.S) (f : ℕ) where
    pivot-goes : (ss : Ts) (c : Pivot O.S) → All (Fore f) ss → Shape O ss c → c.doc < TERMINATED
        → Goes P N UnionAhead f (on_pivot B O t c).next (on_pivot B O t c).due
    pivot-goes ss c a k lv =
        let p = c.doc in
        let sh = seek_block B p in
        let pre : Ts = map sh c.pre in
        let piv : Ts = map sh c.piv in
        let s = k.head in
        let hd = head-all O (Fore f) ss c k a in
        let on = head-on O ss c k in
        let fr = hd.from in
        let i = doc_at-lt B N s.list hd.safe.ok s.cur.at (omega arith) in
        let pn : p < N = omega (arith, hd.safe.ok.below s.cur.at i, doc_at-in B N s.list hd.safe.ok s.cur.at i) in
        let a1 = subst (All (Fore f)) k.split a in
        let ab = all_back (Fore f) c.pre (c.piv ++ c.post) a1 in
        let cpiv = all-front (Fore f) c.piv c.post ab in
        let apost = all_back (Fore f) c.piv c.post ab in
        let apre = fore-shallow f p c.pre (omega arith) (all-front (Fore f) c.pre (c.piv ++ c.post) a1) in
        let apiv = fore-shallow f p c.piv (omega arith) cpiv in
        let on-piv = map_keys doc_of (λ d. d ≡ p) sh c.piv
        (all-imp (Fore f) (λ s. doc_of (sh s) ≡ doc_of s) c.piv (λ s g. (safe-shallow B N p s (omega arith) g.safe).same) cpiv) k.on in
        by-test (λ (u : Turn (UnionPlace O.S) O.S). Goes P N UnionAhead f u.next u.due)
        (O.above (sum O (map (block_max_score B O) (pre ++ piv))) t)
        (after_align B O t pre (align_scorers B p pre) p piv c.post)
        (quiet (go_on (block_max_was_too_low B O (pre ++ piv) c.post)) (too_low_loads B O (pre ++ piv) c.post))
        (λ _. align-goes Z t f p lv (omega arith) pn pre piv c.post (align_scorers B p pre) apre apiv on-piv apost k.post-gt (align_is B p pre))
        (λ _. low-ahead f (pre ++ piv) c.post (all_append (Fore f) (pre ++ piv) c.post (all_append (Fore f) pre piv apre apiv) apost))

    cut-goes : (ss : Ts) (o : Option (Pivot O.S)) → All (SafeS B N) ss → All (Fore f) ss → ShapeOf O ss o
        → Goes P N UnionAhead f (after_pivot B O t (live_only o) ss).next (after_pivot B O t (live_only o) ss).due
    cut-goes ss none b a k = a
    cut-goes ss (some c) b a k =
        by-test (λ p. Goes P N UnionAhead f (after_pivot B O t p ss).next (after_pivot B O t p ss).due) (eqb c.doc TERMINATED) none (some c)
        (λ _. a) (λ e. pivot-goes ss c a k (pivot-live B N O ss c b k e))

    turn-goes : (st : Stage) (ss : Ts) → is_over st ≡ false → UnionKept B N O (record { stage = st; scorers = ss }) → All (Fore f) (landed_by B st ss)
        → (let u = union_by B O st t ss in Goes P N UnionAhead f u.next u.due)
    turn-goes looking ss e k a = cut-goes ss (pivot_from O t O.nil ss) k.scs a (shape_is O t O.nil ss k.order)
    turn-goes (called n) ss e k a = a
    turn-goes over ss e k a = absurd (true≢false e)

  pub union-onward : Summed O P → (q : List (Postings O.S)) → All (ListOk B N) q → All (λ s. Scored P s.list) (retain doc_of (scorers_from 0 q))
      → Onward P N (pivot_route B O (retain doc_of (scorers_from 0 q))) (UnionKept B N O) UnionAhead
  union-onward Z q ok has =
      let live : Ts = retain doc_of (scorers_from 0 q) in
      let first = (union-nears B N O q ok).begins in
      record {
        starts = all-zip (SafeS B N) (λ s. Scored P s.list) (Fore 0) (λ s k h. record { safe = k; from = omega arith; has = h })
            (sort_by doc_of live) first.scs (all-perm (λ s. Scored P s.list) (sort-perm doc_of live) has);
        goes = λ t f u e k a. turn-goes Z t f u.stage u.scorers e k a;
      }
