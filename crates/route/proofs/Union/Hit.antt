-- Scorers that all stand on the pivot have exactly the document's scores, and advance behind it.
use mathlib.Core.List.{List, [], append-nil, map, ◌++◌, ◌∷◌}
use mathlib.Core.Option.{some}
use mathlib.Core.Path.{ap, subst, sym, ◌∙◌, ◌≡◌}
use Prim.Native.Nat.{suc, ℕ, ◌<◌, ◌≤◌}
use native.Mathlib.Omega.{arith}
use lib.ListN.{length, length-append, length-map}
use Rattle.arrays.specs.Every.{All}
use Rattle.route.specs.Score.{Ops, sum}
use Rattle.route.specs.Report.{Callback, offer}
use Rattle.route.specs.Postings.{Postings, TERMINATED}
use Rattle.route.specs.Plain.{hit, present, turn_of, union}
use Rattle.route.specs.Cursor.{advance_in, seek_in}
use Rattle.route.specs.Ordering.{sort_by, sweep}
use Rattle.route.specs.Scorer.{Scorer, advance, doc_of, score_here, seek}
use Rattle.route.specs.Route.{loads_back}
use Rattle.route.specs.Union.{after_align, aligned}
use Rattle.route.specs.Inner.Orders.{From}
use Rattle.route.proofs.Lists.{Perm, all_append, all_back, all-front, all_map, all-perm, p-trans, perm-eq, perm-length}
use Rattle.route.proofs.Order.{FinOf, NeverFalls, Ordered}
use Rattle.route.proofs.Scan.{offer-good, rest-turn}
use Rattle.route.proofs.Places.{doc_at-in, doc_at-lt}
use Rattle.route.proofs.Sums.{Sums, total-eq}
use Rattle.route.proofs.Ordering.{sort-perm, sort_sorted, sweep-all, sweep-length}
use Rattle.route.proofs.Scorers.{QueryOk, Sc, absent-all, contrib, contrib-app, contrib-here, contrib-map, contrib-perm, present-length, present-ok, sc-advance, sc-seek, sc-up}
use Rattle.route.proofs.Union.Pivot.{sweep-contrib}
use Rattle.route.proofs.Union.Lag.{l-none, lag-none}
use Rattle.route.proofs.Union.Landed.{scored-lands}
use Rattle.route.proofs.Union.State.{Carries, Inv, Ready, Rest, hits-fin}

module _ {B N : ℕ} {O : Ops} {L : Ordered O} {K : Callback O.S} (G : NeverFalls O L K) {M : ℕ} {Z : Sums O L M}
    {q : List (Postings O.S)} (Q : QueryOk B N Z q) where
  abbrev T : Type 0
  T = Scorer O.S

  abbrev Fit : ℕ → T → Type 0
  Fit f s = Sc B N Z f s

  pub hit-inv : (total : K.State) (p : ℕ) (pre piv post : List T) (r : K.State) (xs : List T) → Ready G Q total p p (pre ++ piv) post r
      → 0 < length piv
      → All (λ s. doc_of s ≡ p) piv → (xs ≡ map (seek B p) pre) × All (λ s. doc_of s ≡ p) xs
      → Carries G Q total r (after_align B O (K.threshold r) pre (aligned xs) p piv post)
  hit-inv total p pre piv post r xs i np on k =
      let H : List T = xs ++ piv in
      let lv = i.live in
      let cap = i.cap in
      let ap1 = all-front (Fit p) (pre ++ piv) post i.scs in
      let apost = all_back (Fit p) (pre ++ piv) post i.scs in
      let apre = all-front (Fit p) pre piv ap1 in
      let apiv = all_back (Fit p) pre piv ap1 in
      let axs : All (Fit p) xs = subst (All (Fit p)) (sym k.0)
      (all_map (Fit p) (Fit p) (seek B p) pre (λ s c. sc-seek B N Z p p s (omega arith) cap c) apre) in
      let a_h : All (Fit p) H = all_append (Fit p) xs piv axs apiv in
      let on_h : All (λ s. doc_of s ≡ p) H = all_append (λ s. doc_of s ≡ p) xs piv k.1 on in
      let sum-here = sum O (map score_here H) in
      let con : (d : ℕ) → contrib d (H ++ post) ≡ contrib d ((pre ++ piv) ++ post) =
      λ d. contrib-app d H post
      ∙ ap (λ z. z ++ contrib d post)
      (contrib-app d xs piv
      ∙ ap (λ z. z ++ contrib d piv) (ap (contrib d) k.0 ∙ contrib-map d (λ s. seek_in s.list B p s.cur) pre)
      ∙ sym (contrib-app d pre piv))
      ∙ sym (contrib-app d (pre ++ piv) post) in
      let here : contrib p (H ++ post) ≡ map score_here H =
      contrib-app p H post
      ∙ ap (λ z. contrib p H ++ z) (absent-all B N Z p p post apost (omega arith) i.post-gt)
      ∙ append-nil (contrib p H) ∙ contrib-here B N Z p p H a_h lv on_h in
      let pm : Perm (present p q) (map score_here H) = p-trans (i.same p (omega arith)) (perm-eq (sym (con p) ∙ here)) in
      let lx = ap length k.0 ∙ length-map pre (seek B p) in
      let l_h = length-append xs piv in
      let lm_h = length-map H score_here in
      let pl = present-length p q in
      let hits : hit O union q p ≡ some sum-here = total-eq Z pm (present-ok B N Z p q Q.all-ok) (omega arith) (omega arith) in
      let p_n : p < N = on-N piv np apiv on lv in
      let fsum : L.Fin sum-here = subst (FinOf O L) hits ((hits-fin G Q) p) in
      let all' : List T = map (advance B) H ++ post in
      let sw : List T = sweep doc_of (length all') all' in
      let adv = both H a_h on_h lv in
      let aall : All (Fit (suc p)) all' = all_append (Fit (suc p)) (map (advance B) H) post adv.0
      (sc-up B N Z p (suc p) post (omega arith) apost) in
      let fall : From doc_of (suc p) all' = all_append (λ s. suc p ≤ doc_of s) (map (advance B) H) post adv.1 i.post-gt in
      let fw = i.few in
      let l1 = length-append (pre ++ piv) post in
      let l2 = length-append pre piv in
      let l3 = length-append (map (advance B) H) post in
      let l4 = length-map H (advance B) in
      let l5 = sweep-length doc_of (length all') all' in
      let l6 = perm-length (sort-perm doc_of sw) in
      subst (λ z. (f : ℕ) × Inv G Q total f z (offer O K p sum-here r)) (sym (scored-lands B O (K.threshold r) p (loads_back pre xs) H post)) (
        suc p,
        record {
          cap = lv;
          scs = all-perm (Fit (suc p)) (sort-perm doc_of sw) (sweep-all doc_of (Fit (suc p)) (length all') all' aall);
          order = sort_sorted doc_of sw;
          few = omega arith;
          same = λ d h.
              p-trans (i.same d (omega arith))
              (p-trans (perm-eq (sym (con d) ∙ contrib-app d H post
              ∙ ap (λ z. z ++ contrib d post) (sym (contrib-map d (λ s. advance_in s.list B s.cur) H))
              ∙ sym (contrib-app d (map (advance B) H) post)))
              (p-trans (sweep-contrib B N Z (suc p) d (length all') all' aall h) (contrib-perm d (sort-perm doc_of sw))));
          left =
              ap (λ o. Rest G Q (suc p) (turn_of O K o p r)) (sym hits)
              ∙ sym (rest-turn G (hit O union q) (hits-fin G Q) N p r p_n) ∙ i.left;
          good = offer-good G p sum-here r i.good fsum;
          lag = l-none (lag-none (suc p) (sort_by doc_of sw) (all-perm (λ s. suc p ≤ doc_of s) (sort-perm doc_of sw)
              (sweep-all doc_of (λ s. suc p ≤ doc_of s) (length all') all' fall)));
        },
      )
    where
      both : (ss : List T) → All (Fit p) ss → All (λ s. doc_of s ≡ p) ss → p < TERMINATED
          → All (Fit (suc p)) (map (advance B) ss) × From doc_of (suc p) (map (advance B) ss)
      both [] a b h = (tt, tt)
      both (s ∷ ss) a b h =
          let x = sc-advance B N Z p s h b.0 a.0 in
          let y = both ss a.1 b.1 h in
          ((x.0, y.0), (x.1, y.1))

      on-N : (ss : List T) → 0 < length ss → All (Fit p) ss → All (λ s. doc_of s ≡ p) ss → p < TERMINATED → p < N
      on-N [] n a b h = absurd (omega arith)
      on-N (s ∷ ss) n a b h =
          let g = a.0.good.ok in
          let e = b.0 in
          let j = doc_at-lt B N s.list g s.cur.at (omega arith) in
          omega (arith, g.below s.cur.at j, doc_at-in B N s.list g s.cur.at j)
