-- A scorer that misses the pivot is put back in order, and nothing is lost.
use mathlib.Core.List.{List, [], append_assoc, append-nil, map, map-append, ◌++◌, ◌∷◌}
use mathlib.Core.Path.{ap, subst, sym, ◌∙◌, ◌≡◌}
use Prim.Native.Nat.{suc, ℕ, ◌+◌, ◌<◌, ◌≤◌}
use native.Mathlib.Omega.{arith}
use lib.ListN.{length, length-append, length-map}
use Rattle.arrays.specs.Every.{All}
use Rattle.route.specs.Score.{Ops, sum}
use Rattle.route.specs.Report.{Callback}
use Rattle.route.specs.Postings.{Postings, TERMINATED, score_of}
use Rattle.route.specs.Plain.{opt_list}
use Rattle.route.specs.Cursor.{seek_in}
use Rattle.route.specs.Scorer.{Scorer, doc_of, max_score, seek}
use Rattle.route.specs.Union.{Around, missed_on}
use Rattle.route.specs.Inner.Orders.{From, Sorted}
use Rattle.route.proofs.Lists.{all_append, all_back, all-front, all-imp, all_map, all-perm, p-trans, perm-eq, perm-left, perm-length}
use Rattle.route.proofs.Order.{NeverFalls, Ordered}
use Rattle.route.proofs.Sums.{Dom, Sums, dom-append, dom-nil}
use Rattle.route.proofs.Ordering.{end-sorted, level-sorted, put_back-all, put_back-sorted, sorted_back}
use Rattle.route.proofs.Scorers.{QueryOk, Sc, contrib, contrib-app, contrib-map, contrib-perm, finished, sc-seek, seek-lands, tops-ok}
use Rattle.route.proofs.Union.Pivot.{Missed}
use Rattle.route.proofs.Union.Lag.{Lag, l-tops, lag-app, lag-dom, lag-keep, lag-none, lag_of}
use Rattle.route.proofs.Union.State.{Inv, Ready, Same}

module _ {B N : ℕ} {O : Ops} {L : Ordered O} {K : Callback O.S} (G : NeverFalls O L K) {M : ℕ} {Z : Sums O L M}
    {q : List (Postings O.S)} (Q : QueryOk B N Z q) where
  abbrev T : Type 0
  T = Scorer O.S

  abbrev Fit : ℕ → T → Type 0
  Fit f s = Sc B N Z f s

  pub miss : (total : K.State) (p : ℕ) (pre piv post : List T) (r : K.State) (m : Around O.S) → Ready G Q total p p (pre ++ piv) post r
      → All (λ s. doc_of s ≡ p) piv → (0 < length pre → L.rank (sum O (map max_score pre)) ≤ L.rank (K.threshold r)) → Missed B p pre m
      → Inv G Q total p (missed_on m (piv ++ post)) r
  miss total p pre piv post r m i on lo k =
      let left = m.left in
      let one = m.one in
      let right = m.right in
      let old = k.old in
      let more = k.rest in
      let tail : List T = piv ++ post in
      let R : List T = right ++ tail in
      let lv = i.live in
      let cap : p ≤ TERMINATED = i.cap in
      let re1 : (pre ++ piv) ++ post ≡ pre ++ tail = append_assoc pre piv post in
      let re2 : pre ++ tail ≡ left ++ (old ∷ (more ++ tail)) = ap (λ z. z ++ tail) k.split ∙ append_assoc left (old ∷ more) tail in
      let a1 : All (Fit p) (left ++ (old ∷ (more ++ tail))) = subst (All (Fit p)) (re1 ∙ re2) i.scs in
      let al = all-front (Fit p) left (old ∷ (more ++ tail)) a1 in
      let ab = all_back (Fit p) left (old ∷ (more ++ tail)) a1 in
      let am = all-front (Fit p) more tail ab.1 in
      let at = all_back (Fit p) more tail ab.1 in
      let fone : Fit p one = subst (Fit p) (sym k.one-is) (sc-seek B N Z p p old (omega arith) cap ab.0) in
      let fright : All (Fit p) right = subst (All (Fit p)) (sym k.right_is)
      (all_map (Fit p) (Fit p) (seek B p) more (λ s c. sc-seek B N Z p p s (omega arith) cap c) am) in
      let f_r : All (Fit p) R = all_append (Fit p) right tail fright at in
      let sl = seek-lands B N Z p p old cap ab.0 in
      let lands : p ≤ doc_of one = subst (λ z. p ≤ doc_of z) (sym k.one-is) sl.0 in
      let ups : doc_of old ≤ doc_of one = subst (λ z. doc_of old ≤ doc_of z) (sym k.one-is) sl.1 in
      let o1 : Sorted doc_of (left ++ (old ∷ (more ++ tail))) = subst (Sorted doc_of) (re1 ∙ re2) i.order in
      let opost : Sorted doc_of post = sorted_back doc_of (pre ++ piv) post i.order in
      let fpost : From doc_of p post = all-imp (λ s. p < doc_of s) (λ s. p ≤ doc_of s) post (λ s h. omega arith) i.post-gt in
      let fpiv : From doc_of p piv = all-imp (λ s. doc_of s ≡ p) (λ s. p ≤ doc_of s) piv (λ s h. omega arith) on in
      let fright' : From doc_of p right = all-imp (λ s. doc_of s ≡ p) (λ s. p ≤ doc_of s) right (λ s h. omega arith) k.right-on in
      let ftail : From doc_of p tail = all_append (λ s. p ≤ doc_of s) piv post fpiv fpost in
      let f_rr : From doc_of p R = all_append (λ s. p ≤ doc_of s) right tail fright' ftail in
      let o_r : Sorted doc_of R = level-sorted doc_of p right tail k.right-on ftail (level-sorted doc_of p piv post on fpost opost) in
      let le-pre : All (λ s. doc_of s ≤ p) (left ++ (old ∷ more)) = subst (All (λ s. doc_of s ≤ p)) k.split
      (all-front (λ s. doc_of s ≤ p) pre piv i.ps-le) in
      let snoc : left ++ (old ∷ []) ++ (more ++ tail) ≡ left ++ (old ∷ (more ++ tail)) = append_assoc left (old ∷ []) (more ++ tail) in
      let o2 : Sorted doc_of (left ++ (old ∷ R)) =
      subst (Sorted doc_of) (append_assoc left (old ∷ []) R)
      (end-sorted doc_of p (left ++ (old ∷ [])) (more ++ tail) R (subst (Sorted doc_of) (sym snoc) o1)
      (all_append (λ s. doc_of s ≤ p) left (old ∷ []) (all-front (λ s. doc_of s ≤ p) left (old ∷ more) le-pre)
      ((all_back (λ s. doc_of s ≤ p) left (old ∷ more) le-pre).0, tt))
      f_rr o_r) in
      let len-R : length R ≡ length (more ++ tail) =
      length-append right tail ∙ ap (λ z. z + length tail) (ap length k.right_is ∙ length-map more (seek B p)) ∙ sym (length-append more tail) in
      let len-all : length ((pre ++ piv) ++ post) ≡ length left + suc (length (more ++ tail)) = ap length (re1 ∙ re2) ∙ length-append left
      (old ∷ (more ++ tail)) in
      let fw = i.few in
      let con_r : (d : ℕ) → contrib d R ≡ contrib d (more ++ tail) =
      λ d. contrib-app d right tail
      ∙ ap (λ z. z ++ contrib d tail) (ap (contrib d) k.right_is ∙ contrib-map d (λ s. seek_in s.list B p s.cur) more)
      ∙ sym (contrib-app d more tail) in
      let con1 : (d : ℕ) → contrib d (one ∷ R) ≡ contrib d (old ∷ (more ++ tail)) =
      λ d. ap (λ z. contrib d (z ∷ R)) k.one-is ∙ ap (λ z. opt_list (score_of old.list d) ++ z) (con_r d) in
      let same1 : Same G Q p (left ++ (one ∷ R)) =
      λ d h. p-trans (subst (Same G Q p) (re1 ∙ re2) i.same d h)
      (perm-eq (contrib-app d left (old ∷ (more ++ tail)) ∙ ap (λ z. contrib d left ++ z) (sym (con1 d)) ∙ sym (contrib-app d left (one ∷ R)))) in
      let lag-l : (zs : List T) → From doc_of p zs → Lag B N Z p (K.threshold r) (left ++ zs) =
      λ zs f.
      let e : lag_of p (left ++ zs) ≡ lag_of p left = lag-app p left zs ∙ ap (λ z. lag_of p left ++ z) (lag-none p zs f) ∙ append-nil (lag_of p left) in
      let spl = ap length k.split in
      let lap = length-append left (old ∷ more) in
      let lpre = length-append (pre ++ piv) post in
      let lpp = length-append pre piv in
      let lm = length-map (left ++ (old ∷ more)) max_score in
      let dm : Dom O L (map max_score (lag_of p left)) (map max_score (left ++ (old ∷ more))) =
      subst (λ z. Dom O L (map max_score (lag_of p left)) z) (sym (map-append max_score left (old ∷ more)))
      (subst (λ z. Dom O L z (map max_score left ++ map max_score (old ∷ more))) (append-nil (map max_score (lag_of p left)))
      (dom-append O L (lag-dom B N Z max_score p left) (dom-nil O L (map max_score (old ∷ more))))) in
      let apre : All (Fit p) (left ++ (old ∷ more)) = all_append (Fit p) left (old ∷ more) al (ab.0, am) in
      l-tops (subst (λ z. L.rank (sum O (map max_score z)) ≤ L.rank (K.threshold r)) (sym e)
      (let mono = Z.sum_mono dm (tops-ok B N Z p (lag_of p left) (lag-keep (Fit p) p left al)) (tops-ok B N Z p (left ++ (old ∷ more)) apre)
      (omega arith) in
      let bound = subst (λ z. L.rank (sum O (map max_score z)) ≤ L.rank (K.threshold r)) k.split (lo (omega arith)) in
      omega arith)) in
      record {
        cap = cap;
        scs = put_back-all doc_of (λ zs. All (Fit p) (left ++ zs)) one R
            (λ zs e pm. all_append (Fit p) left zs al (all-perm (Fit p) pm f_r))
            (λ zs pm. all_append (Fit p) left zs al (all-perm (Fit p) pm (fone, f_r)));
        order = put_back-sorted doc_of left old one R ups o2;
        few = put_back-all doc_of (λ zs. length (left ++ zs) ≤ M) one R
            (λ zs e pm. omega (arith, length-append left zs, perm-length pm))
            (λ zs pm. omega (arith, length-append left zs, perm-length pm));
        same = put_back-all doc_of (λ zs. Same G Q p (left ++ zs)) one R
            (λ zs e pm d h.
            let gone : contrib d (one ∷ R) ≡ contrib d R = ap (λ o. opt_list o ++ contrib d R) (finished B N Z p d one fone h e) in
            p-trans (same1 d h) (p-trans (perm-eq (contrib-app d left (one ∷ R) ∙ ap (λ z. contrib d left ++ z) gone ∙ sym (contrib-app d left R)))
            (contrib-perm d (perm-left left pm))))
            (λ zs pm d h. p-trans (same1 d h) (contrib-perm d (perm-left left pm)));
        left = i.left;
        good = i.good;
        lag = put_back-all doc_of (λ zs. Lag B N Z p (K.threshold r) (left ++ zs)) one R
            (λ zs e pm. lag-l zs (all-perm (λ s. p ≤ doc_of s) pm f_rr))
            (λ zs pm. lag-l zs (all-perm (λ s. p ≤ doc_of s) pm (lands, f_rr)));
      }
