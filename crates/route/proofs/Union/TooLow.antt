-- Where the block bounds up to the pivot do not exceed the threshold, one scorer may move past them.
use mathlib.Core.List.{List, [], append_assoc, append-nil, map, map-append, ◌++◌, ◌∷◌}
use mathlib.Core.Path.{ap, subst, sym, ◌∙◌, ◌≡◌}
use Prim.Native.Nat.{suc, ℕ, ◌+◌, ◌<◌, ◌≤◌}
use native.Mathlib.Omega.{arith}
use lib.Dec.{leb, ltb}
use lib.ListN.{length, length-append, length-map}
use borrow.Author.Tests.{leb-false, leb-true, ltb-false, ltb-true}
use Rattle.arrays.specs.Every.{All}
use Rattle.route.specs.Score.{Ops, sum}
use Rattle.route.specs.Report.{Callback}
use Rattle.route.specs.Postings.{Postings, TERMINATED}
use Rattle.route.specs.Plain.{hit, union}
use Rattle.route.specs.Ordering.{restore_ordering}
use Rattle.route.specs.Scorer.{Scorer, block_max_score, doc_of, last_doc_in_block, seek}
use Rattle.route.specs.Union.{behind, block_max_was_too_low, least_doc, least_last_doc, scorer_to_seek}
use Rattle.route.specs.Inner.Orders.{Sorted}
use Rattle.route.proofs.Cases.{on_test}
use Rattle.route.proofs.Lists.{Perm, all_append, all_back, all-front, all-imp, all-perm, p-trans, perm-eq, perm-left, perm-length, perm-map}
use Rattle.route.proofs.Order.{NeverFalls, Ordered}
use Rattle.route.proofs.Scan.{pass-to}
use Rattle.route.proofs.Places.{last-cap}
use Rattle.route.proofs.Sums.{Dom, Sums, d-keep, d-skip, dom-append, dom-refl}
use Rattle.route.proofs.Ordering.{bubble-perm, replace-sorted}
use Rattle.route.proofs.Scorers.{QueryOk, Sc, blocks-ok, contrib-app, contrib-perm, dom-blocks, sc-seek, sc-up, seek-lands}
use Rattle.route.proofs.Union.Pivot.{behind-gt, behind-is, least_doc-gt, least_doc-le, least_last-ge, least_last-le, pick_is}
use Rattle.route.proofs.Union.Lag.{l-blocks, lag-app, lag-bubble, lag-dom, lag-keep, lag-length, lag-near, lag-none, lag-perm, lag_of, seek-keeps}
use Rattle.route.proofs.Union.State.{Inv, Ready, Same, dom-front, hits-fin, low_by}

module _ {B N : ℕ} {O : Ops} {L : Ordered O} {K : Callback O.S} (G : NeverFalls O L K) {M : ℕ} {Z : Sums O L M}
    {q : List (Postings O.S)} (Q : QueryOk B N Z q) where
  abbrev T : Type 0
  T = Scorer O.S

  abbrev Fit : ℕ → T → Type 0
  Fit f s = Sc B N Z f s

  abbrev bbs : List T → List O.S
  bbs ss = map (block_max_score B O) ss

  -- one scorer of a list moves to t, and is put where it belongs
  moved_all : (P : T → Type 0) (left right : List T) (one one' : T) → P one' → All P (left ++ (one ∷ right))
      → All P (left ++ restore_ordering doc_of one' right)
  moved_all P left right one one' h a =
      all_append P left (restore_ordering doc_of one' right) (all-front P left (one ∷ right) a)
      (all-perm P (bubble-perm doc_of one' right) (h, (all_back P left (one ∷ right) a).1))

  moved_same : (f : ℕ) (left right : List T) (one : T) (t : ℕ) → Same G Q f (left ++ (one ∷ right))
      → Same G Q f (left ++ restore_ordering doc_of (seek B t one) right)
  moved_same f left right one t s d h =
      p-trans (s d h)
      (p-trans (perm-eq (contrib-app d left (one ∷ right) ∙ sym (contrib-app d left (seek B t one ∷ right))))
      (contrib-perm d (perm-left left (bubble-perm doc_of (seek B t one) right))))

  moved_length : (left right : List T) (one one' : T) → length (left ++ restore_ordering doc_of one' right) ≡ length (left ++ (one ∷ right))
  moved_length left right one one' =
      length-append left (restore_ordering doc_of one' right) ∙ ap (λ z. length left + z) (sym (perm-length (bubble-perm doc_of one' right))) ∙ sym
      (length-append left (one ∷ right))

  -- what the lag gives at a pivot behind the frontier
  abbrev pub Side : ℕ → ℕ → List T → O.S → Type 0
  Side f p ss t = p < f → All (λ s. f ≤ suc (last_doc_in_block B s)) (lag_of f ss) × (L.rank (sum O (bbs (lag_of f ss))) ≤ L.rank t)

  -- the frontier goes up to the document sought
  low_up : (total : K.State) (f p t : ℕ) (left right post : List T) (one : T) (r : K.State)
      → Ready G Q total f p (left ++ (one ∷ right)) post r → f ≤ t → t ≤ TERMINATED
      → All (λ s. t ≤ suc (last_doc_in_block B s)) (left ++ (one ∷ right)) → All (λ s. t ≤ doc_of s) post
      → L.rank (sum O (bbs (left ++ (one ∷ right)))) ≤ L.rank (K.threshold r)
      → Inv G Q total t (left ++ restore_ordering doc_of (seek B t one) (right ++ post)) r
  low_up total f p t left right post one r i h cap cov far lo =
      let ps : List T = left ++ (one ∷ right) in
      let re : ps ++ post ≡ left ++ (one ∷ (right ++ post)) = append_assoc left (one ∷ right) post in
      let one' : T = seek B t one in
      let scs-ps = all-front (Fit f) ps post i.scs in
      let scs-post = all_back (Fit f) ps post i.scs in
      let up : All (Fit t) (left ++ (one ∷ (right ++ post))) = subst (All (Fit t)) re (sc-up B N Z f t (ps ++ post) h i.scs) in
      let upo : Fit t one = (all_back (Fit t) left (one ∷ (right ++ post)) up).0 in
      let lands = seek-lands B N Z t t one cap upo in
      let fw = i.few in
      let ln = length-append ps post in
      let lm = length-map ps (block_max_score B O) in
      let ml = moved_length left (right ++ post) one one' in
      let lr = ap length re in
      record {
        cap = cap;
        scs = moved_all (Fit t) left (right ++ post) one one' (sc-seek B N Z t t one (omega arith) cap upo) up;
        order = replace-sorted doc_of left one one' (right ++ post) lands.1 (subst (Sorted doc_of) re i.order);
        few = omega arith;
        same = moved_same t left (right ++ post) one t (λ d a. subst (Same G Q f) re i.same d (omega arith));
        left =
            sym (pass-to G (hit O union q) (hits-fin G Q) N f t r h i.good
            (λ d a b _. low_by G Q f d (K.threshold r) (ps ++ post) (bbs ps) i.same a i.scs
            (dom-front G Q f d (bbs ps) ps post scs-post a (all-imp (λ s. t ≤ doc_of s) (λ s. d < doc_of s) post (λ s e. omega arith) far)
            (dom-blocks B N Z f d ps scs-ps a (all-imp (λ s. t ≤ suc (last_doc_in_block B s)) (λ s. d ≤ last_doc_in_block B s) ps
            (λ s e. omega arith) cov)))
            (blocks-ok B N Z f ps scs-ps) (omega arith) (λ e. lo)))
            ∙ i.left;
        good = i.good;
        lag =
            let e : lag_of t (left ++ restore_ordering doc_of one' (right ++ post)) ≡ lag_of t (left ++ right) =
            lag-app t left (restore_ordering doc_of one' (right ++ post))
            ∙ ap (λ z. lag_of t left ++ z) (lag-bubble t one' (right ++ post) lands.0 ∙ lag-app t right post ∙ ap (λ z. lag_of t right ++ z)
            (lag-none t post far) ∙ append-nil (lag_of t right))
            ∙ sym (lag-app t left right) in
            let lw = lag-length t (left ++ right) in
            l-blocks
            (subst (All (λ s. t ≤ suc (last_doc_in_block B s))) (sym e)
            (lag-keep (λ s. t ≤ suc (last_doc_in_block B s)) t (left ++ right)
            (all_append (λ s. t ≤ suc (last_doc_in_block B s)) left right (all-front (λ s. t ≤ suc (last_doc_in_block B s)) left (one ∷ right) cov)
            (all_back (λ s. t ≤ suc (last_doc_in_block B s)) left (one ∷ right) cov).1)))
            (subst (λ z. L.rank (sum O (bbs z)) ≤ L.rank (K.threshold r)) (sym e)
            (let dm : Dom O L (bbs (lag_of t (left ++ right))) (bbs ps) =
            subst (λ z. Dom O L z (bbs ps)) (sym (ap bbs (lag-app t left right) ∙ map-append (block_max_score B O) (lag_of t left) (lag_of t right)))
            (subst (λ z. Dom O L (bbs (lag_of t left) ++ bbs (lag_of t right)) z) (sym (map-append (block_max_score B O) left (one ∷ right)))
            (dom-append O L (lag-dom B N Z (block_max_score B O) t left)
            (d-skip (block_max_score B O one) (lag-dom B N Z (block_max_score B O) t right)))) in
            let okp = blocks-ok B N Z f ps scs-ps in
            omega (
              arith,
              Z.sum_mono dm
                  (blocks-ok B N Z f (lag_of t (left ++ right)) (lag-keep (Fit f) t (left ++ right)
                  (all_append (Fit f) left right (all-front (Fit f) left (one ∷ right) scs-ps) (all_back (Fit f) left (one ∷ right) scs-ps).1)))
                  okp (omega arith),
            )));
      }

  -- the frontier stays: a scorer behind it moves to a document before it
  low-stay : (total : K.State) (f p t : ℕ) (left right post : List T) (one : T) (r : K.State)
      → Ready G Q total f p (left ++ (one ∷ right)) post r → p < t → t < f
      → All (λ s. f ≤ suc (last_doc_in_block B s)) (lag_of f ((left ++ (one ∷ right)) ++ post))
      → L.rank (sum O (bbs (lag_of f ((left ++ (one ∷ right)) ++ post)))) ≤ L.rank (K.threshold r)
      → Inv G Q total f (left ++ restore_ordering doc_of (seek B t one) (right ++ post)) r
  low-stay total f p t left right post one r i h k cov lo =
      let ps : List T = left ++ (one ∷ right) in
      let R : List T = right ++ post in
      let re : ps ++ post ≡ left ++ (one ∷ R) = append_assoc left (one ∷ right) post in
      let one' : T = seek B t one in
      let up : All (Fit f) (left ++ (one ∷ R)) = subst (All (Fit f)) re i.scs in
      let upo : Fit f one = (all_back (Fit f) left (one ∷ R) up).0 in
      let cp = i.cap in
      let lands = seek-lands B N Z f t one (omega arith) upo in
      let fw = i.few in
      let ml = moved_length left R one one' in
      let lr = ap length re in
      let at_p : doc_of one ≤ p = (all_back (λ s. doc_of s ≤ p) left (one ∷ right) i.ps-le).0 in
      let scs' = moved_all (Fit f) left R one one' (sc-seek B N Z f t one (omega arith) (omega arith) upo) up in
      let old : lag_of f (ps ++ post) ≡ lag_of f left ++ (one ∷ lag_of f R) =
      ap (lag_of f) re ∙ lag-app f left (one ∷ R) ∙ ap (λ z. lag_of f left ++ z) (lag-near f one R (omega arith)) in
      let cov' : All (λ s. f ≤ suc (last_doc_in_block B s)) (lag_of f left ++ (one ∷ lag_of f R)) = subst
      (All (λ s. f ≤ suc (last_doc_in_block B s))) old cov in
      let lo' : L.rank (sum O (bbs (lag_of f left) ++ (block_max_score B O one ∷ bbs (lag_of f R)))) ≤ L.rank (K.threshold r) =
      subst (λ z. L.rank (sum O z) ≤ L.rank (K.threshold r)) (ap bbs old ∙ map-append (block_max_score B O) (lag_of f left) (one ∷ lag_of f R)) lo in
      let fl : All (Fit f) (lag_of f left) = lag-keep (Fit f) f left (all-front (Fit f) left (one ∷ R) up) in
      let f_r : All (Fit f) (lag_of f R) = lag-keep (Fit f) f R (all_back (Fit f) left (one ∷ R) up).1 in
      let okl = blocks-ok B N Z f (lag_of f left) fl in
      let ok_r = blocks-ok B N Z f (lag_of f R) f_r in
      let oko = (blocks-ok B N Z f (one ∷ []) (upo, tt)).0 in
      let oks : All Z.Ok (bbs (lag_of f left) ++ (block_max_score B O one ∷ bbs (lag_of f R))) = all_append Z.Ok (bbs (lag_of f left))
      (block_max_score B O one ∷ bbs (lag_of f R)) okl (oko, ok_r) in
      let la = length-append (bbs (lag_of f left)) (block_max_score B O one ∷ bbs (lag_of f R)) in
      let l1 = length-map (lag_of f left) (block_max_score B O) in
      let l2 = length-map (lag_of f R) (block_max_score B O) in
      let l3 = lag-length f left in
      let l4 = lag-length f R in
      let l5 = length-append left (one ∷ R) in
      let lens : length (bbs (lag_of f left) ++ (block_max_score B O one ∷ bbs (lag_of f R))) ≤ M = omega arith in
      record {
        cap = i.cap;
        scs = scs';
        order = replace-sorted doc_of left one one' R lands.1 (subst (Sorted doc_of) re i.order);
        few = omega arith;
        same = moved_same f left R one t (subst (Same G Q f) re i.same);
        left = i.left;
        good = i.good;
        lag =
            on_test (ltb (doc_of one') f)
            (λ u.
            let near = ltb-true (doc_of one') f u in
            let kept = seek-keeps B N Z f t one upo (omega arith)
            (all_back (λ s. f ≤ suc (last_doc_in_block B s)) (lag_of f left) (one ∷ lag_of f R) cov').0 near in
            let pm : Perm (lag_of f left ++ (one' ∷ lag_of f R)) (lag_of f (left ++ restore_ordering doc_of one' R)) =
            p-trans (perm-eq (sym (lag-app f left (one' ∷ R) ∙ ap (λ z. lag_of f left ++ z) (lag-near f one' R near))))
            (lag-perm f (perm-left left (bubble-perm doc_of one' R))) in
            let kl = kept.last in
            let c0 = all_back (λ s. f ≤ suc (last_doc_in_block B s)) (lag_of f left) (one ∷ lag_of f R) cov' in
            let c00 = c0.0 in
            let ok' = (blocks-ok B N Z f (one' ∷ []) (sc-seek B N Z f t one (omega arith) (omega arith) upo, tt)).0 in
            let oks' : All Z.Ok (bbs (lag_of f left) ++ (block_max_score B O one' ∷ bbs (lag_of f R))) = all_append Z.Ok (bbs (lag_of f left))
            (block_max_score B O one' ∷ bbs (lag_of f R)) okl (ok', ok_r) in
            let la' = length-append (bbs (lag_of f left)) (block_max_score B O one' ∷ bbs (lag_of f R)) in
            let pm' : Perm (bbs (lag_of f left) ++ (block_max_score B O one' ∷ bbs (lag_of f R))) (bbs (lag_of f (left ++ restore_ordering doc_of one' R))) =
            p-trans (perm-eq (sym (map-append (block_max_score B O) (lag_of f left) (one' ∷ lag_of f R)))) (perm-map (block_max_score B O) pm) in
            l-blocks
            (all-perm (λ s. f ≤ suc (last_doc_in_block B s)) pm
            (all_append (λ s. f ≤ suc (last_doc_in_block B s)) (lag_of f left) (one' ∷ lag_of f R)
            (all-front (λ s. f ≤ suc (last_doc_in_block B s)) (lag_of f left) (one ∷ lag_of f R) cov')
            (omega arith, c0.1)))
            (let e = ap L.rank (Z.sum-perm pm' oks' (omega arith)) in
            let m = Z.sum_mono (dom-append O L (dom-refl O L (bbs (lag_of f left)))
            (d-keep (block_max_score B O one') (block_max_score B O one) kept.bound (dom-refl O L (bbs (lag_of f R))))) oks' oks lens in
            omega arith))
            (λ u.
            let far = ltb-false (doc_of one') f u in
            let e : lag_of f (left ++ restore_ordering doc_of one' R) ≡ lag_of f left ++ lag_of f R =
            lag-app f left (restore_ordering doc_of one' R) ∙ ap (λ z. lag_of f left ++ z) (lag-bubble f one' R far) in
            l-blocks
            (subst (All (λ s. f ≤ suc (last_doc_in_block B s))) (sym e)
            (all_append (λ s. f ≤ suc (last_doc_in_block B s)) (lag_of f left) (lag_of f R)
            (all-front (λ s. f ≤ suc (last_doc_in_block B s)) (lag_of f left) (one ∷ lag_of f R) cov')
            (all_back (λ s. f ≤ suc (last_doc_in_block B s)) (lag_of f left) (one ∷ lag_of f R) cov').1))
            (let w = ap bbs e ∙ map-append (block_max_score B O) (lag_of f left) (lag_of f R) in
            let m = Z.sum_mono (dom-append O L (dom-refl O L (bbs (lag_of f left))) (d-skip (block_max_score B O one) (dom-refl O L (bbs (lag_of f R)))))
            (all_append Z.Ok (bbs (lag_of f left)) (bbs (lag_of f R)) okl ok_r) oks lens in
            subst (λ z. L.rank (sum O z) ≤ L.rank (K.threshold r)) (sym w) (omega arith)));
      }

  too-low : (total : K.State) (f p : ℕ) (x : T) (xs post : List T) (r : K.State) → Ready G Q total f p (x ∷ xs) post r → p ≤ f
      → Side f p ((x ∷ xs) ++ post) (K.threshold r)
      → L.rank (sum O (bbs (x ∷ xs))) ≤ L.rank (K.threshold r) → (g : ℕ) × Inv G Q total g (block_max_was_too_low B O (x ∷ xs) post) r
  too-low total f p x xs post r i pf side lo =
      let m = scorer_to_seek O x xs in
      let sp = pick_is O x xs in
      let ll = least_last_doc B x xs in
      let t = least_doc (behind ll) post in
      let llc : ll ≤ TERMINATED = cap-of x xs i.scs in
      let lv = i.live in
      let bh = behind-is ll llc in
      let b0 = bh.0 in
      let b1 = bh.1 in
      let ld = least_doc-le (behind ll) post in
      let l0 = ld.0 in
      let gt = least_doc-gt p (behind ll) post (behind-gt p ll (least_last-ge B p x xs i.covers) lv) i.post-gt in
      let i' : Ready G Q total f p (m.left ++ (m.one ∷ m.right)) post r = subst (λ z. Ready G Q total f p z post r) sp i in
      on_test (leb f t)
      (λ e. (
        t,
        low_up total f p t m.left m.right post m.one r i' (leb-true f t e) (omega arith)
            (subst (All (λ s. t ≤ suc (last_doc_in_block B s))) sp
            (all-imp (λ s. ll ≤ last_doc_in_block B s) (λ s. t ≤ suc (last_doc_in_block B s)) (x ∷ xs) (λ s w. omega arith) (least_last-le B x xs)))
            ld.1 (subst (λ z. L.rank (sum O (bbs z)) ≤ L.rank (K.threshold r)) sp lo),
      ))
      (λ e.
      let w = leb-false f t e in
      let sd = subst (λ z. All (λ s. f ≤ suc (last_doc_in_block B s)) (lag_of f (z ++ post)) ×
      (L.rank (sum O (bbs (lag_of f (z ++ post)))) ≤ L.rank (K.threshold r))) sp (side (omega arith)) in
      (f, low-stay total f p t m.left m.right post m.one r i' gt w sd.0 sd.1))
    where
      cap-of : (x : T) (xs : List T) → All (Fit f) ((x ∷ xs) ++ post) → least_last_doc B x xs ≤ TERMINATED
      cap-of x xs a =
          let c = a.0 in
          let h = last-cap B N x.list c.good.ok x.cur.blk in
          omega (arith, (least_last-le B x xs).0)

  pub too-low-any : (total : K.State) (f p : ℕ) (ps post : List T) (r : K.State) → 0 < length ps → Ready G Q total f p ps post r → p ≤ f
      → Side f p (ps ++ post) (K.threshold r)
      → L.rank (sum O (bbs ps)) ≤ L.rank (K.threshold r) → (g : ℕ) × Inv G Q total g (block_max_was_too_low B O ps post) r
  too-low-any total f p [] post r n i pf side lo = absurd (omega arith)
  too-low-any total f p (x ∷ xs) post r n i pf side lo = too-low total f p x xs post r i pf side lo
