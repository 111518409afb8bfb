-- The union's route reports what the plain scan reports: every document that it passes is covered by bounds that do not exceed the threshold.
use mathlib.Core.Bool.{false, false≢true, true, true≢false}
use mathlib.Core.List.{List, [], append_assoc, append-nil, map, map-append, ◌++◌, ◌∷◌}
use mathlib.Core.Option.{Option, none, some}
use mathlib.Core.Path.{ap, refl, subst, sym, ◌∙◌, ◌≡◌}
use Prim.Native.Nat.{suc, zero, ℕ, ◌<◌, ◌≤◌}
use native.Mathlib.Nat.{sub-zero}
use native.Mathlib.Omega.{arith}
use lib.Dec.{eqb, leb}
use lib.ListN.{length, length-append, length-map}
use borrow.Author.Tests.{eqb-false, eqb-true, leb-false, leb-true}
use Rattle.arrays.specs.Every.{All}
use Rattle.route.specs.Score.{Ops, sum}
use Rattle.route.specs.Report.{Callback, reported}
use Rattle.route.specs.Postings.{Postings, TERMINATED, score_of}
use Rattle.route.specs.Plain.{hit, opt_list, present, scan, total_of, union}
use Rattle.route.specs.Cursor.{seek_block_in}
use Rattle.route.specs.Ordering.{retain, sort_by}
use Rattle.route.specs.Scorer.{Scorer, block_max_score, doc_of, last_doc_in_block, max_score, score_here, scorers_from, seek_block}
use Rattle.route.specs.Route.{Ends, Route, Turn, after, quiet}
use Rattle.route.specs.Union.{Aligned, Pivot, Stage, UnionPlace, advance_all_scorers_on_pivot, after_align, after_pivot, align_scorers, aligned, block_max_was_too_low, called, go_on, is_over, live_only, looking, missed, on_pivot, over, pivot_from, pivot_route, too_low_loads, union_by}
use Rattle.route.specs.Inner.Orders.{Sorted}
use Rattle.route.proofs.Cases.{by-test, lt_of_ne, on_test}
use Rattle.route.proofs.Lists.{all_append, all_back, all-front, all-imp, all_map, all-perm, p-trans, perm-eq, perm-length}
use Rattle.route.proofs.Order.{NeverFalls, Ordered, above-false, above-true}
use Rattle.route.proofs.Scan.{pass-to}
use Rattle.route.proofs.Places.{doc_at-cap}
use Rattle.route.proofs.Sums.{Dom, Sums, d-keep, dom-append, dom-nil, dom-refl}
use Rattle.route.proofs.Ordering.{map_keys, map-sorted, retain-all, retain-length, sort-perm, sort_sorted}
use Rattle.route.proofs.Scorers.{QueryOk, Sc, blocks-ok, contrib, contrib-app, contrib-map, contrib-perm, finished, fresh-fit, fresh-lists, sc-shallow, sc-up, shallow-is, tops-ok}
use Rattle.route.proofs.Union.Pivot.{AlignIs, CutIs, CutOk, align_is, cut-is}
use Rattle.route.proofs.Hits.{one-total}
use Rattle.route.proofs.Union.Lag.{Lag, l-blocks, l-none, l-tops, lag-all, lag-app, lag-keep, lag-length, lag-none, lag_of, shallow-stays-all}
use Rattle.route.proofs.Union.Landed.{landed_by}
use Rattle.route.proofs.Union.State.{Carries, Inv, Ready, Rest, Same, cut_low, hits-fin, stop-end, stop-none}
use Rattle.route.proofs.Union.TooLow.{too-low-any}
use Rattle.route.proofs.Union.Missed.{miss}
use Rattle.route.proofs.Union.Hit.{hit-inv}

module _ {B N : ℕ} {O : Ops} {L : Ordered O} {K : Callback O.S} (G : NeverFalls O L K) {M : ℕ} {Z : Sums O L M}
    {q : List (Postings O.S)} (Q : QueryOk B N Z q) where
  abbrev T : Type 0
  T = Scorer O.S

  abbrev Fit : ℕ → T → Type 0
  Fit f s = Sc B N Z f s

  abbrev bbs : List T → List O.S
  bbs ss = map (block_max_score B O) ss

  -- while the loop goes on there is a frontier, behind a report that of the scorers once landed; at its end the reports are the whole list
  pub UInv : K.State → Stage → List T → K.State → Type 0
  UInv total looking ss r = (f : ℕ) × Inv G Q total f ss r
  UInv total (called n) ss r = (f : ℕ) × Inv G Q total f (landed_by B (called n) ss) r
  UInv total over ss r = r ≡ total

  -- ---- the step

  -- a pivot behind the frontier: the lag is one of blocks
  lag-side : (total : K.State) (f : ℕ) (ss : List T) (r : K.State) (c : Pivot O.S) → Inv G Q total f ss r → CutOk B N Z (K.threshold r) [] ss c
      → c.doc < f
      → All (λ s. f ≤ suc (last_doc_in_block B s)) (lag_of f ss) × (L.rank (sum O (bbs (lag_of f ss))) ≤ L.rank (K.threshold r))
  lag-side total f ss r c i k h = go i.lag
    where
      P : List T
      P = c.pre ++ c.piv

      split : ss ≡ P ++ c.post
      split = k.shape.split ∙ sym (append_assoc c.pre c.piv c.post)

      behind-f : All (λ s. doc_of s < f) P
      behind-f =
          all_append (λ s. doc_of s < f) c.pre c.piv
          (all-imp (λ s. doc_of s ≤ c.doc) (λ s. doc_of s < f) c.pre (λ s e. omega arith) k.shape.pre-le)
          (all-imp (λ s. doc_of s ≡ c.doc) (λ s. doc_of s < f) c.piv (λ s e. omega arith) k.shape.on)

      lags : lag_of f ss ≡ P ++ lag_of f c.post
      lags = ap (lag_of f) split ∙ lag-app f P c.post ∙ ap (λ z. z ++ lag_of f c.post) (lag-all f P behind-f)

      heads : c.pre ++ (k.shape.head ∷ (k.shape.tail ++ lag_of f c.post)) ≡ P ++ lag_of f c.post
      heads = sym (append_assoc c.pre c.piv (lag_of f c.post) ∙ ap (λ z. c.pre ++ (z ++ lag_of f c.post)) k.shape.piv-is)

      go : Lag B N Z f (K.threshold r) ss
          → All (λ s. f ≤ suc (last_doc_in_block B s)) (lag_of f ss) × (L.rank (sum O (bbs (lag_of f ss))) ≤ L.rank (K.threshold r))
      go (l-blocks a b) = (a, b)
      go (l-none e) =
          let z = ap length (heads ∙ sym lags ∙ e) in
          let w = length-append c.pre (k.shape.head ∷ (k.shape.tail ++ lag_of f c.post)) in
          absurd (omega arith)
      go (l-tops lo) =
          let w : List T = c.pre ++ (k.shape.head ∷ (k.shape.tail ++ lag_of f c.post)) in
          let lo' : L.rank (sum O (map max_score w)) ≤ L.rank (K.threshold r) = subst
          (λ z. L.rank (sum O (map max_score z)) ≤ L.rank (K.threshold r)) (lags ∙ sym heads) lo in
          let aw : All (Fit f) w = subst (All (Fit f)) (lags ∙ sym heads) (lag-keep (Fit f) f ss i.scs) in
          let dm : Dom O L (map max_score c.pre ++ (k.shape.head.list.top ∷ [])) (map max_score w) =
          subst (λ z. Dom O L (map max_score c.pre ++ (k.shape.head.list.top ∷ [])) z)
          (sym (map-append max_score c.pre (k.shape.head ∷ (k.shape.tail ++ lag_of f c.post))))
          (dom-append O L (dom-refl O L (map max_score c.pre))
          (d-keep k.shape.head.list.top k.shape.head.list.top (omega arith)
          (dom-nil O L (map max_score (k.shape.tail ++ lag_of f c.post))))) in
          let lw = ap length (lags ∙ sym heads) in
          let ll = lag-length f ss in
          let lm = length-map w max_score in
          let fw = i.few in
          let apre = all-front (Fit f) c.pre (k.shape.head ∷ (k.shape.tail ++ lag_of f c.post)) aw in
          let ahead = (all_back (Fit f) c.pre (k.shape.head ∷ (k.shape.tail ++ lag_of f c.post)) aw).0 in
          let m = Z.sum_mono dm (all_append Z.Ok (map max_score c.pre) (k.shape.head.list.top ∷ []) (tops-ok B N Z f c.pre apre)
          (ahead.good.vals.top-ok, tt)) (tops-ok B N Z f w aw) (omega arith) in
          let hi = k.high in
          absurd (omega arith)

  ready : (total : K.State) (f g : ℕ) (ss : List T) (r : K.State) (c : Pivot O.S) → Inv G Q total f ss r → CutOk B N Z (K.threshold r) [] ss c
      → c.doc < TERMINATED
      → f ≤ g → c.doc ≤ g → g ≤ TERMINATED → Rest G Q g r ≡ total
      → Ready G Q total g c.doc (map (seek_block B c.doc) c.pre ++ map (seek_block B c.doc) c.piv) c.post r
  ready total f g ss r c i k lv fg pg gt lf =
      let p = c.doc in
      let P : List T = c.pre ++ c.piv in
      let sh = seek_block B p in
      let split : ss ≡ P ++ c.post = k.shape.split ∙ sym (append_assoc c.pre c.piv c.post) in
      let mp : map sh P ≡ map sh c.pre ++ map sh c.piv = map-append sh c.pre c.piv in
      let ag : All (Fit g) (P ++ c.post) = subst (All (Fit g)) split (sc-up B N Z f g ss fg i.scs) in
      let a_p = all-front (Fit g) P c.post ag in
      let apost = all_back (Fit g) P c.post ag in
      let le-P : All (λ s. doc_of s ≤ p) P =
      all_append (λ s. doc_of s ≤ p) c.pre c.piv k.shape.pre-le
      (all-imp (λ s. doc_of s ≡ p) (λ s. doc_of s ≤ p) c.piv (λ s e. omega arith) k.shape.on) in
      let docs : All (λ s. doc_of (sh s) ≡ doc_of s) P = all-imp (Fit g) (λ s. doc_of (sh s) ≡ doc_of s) P
      (λ s x. (shallow-is B N Z g p s (omega arith) x).1) a_p in
      let fw = i.few in
      let l0 = ap length split in
      let l1 = length-append P c.post in
      let l2 = length-append (map sh P) c.post in
      let l3 = length-map P sh in
      subst (λ z. Ready G Q total g p z c.post r) mp
      (record {
        cap = gt;
        scs = all_append (Fit g) (map sh P) c.post (all_map (Fit g) (Fit g) sh P (λ s x. sc-shallow B N Z g p s pg (omega arith) x) a_p) apost;
        order = map-sorted doc_of sh P c.post docs (subst (Sorted doc_of) split i.order);
        few = omega arith;
        same = λ d h. p-trans (subst (Same G Q f) split i.same d (omega arith))
            (perm-eq (contrib-app d P c.post
            ∙ ap (λ z. z ++ contrib d c.post) (sym (contrib-map d (λ s. seek_block_in s.list B p s.cur) P))
            ∙ sym (contrib-app d (map sh P) c.post)));
        left = lf;
        good = i.good;
        covers = all_map (Fit g) (λ s. p ≤ last_doc_in_block B s) sh P (λ s x. (shallow-is B N Z g p s (omega arith) x).0) a_p;
        post-gt = k.shape.post-gt;
        ps-le = map_keys doc_of (λ d. d ≤ c.doc) sh P docs le-P;
        live = lv;
      })

  align-inv : (total : K.State) (p : ℕ) (pre piv post : List T) (r : K.State) (a : Aligned O.S) → Ready G Q total p p (pre ++ piv) post r
      → 0 < length piv
      → All (λ s. doc_of s ≡ p) piv → (0 < length pre → L.rank (sum O (map max_score pre)) ≤ L.rank (K.threshold r)) → AlignIs B p pre a
      → Carries G Q total r (after_align B O (K.threshold r) pre a p piv post)
  align-inv total p pre piv post r (aligned xs) i n on lo k = hit-inv G Q total p pre piv post r xs i n on k
  align-inv total p pre piv post r (missed m) i n on lo k = (p, miss G Q total p pre piv post r m i on lo k)

  pivot-inv : (total : K.State) (f : ℕ) (ss : List T) (r : K.State) (c : Pivot O.S) → Inv G Q total f ss r → CutOk B N Z (K.threshold r) [] ss c
      → c.doc < TERMINATED
      → Carries G Q total r (on_pivot B O (K.threshold r) c)
  pivot-inv total f ss r c i k lv =
      let p = c.doc in
      let sh = seek_block B p in
      let pre : List T = map sh c.pre in
      let piv : List T = map sh c.piv in
      let lp = ap length k.shape.piv-is in
      let lpp = length-map c.piv sh in
      let lap = length-append pre piv in
      let np : 0 < length (pre ++ piv) = omega arith in
      on_test (leb f p)
      (λ e.
      let fp = leb-true f p e in
      let rd : Ready G Q total p p (pre ++ piv) c.post r =
      ready total f p ss r c i k lv fp (omega arith) (omega arith)
      (sym (pass-to G (hit O union q) (hits-fin G Q) N f p r fp i.good (λ d a b _. cut_low G Q total f d ss r c i k a b)) ∙ i.left) in
      let a_p = all-front (Fit p) (pre ++ piv) c.post rd.scs in
      let lb = length-map (pre ++ piv) (block_max_score B O) in
      let lq = length-append (pre ++ piv) c.post in
      let fw = rd.few in
      let fs = Z.sum-fin (bbs (pre ++ piv)) (blocks-ok B N Z p (pre ++ piv) a_p) (omega arith) in
      by-test (Carries G Q total r)
      (O.above (sum O (bbs (pre ++ piv))) (K.threshold r))
      (after_align B O (K.threshold r) pre (align_scorers B p pre) p piv c.post)
      (quiet (go_on (block_max_was_too_low B O (pre ++ piv) c.post)) (too_low_loads B O (pre ++ piv) c.post))
      (λ t. align-inv total p pre piv c.post r (align_scorers B p pre) rd (omega arith)
      (map_keys doc_of (λ d. d ≡ p) sh c.piv
      (all-imp (Fit p) (λ s. doc_of (sh s) ≡ doc_of s) c.piv (λ s x. (shallow-is B N Z p p s (omega arith) x).1)
      (all-front (Fit p) c.piv c.post
      (all_back (Fit p) c.pre (c.piv ++ c.post) (subst (All (Fit p)) k.shape.split (sc-up B N Z f p ss fp i.scs)))))
      k.shape.on)
      (λ n. subst (λ z. L.rank (sum O z) ≤ L.rank (K.threshold r)) (sym (tops-map c.pre))
      (k.low (let z = length-map c.pre sh in omega arith)))
      (align_is B p pre))
      (λ t. too-low-any G Q total p p (pre ++ piv) c.post r np rd (omega arith) (λ h. absurd (omega arith))
      (above-false O L (sum O (bbs (pre ++ piv))) (K.threshold r) fs (G.threshold-fin r i.good) t)))
      (λ e.
      let pf = leb-false f p e in
      let rd : Ready G Q total f p (pre ++ piv) c.post r = ready total f f ss r c i k lv (omega arith) (omega arith) i.cap i.left in
      let sd = lag-side total f ss r c i k pf in
      let P : List T = c.pre ++ c.piv in
      let split : ss ≡ P ++ c.post = k.shape.split ∙ sym (append_assoc c.pre c.piv c.post) in
      let behind-f : All (λ s. doc_of s < f) P =
      all_append (λ s. doc_of s < f) c.pre c.piv
      (all-imp (λ s. doc_of s ≤ p) (λ s. doc_of s < f) c.pre (λ s w. omega arith) k.shape.pre-le)
      (all-imp (λ s. doc_of s ≡ p) (λ s. doc_of s < f) c.piv (λ s w. omega arith) k.shape.on) in
      let lags : lag_of f ss ≡ P ++ lag_of f c.post = ap (lag_of f) split ∙ lag-app f P c.post ∙ ap (λ z. z ++ lag_of f c.post)
      (lag-all f P behind-f) in
      let cov : All (λ s. p ≤ last_doc_in_block B s) P =
      all-imp (λ s. f ≤ suc (last_doc_in_block B s)) (λ s. p ≤ last_doc_in_block B s) P (λ s w. omega arith)
      (all-front (λ s. f ≤ suc (last_doc_in_block B s)) P (lag_of f c.post) (subst (All (λ s. f ≤ suc (last_doc_in_block B s))) lags sd.0)) in
      let stay : pre ++ piv ≡ P = sym (map-append sh c.pre c.piv) ∙ shallow-stays-all B N Z p P cov in
      let whole : (pre ++ piv) ++ c.post ≡ ss = ap (λ z. z ++ c.post) stay ∙ sym split in
      let a_p = all-front (Fit f) (pre ++ piv) c.post rd.scs in
      let lb = length-map (pre ++ piv) (block_max_score B O) in
      let lq = length-append (pre ++ piv) c.post in
      let fw = rd.few in
      let ok_p = blocks-ok B N Z f (pre ++ piv) a_p in
      let fs = Z.sum-fin (bbs (pre ++ piv)) ok_p (omega arith) in
      let alag : All (Fit f) (lag_of f ss) = lag-keep (Fit f) f ss i.scs in
      let dm : Dom O L (bbs (pre ++ piv)) (bbs (lag_of f ss)) =
      subst (λ z. Dom O L (bbs (pre ++ piv)) z) (sym (ap bbs lags ∙ map-append (block_max_score B O) P (lag_of f c.post)))
      (subst (λ z. Dom O L z (bbs P ++ bbs (lag_of f c.post))) (append-nil (bbs P) ∙ ap bbs (sym stay))
      (dom-append O L (dom-refl O L (bbs P)) (dom-nil O L (bbs (lag_of f c.post))))) in
      let ll = lag-length f ss in
      let lm = length-map (lag_of f ss) (block_max_score B O) in
      let fi = i.few in
      let mono = Z.sum_mono dm ok_p (blocks-ok B N Z f (lag_of f ss) alag) (omega arith) in
      let sd1 = sd.1 in
      let lo : L.rank (sum O (bbs (pre ++ piv))) ≤ L.rank (K.threshold r) = omega arith in
      by-test (Carries G Q total r)
      (O.above (sum O (bbs (pre ++ piv))) (K.threshold r))
      (after_align B O (K.threshold r) pre (align_scorers B p pre) p piv c.post)
      (quiet (go_on (block_max_was_too_low B O (pre ++ piv) c.post)) (too_low_loads B O (pre ++ piv) c.post))
      (λ t. absurd (let z = above-true O L (sum O (bbs (pre ++ piv))) (K.threshold r) fs (G.threshold-fin r i.good) t in omega arith))
      (λ t. too-low-any G Q total f p (pre ++ piv) c.post r np rd (omega arith)
      (λ h. subst (λ z. All (λ s. f ≤ suc (last_doc_in_block B s)) (lag_of f z) × (L.rank (sum O (bbs (lag_of f z))) ≤ L.rank (K.threshold r)))
      (sym whole) sd) lo))
    where
      tops-map : (xs : List T) → map max_score (map (seek_block B c.doc) xs) ≡ map max_score xs
      tops-map [] = refl
      tops-map (x ∷ xs) = ap (λ z. x.list.top ∷ z) (tops-map xs)

  -- a pivot does not end the loop
  goes_on : (t : O.S) (c : Pivot O.S) → is_over (on_pivot B O t c).next.stage ≡ false
  goes_on t c =
      let pre : List T = map (seek_block B c.doc) c.pre in
      let piv : List T = map (seek_block B c.doc) c.piv in
      by-test (λ (u : Turn (UnionPlace O.S) O.S). is_over u.next.stage ≡ false) (O.above (sum O (bbs (pre ++ piv))) t)
      (after_align B O t pre (align_scorers B c.doc pre) c.doc piv c.post)
      (quiet (go_on (block_max_was_too_low B O (pre ++ piv) c.post)) (too_low_loads B O (pre ++ piv) c.post))
      (λ _. go pre piv (align_scorers B c.doc pre)) (λ _. refl)
    where
      go : (pre piv : List T) (a : Aligned O.S) → is_over (after_align B O t pre a c.doc piv c.post).next.stage ≡ false
      go pre piv (aligned xs) =
          by-test (λ (u : UnionPlace O.S). is_over u.stage ≡ false) (O.above (sum O (map score_here (xs ++ piv))) t)
          (record { stage = called (length (xs ++ piv)); scorers = (xs ++ piv) ++ c.post })
          (go_on (advance_all_scorers_on_pivot B (xs ++ piv) c.post)) (λ _. refl) (λ _. refl)
      go pre piv (missed m) = refl

  -- at a place that goes on
  on-inv : (total : K.State) (st : Stage) (ss : List T) (r : K.State) → is_over st ≡ false → (f : ℕ) × Inv G Q total f (landed_by B st ss) r
      → UInv total st ss r
  unfolding UInv
  on-inv total looking ss r e i = i
  on-inv total (called n) ss r e i = i
  on-inv total over ss r e i = absurd (true≢false e)

  -- the invariant of a turn from r: while it goes on there is a frontier, and at the end the reports are the total
  abbrev Turned : K.State → K.State → Turn (UnionPlace O.S) O.S → Type 0
  Turned total r u = UInv total u.next.stage u.next.scorers (reported K u.due r)

  cut-inv : (total : K.State) (f : ℕ) (ss : List T) (r : K.State) (o : Option (Pivot O.S)) → Inv G Q total f ss r
      → CutIs B N Z (K.threshold r) [] ss o
      → Turned total r (after_pivot B O (K.threshold r) (live_only o) ss)
  unfolding UInv
  cut-inv total f ss r none i k = stop-none G Q total f ss r i k
  cut-inv total f ss r (some c) i k =
      by-test (λ o. Turned total r (after_pivot B O (K.threshold r) o ss)) (eqb c.doc TERMINATED) none (some c)
      (λ e. stop-end G Q total f ss r c i k (eqb-true c.doc TERMINATED e))
      (λ e.
      let a = all-front (Fit f) c.piv c.post (all_back (Fit f) c.pre (c.piv ++ c.post) (subst (All (Fit f)) k.shape.split i.scs)) in
      let h = (subst (All (Fit f)) k.shape.piv-is a).0 in
      let d = (subst (All (λ s. doc_of s ≡ c.doc)) k.shape.piv-is k.shape.on).0 in
      let cp = doc_at-cap B N k.shape.head.list h.good.ok k.shape.head.cur.at in
      let lv : c.doc < TERMINATED = lt_of_ne (omega arith) (eqb-false c.doc TERMINATED e) in
      let u = on_pivot B O (K.threshold r) c in
      on-inv total u.next.stage u.next.scorers (reported K u.due r) (goes_on (K.threshold r) c) (pivot-inv total f ss r c i k lv))

  turn-inv : (total : K.State) (st : Stage) (ss : List T) (r : K.State) → UInv total st ss r
      → Turned total r (union_by B O st (K.threshold r) ss)
  unfolding UInv
  turn-inv total looking ss r i =
      cut-inv total i.0 ss r (pivot_from O (K.threshold r) O.nil ss) i.1
      (cut-is B N Z i.0 (K.threshold r) [] ss (G.threshold-fin r i.1.good) tt i.1.scs i.1.order (let z = i.1.few in omega arith))
  turn-inv total (called n) ss r i = i
  turn-inv total over ss r i = i

  -- ---- the beginning

  retain-same : (d : ℕ) (ss : List T) → All (Fit 0) ss → contrib d ss ≡ contrib d (retain doc_of ss)
  retain-same d [] a = refl
  retain-same d (s ∷ ss) a =
      let ih = retain-same d ss a.1 in
      by-test (λ z. contrib d (s ∷ ss) ≡ contrib d z) (eqb (doc_of s) TERMINATED) (retain doc_of ss) (s ∷ retain doc_of ss)
      (λ e. ap (λ o. opt_list o ++ contrib d ss) (finished B N Z 0 d s a.0 (omega arith) (eqb-true (doc_of s) TERMINATED e)) ∙ ih)
      (λ e. ap (λ z. opt_list (score_of s.list d) ++ z) ih)

  -- the scorers that `retain` leaves
  abbrev live : List T
  live = retain doc_of (scorers_from 0 q)

  begin : (r : K.State) → G.Good r → UInv (Rest G Q 0 r) looking (sort_by doc_of live) r
  unfolding UInv
  begin r g =
      let ss = scorers_from 0 q in
      let a = fresh-fit B N Z 0 q Q.all-ok in
      let rt = retain-all doc_of (Fit 0) ss a in
      let r1 = retain-length doc_of ss in
      let fl = ap length (fresh-lists 0 q) in
      let fm = length-map (scorers_from 0 q) (λ s. s.list) in
      let pm = sort-perm doc_of live in
      let pl = perm-length pm in (
        0,
        record {
          cap = omega arith;
          scs = all-perm (Fit 0) pm rt;
          order = sort_sorted doc_of live;
          few = omega arith;
          same = λ d h. p-trans (perm-eq (sym (ap (present d) (fresh-lists 0 q)) ∙ retain-same d ss a)) (contrib-perm d pm);
          left = refl;
          good = g;
          lag = l-none (lag-none 0 (sort_by doc_of live) (all-imp (Fit 0) (λ s. 0 ≤ doc_of s) (sort_by doc_of live) (λ s c. omega arith)
              (all-perm (Fit 0) pm rt)));
        },
      )

  abbrev W : Route O.S
  W = pivot_route B O live

  after-inv : (r : K.State) → G.Good r → (n : ℕ)
      → UInv (Rest G Q 0 r) (after K W r n).place.stage (after K W r n).place.scorers (after K W r n).state
  after-inv r g zero = begin r g
  after-inv r g (suc n) = let u = after K W r n in turn-inv (Rest G Q 0 r) u.place.stage u.place.scorers u.state (after-inv r g n)

  over-inv : (total : K.State) (st : Stage) (ss : List T) (r : K.State) → is_over st ≡ true → UInv total st ss r → r ≡ total
  unfolding UInv
  over-inv total looking ss r e i = absurd (false≢true e)
  over-inv total (called n) ss r e i = absurd (false≢true e)
  over-inv total over ss r e i = i

  -- THE UNION'S ROUTE: when it ends, its reports are the plain scan's
  pub union-agrees : (r total : K.State) → G.Good r → Ends K W r total → total ≡ scan O K (hit O union q) N 0 r
  union-agrees r total g e =
      let u = after K W r e.steps in
      sym e.leaves ∙ over-inv (Rest G Q 0 r) u.place.stage u.place.scorers u.state e.ended (after-inv r g e.steps)
      ∙ ap (λ z. scan O K (hit O union q) z 0 r) (sub-zero N)

  -- ---- one list with documents: the single route takes over

  pub one_left : (s : T) → live ≡ s ∷ [] → (d : ℕ) → hit O union q d ≡ score_of s.list d
  one_left s e d =
      ap (total_of O) (sym (ap (present d) (fresh-lists 0 q)) ∙ retain-same d (scorers_from 0 q) (fresh-fit B N Z 0 q Q.all-ok) ∙ ap (contrib d) e)
      ∙ one-total O (score_of s.list d)
