-- The intersection's route reports what the plain scan reports: windows and candidates that it drops cannot exceed the threshold.
use mathlib.Core.Bool.{cond, false, false≢true, true}
use mathlib.Core.List.{List, [], map, ◌++◌, ◌∷◌}
use mathlib.Core.Option.{Option, none, some}
use mathlib.Core.Path.{ap, refl, subst, sym, ◌∙◌, ◌≡◌}
use Prim.Native.Nat.{min, suc, zero, ℕ, ◌-◌, ◌<◌, ◌≤◌}
use native.Mathlib.Nat.{sub-zero}
use native.Mathlib.Omega.{arith}
use lib.Dec.{leb, ltb}
use lib.ListN.{length, length-map}
use borrow.Author.Tests.{leb-false, leb-true, ltb-false, ltb-true}
use Rattle.arrays.specs.Every.{All}
use Rattle.route.specs.Score.{Ops, sum}
use Rattle.route.specs.Report.{Callback, Report, offer, reported}
use Rattle.route.specs.Postings.{Postings, TERMINATED, last_doc, score_of, start}
use Rattle.route.specs.Plain.{hit, intersection, opt_list, present, scan, turn_of}
use Rattle.route.specs.Cursor.{find_in}
use Rattle.route.specs.Ordering.{sort_by}
use Rattle.route.specs.Scorer.{Scorer, block_max_score, doc_of, last_doc_in_block, scorers_from, seek_block, size_hint}
use Rattle.route.specs.Route.{Ends, Load, Route, Turn, after, loads_of}
use Rattle.route.specs.Union.{least_last_doc}
use Rattle.route.specs.Intersection.{InterPlace, Stage, Tried, all_remain, called, candidates_in, early, found_turn, inter_by, is_over, leader_route, load_leader, max_score_sum, over, seek_block_all, try_candidate, window, window_turn, within}
use Rattle.route.specs.Inner.Cursors.{Past}
use Rattle.route.proofs.Cases.{by-test, on_test}
use Rattle.route.proofs.Lists.{Perm, all-imp, all_map, all-perm, perm-map}
use Rattle.route.proofs.Order.{FinOf, LowOf, NeverFalls, Ordered, above-false}
use Rattle.route.proofs.Scan.{offer-good, offer-rise, pass_all, pass-to, rest, rest_end, rest-turn}
use Rattle.route.proofs.Places.{doc_at-in, doc_at-le, last-le}
use Rattle.route.proofs.Cursor.{block-hits, find-below, find-misses, find-up}
use Rattle.route.proofs.Looking.{score-at}
use Rattle.route.proofs.Sums.{Exact, Sums, dom-opt}
use Rattle.route.proofs.Ordering.{sort-perm}
use Rattle.route.proofs.Scorers.{QueryOk, Sc, absent, block-low, blocks-ok, fresh-fit, fresh-lists, lists, present-length, present-ok, sc-shallow, sc-up, shallow-is}
use Rattle.route.proofs.Union.Pivot.{least_last-ge, least_last-le}
use Rattle.route.proofs.Hits.{hit-fin}
use Rattle.route.proofs.Intersection.Candidate.{Bnd, Found, TryOk, bnd-dom, bnd-of, one-sum, try-is}
use Rattle.route.proofs.Intersection.Window.{front-fit, lists-shallow, none_left, pos-passes, shallow-all}
use Rattle.route.proofs.Intersection.Query.{CandsOk, all-low, all-some, gather, parts-few, parts-ok, range-low, scores_at, top-fin, top-sum, tops-low}

module _ {B N : ℕ} {O : Ops} {L : Ordered O} {K : Callback O.S} (G : NeverFalls O L K) {M : ℕ} {Z : Sums O L M} (E : Exact O L M Z)
    {q : List (Postings O.S)} (Q : QueryOk B N Z q) {ll : Postings O.S} {sl : List (Postings O.S)} (pm : Perm q (ll ∷ sl)) where
  abbrev T : Type 0
  T = Scorer O.S

  abbrev Fit : ℕ → T → Type 0
  Fit f s = Sc B N Z f s

  abbrev bbs : List T → List O.S
  bbs ss = map (block_max_score B O) ss

  hits-fin : (d : ℕ) → FinOf O L (hit O intersection q d)
  hits-fin = hit-fin B N Z intersection q Q.all-ok Q.few

  abbrev Rest : ℕ → K.State → K.State
  Rest a r = rest G (hit O intersection q) hits-fin N a r

  module _ (total : K.State) where
    -- scanning on from f with the reports r gives the whole list, and no scorer has passed anything from f on
    record At (f : ℕ) (ld : T) (ss : List T) (r : K.State) : Type 0 where
      leads : Fit f ld
      secs : All (Fit f) ss
      is-ll : ld.list ≡ ll
      is-sl : lists ss ≡ sl
      left : Rest f r ≡ total
      good : G.Good r

    -- in a window up to e: besides, the bounds hold to its end, and the candidates left are all that can exceed the threshold
    record In (cs : List (Report O.S)) (e : ℕ) (bs : List O.S) (ld : T) (ss : List T) (r : K.State) : Type 0 where
      f : ℕ
      tr : ℕ
      at : At f ld ss r
      low : tr ≤ L.rank (K.threshold r)
      upto : f ≤ suc e
      bnd : (c : ℕ) → f ≤ c → c ≤ e → Bnd B N E c sl bs
      cands : CandsOk E Q pm bs e tr f cs

    IInv : Stage O.S → ℕ → T → List T → K.State → Type 0
    IInv early d ld ss r = At 0 ld ss r × (d ≡ doc_of ld)
    IInv window d ld ss r = At d ld ss r
    IInv (within cs e bs) d ld ss r = In cs e bs ld ss r
    IInv (called cs e bs) d ld ss r = In cs e bs ld ss r
    IInv over d ld ss r = r ≡ total

    State : InterPlace O.S → K.State → Type 0
    State u r = IInv u.stage u.doc u.leader u.secs r

    -- what a turn from r leaves
    abbrev Turned : K.State → Turn (InterPlace O.S) O.S → Type 0
    Turned r u = State u.next (reported K u.due r)

    at_up : (f g : ℕ) (ld : T) (ss : List T) (r : K.State) → f ≤ g → At f ld ss r → Rest g r ≡ total → At g ld ss r
    at_up f g ld ss r h a e =
        record {
          leads = (sc-up B N Z f g (ld ∷ []) h (a.leads, tt)).0;
          secs = sc-up B N Z f g ss h
              a.secs;
          is-ll = a.is-ll;
          is-sl = a.is-sl;
          left = e;
          good = a.good;
        }

    -- the window's bound is not above the threshold, or its candidates are collected: over scorers that are all shallowly sought
    window-live : (d : ℕ) (ld : T) (ss : List T) (r : K.State) → d < TERMINATED → At d ld ss r → All (λ s. d ≤ last_doc_in_block B s) (ld ∷ ss)
        → State (cond (O.above (O.add (block_max_score B O ld) (sum O (bbs ss))) (K.threshold r))
        (record {
          stage = within (candidates_in B O ld.list (O.sub (K.threshold r) (sum O (bbs ss))) ld.cur.blk d (least_last_doc B ld ss))
              (least_last_doc B ld ss) (bbs ss);
          doc = d;
          leader = load_leader B ld;
          secs = ss;
        })
        (record { stage = window; doc = suc (least_last_doc B ld ss); leader = ld; secs = ss })) r
    unfolding State IInv
    window-live d ld ss r lv a cov =
        let e = least_last_doc B ld ss in
        let de = least_last-ge B d ld ss cov in
        let le = least_last-le B ld ss in
        let le0 = le.0 in
        let bs : List O.S = bbs ss in
        let okb = blocks-ok B N Z d ss a.secs in
        let okl = (blocks-ok B N Z d (ld ∷ []) (a.leads, tt)).0 in
        let lsl = ap length a.is-sl in
        let lls = length-map ss (λ s. s.list) in
        let lbs = length-map ss (block_max_score B O) in
        let w = parts-few E Q pm in
        let nf = G.threshold-fin r a.good in
        let sum_is : O.add (block_max_score B O ld) (sum O bs) ≡ sum O (block_max_score B O ld ∷ bs) = one-sum B N E (block_max_score B O ld) bs okl okb
        (omega arith) in
        let fs : L.Fin (O.add (block_max_score B O ld) (sum O bs)) = subst L.Fin (sym sum_is)
        (Z.sum-fin (block_max_score B O ld ∷ bs) (okl, okb) (omega arith)) in
        let bnds : (c : ℕ) → d ≤ c → c ≤ e → Bnd B N E c sl bs =
        λ c h k. subst (λ z. Bnd B N E c z bs) a.is-sl (bnd-of B N E d c ss a.secs h
        (all-imp (λ s. e ≤ last_doc_in_block B s) (λ s. c ≤ last_doc_in_block B s) ss (λ s u. omega arith) le.1)) in
        by-test (λ u. State u r) (O.above (O.add (block_max_score B O ld) (sum O bs)) (K.threshold r))
        (record {
          stage = within (candidates_in B O ld.list (O.sub (K.threshold r) (sum O bs))
              ld.cur.blk d e) e bs;
          doc = d;
          leader = load_leader B ld;
          secs = ss;
        })
        (record { stage = window; doc = suc e; leader = ld; secs = ss })
        (λ u.
        record {
          f = d;
          tr = L.rank (K.threshold r);
          at = record { leads = front-fit B N Z d ld a.leads; secs = a.secs; is-ll = a.is-ll; is-sl = a.is-sl; left = a.left; good = a.good };
          low = omega arith;
          upto = omega arith;
          bnd = bnds;
          cands = subst (λ l. CandsOk E Q pm bs e (L.rank (K.threshold r)) d
              (candidates_in B O l (O.sub (K.threshold r) (sum O bs)) ld.cur.blk d e)) (sym a.is-ll)
              (collect (subst (λ l. Past B l ld.cur d) a.is-ll a.leads.past)
              (subst (λ l. ld.cur.blk ≤ l.full) a.is-ll a.leads.wf.in_list)
              (subst (λ l. d ≤ last_doc l B ld.cur.blk) a.is-ll cov.0)
              (subst (λ l. least_last_doc B ld ss ≤ last_doc l B ld.cur.blk) a.is-ll le0) okb nf);
        })
        (λ u.
        let lo = above-false O L (O.add (block_max_score B O ld) (sum O bs)) (K.threshold r) fs nf u in
        let lo' = ap L.rank sum_is in
        at_up d (suc e) ld ss r (omega arith) a
        (sym (pass-to G (hit O intersection q) hits-fin N d (suc e) r (omega arith) a.good
        (λ c h k _. all-low E Q pm c (K.threshold r) (λ n.
        let bd = bnd-dom B N E c sl bs (bnds c h (omega arith)) in
        let bl = block-low B N Z d c ld a.leads h (omega arith) in
        let bl' : LowOf O L (score_of ll c) (block_max_score B O ld) = subst (λ l. LowOf O L (score_of l c) (block_max_score B O ld)) a.is-ll bl in
        let mono = Z.sum_mono (dom-opt O L (score_of ll c) (block_max_score B O ld) bl' bd.0) (present-ok B N Z c (ll ∷ sl) (parts-ok E Q pm))
        (okl, okb) (omega arith) in
        omega arith)))
        ∙ a.left))
      where
        collect : Past B ll ld.cur d → ld.cur.blk ≤ ll.full → d ≤ last_doc ll B ld.cur.blk
            → least_last_doc B ld ss ≤ last_doc ll B ld.cur.blk → All Z.Ok (bbs ss) → L.Fin (K.threshold r)
            → CandsOk E Q pm (bbs ss) (least_last_doc B ld ss) (L.rank (K.threshold r)) d
            (candidates_in B O ll (O.sub (K.threshold r) (sum O (bbs ss))) ld.cur.blk d (least_last_doc B ld ss))
        collect past inl cv lst okb nf =
            let k = (parts-ok E Q pm).0.ok in
            let b = ld.cur.blk in
            let e = least_last_doc B ld ss in
            let i = find_in ll d B (start B b) in
            let j = find_in ll (suc e) B (start B b) in
            let hits = block-hits B N ll k d b inl (omega arith) cv in
            let h0 = hits.0 in
            let h1 = hits.1 in
            let h2 = hits.2 in
            let h3 = hits.3 in
            let n = min j ll.len - i in
            let ij : i ≤ j =
            on_test (leb i j) (λ u. leb-true i j u)
            (λ u.
            let v = leb-false i j u in
            let up = find-up B N ll k (suc e) B (start B b) in
            let m = find-below B N ll k d B (start B b) j up v in
            absurd (omega (arith, pos-passes B N Z ll k (suc e) B (start B b) j up (omega arith) (omega (arith, least_last-ge' cv))))) in
            let from : (x : ℕ) → x < ll.len → d ≤ ll.doc x → i ≤ x = λ x m h. find-misses B N ll k d B (start B b) x m h (past x m h).1 in
            let lsl = ap length a.is-sl in
            let lls = length-map ss (λ s. s.list) in
            let lbs = length-map ss (block_max_score B O) in
            gather E Q pm (bbs ss) e (L.rank (K.threshold r)) (O.sub (K.threshold r) (sum O (bbs ss)))
            (λ x m u.
            let ok = (parts-ok E Q pm).0.vals.score-ok x m in
            let s = E.sub_low (ll.score x) (bbs ss) (K.threshold r) ok okb (omega (arith, parts-few E Q pm)) nf u in
            omega (arith, ap L.rank (one-sum B N E (ll.score x) (bbs ss) ok okb (omega (arith, parts-few E Q pm)))))
            n i d (omega arith) from
            (λ x m h.
            on_test (ltb e (ll.doc x)) (λ u. ltb-true e (ll.doc x) u)
            (λ u.
            let v = ltb-false e (ll.doc x) u in
            let y = last-le B N ll k b x m inl (omega arith) in
            let pas = pos-passes B N Z ll k (suc e) B (start B b) x (omega arith) y (omega (arith, doc_at-in B N ll k x m)) in
            absurd (omega arith)))
            (λ x p z.
            let m : x < ll.len = omega arith in (
              omega (arith, doc_at-le B N ll k i x p, doc_at-in B N ll k x m),
              omega (arith, find-below B N ll k (suc e) B (start B b) x (omega arith) (omega arith), doc_at-in B N ll k x m),
            ))
          where
            least_last-ge' : d ≤ last_doc ll B ld.cur.blk → d ≤ least_last_doc B ld ss
            least_last-ge' _ = least_last-ge B d ld ss cov

    window-inv : (d : ℕ) (ld : T) (ss : List T) (r : K.State) → At d ld ss r → State (window_turn B O (K.threshold r) d ld ss) r
    unfolding State IInv
    window-inv d ld ss r a =
        let ld' = seek_block B d ld in
        let rest_of : List T → InterPlace O.S =
        λ xs. cond (O.above (O.add (block_max_score B O ld') (sum O (bbs xs))) (K.threshold r))
        (record {
          stage = within (candidates_in B O ld.list (O.sub (K.threshold r) (sum O (bbs xs))) ld'.cur.blk d (least_last_doc B ld' xs))
              (least_last_doc B ld' xs) (bbs xs);
          doc = d;
          leader = load_leader B ld';
          secs = xs;
        })
        (record { stage = window; doc = suc (least_last_doc B ld' xs); leader = ld'; secs = xs }) in
        by-test (λ u. State u r) (ltb d TERMINATED)
        (cond (all_remain B d ss) (rest_of (seek_block_all B d ss)) (record { stage = over; doc = d; leader = ld'; secs = seek_block_all B d ss }))
        (record { stage = over; doc = d; leader = ld; secs = ss })
        (λ u.
        let lv = ltb-true d TERMINATED u in
        by-test (λ u. State u r) (all_remain B d ss) (rest_of (seek_block_all B d ss))
        (record { stage = over; doc = d; leader = ld'; secs = seek_block_all B d ss })
        (λ h.
        let a' : At d ld' (map (seek_block B d) ss) r =
        record {
          leads = sc-shallow B N Z d d ld (omega arith) (omega arith) a.leads;
          secs = all_map (Fit d) (Fit d) (seek_block B d) ss (λ s c. sc-shallow B N Z d d s (omega arith) (omega arith) c) a.secs;
          is-ll = a.is-ll;
          is-sl = lists-shallow B N Z d ss ∙ a.is-sl;
          left = a.left;
          good = a.good;
        } in
        subst (λ z. State (rest_of z) r) (sym (shallow-all B N Z d ss h))
        (window-live d ld' (map (seek_block B d) ss) r lv a' (
          (shallow-is B N Z d d ld (omega arith) a.leads).0,
          all_map (Fit d) (λ s. d ≤ last_doc_in_block B s) (seek_block B d) ss
              (λ s c. (shallow-is B N Z d d s (omega arith) c).0) a.secs,
        )))
        (λ h.
        sym (pass_all G (hit O intersection q) hits-fin N d r a.good
        (λ c m n. all-low E Q pm c (K.threshold r) (λ k.
        let x = none_left B N Z d c ss (omega arith) m a.secs h in
        let y = subst (λ z. length (present c z) < length ss) a.is-sl x in
        let l1 = ap length a.is-sl in
        let l2 = length-map ss (λ s. s.list) in
        absurd (omega (arith, w-length (score_of ll c) c)))))
        ∙ a.left))
        (λ u. sym (rest_end G (hit O intersection q) hits-fin N d r (omega (arith, ltb-false d TERMINATED u))) ∙ a.left)
      where
        w-length : (o : Option O.S) (c : ℕ) → length (opt_list o ++ present c sl) ≤ suc (length (present c sl))
        w-length none c = omega arith
        w-length (some x) c = omega arith

    -- after a candidate at document c
    next-in : (cs : List (Report O.S)) (e : ℕ) (bs : List O.S) (c tr : ℕ) (ld : T) (ss : List T) (r : K.State) → At (suc c) ld ss r
        → tr ≤ L.rank (K.threshold r) → c ≤ e
        → ((x : ℕ) → suc c ≤ x → x ≤ e → Bnd B N E x sl bs) → CandsOk E Q pm bs e tr (suc c) cs → In cs e bs ld ss r
    next-in cs e bs c tr ld ss r a lo h b k = record { f = suc c; tr = tr; at = a; low = lo; upto = omega arith; bnd = b; cands = k }

    found-inv : (ls : List Load) (o : Option O.S) (cs : List (Report O.S)) (e : ℕ) (bs : List O.S) (d c tr : ℕ) (ld : T) (ss : List T) (r : K.State) (x0 : O.S)
        → At c ld ss r → tr ≤ L.rank (K.threshold r) → c ≤ e → c < N → ((x : ℕ) → suc c ≤ x → x ≤ e → Bnd B N E x sl bs)
        → CandsOk E Q pm bs e tr (suc c) cs
        → scores_at E Q pm c ≡ x0 ∷ present c sl → Found B N E c (K.threshold r) (x0 ∷ []) sl o
        → Turned r (found_turn B O (K.threshold r) o c cs e bs d ld ss ls)
    unfolding State IInv
    found-inv ls none cs e bs d c tr ld ss r x0 a lo ce cn b k w h =
        next-in cs e bs c tr ld ss r
        (at_up c (suc c) ld ss r (omega arith) a
        (sym (pass-to G (hit O intersection q) hits-fin N c (suc c) r (omega arith) a.good
        (λ y m n _.
        let z : y ≡ c = omega arith in
        subst (λ v. LowOf O L (hit O intersection q v) (K.threshold r)) (sym z)
        (all-low E Q pm c (K.threshold r) (λ u. let l = ap length w in omega (arith, ap (λ v. L.rank (sum O v)) w, h (omega arith))))))
        ∙ a.left))
        lo ce b k
    found-inv ls (some x) cs e bs d c tr ld ss r x0 a lo ce cn b k w h =
        let full : length (scores_at E Q pm c) ≡ suc (length sl) = ap length w ∙ ap suc h.1 in
        let is : hit O intersection q c ≡ some x = all-some E Q pm c full ∙ ap (λ v. some (sum O v)) w ∙ ap some (sym h.0) in
        let fx : L.Fin x = subst (FinOf O L) is (hits-fin c) in
        let turned : Rest (suc c) (offer O K c x r) ≡ total =
        ap (λ o. Rest (suc c) (turn_of O K o c r)) (sym is) ∙ sym (rest-turn G (hit O intersection q) hits-fin N c r cn) ∙ a.left in
        let g' = offer-good G c x r a.good fx in
        let rise = offer-rise G c x r a.good fx in
        let a' : At (suc c) ld ss (offer O K c x r) = record {
          leads = (sc-up B N Z c (suc c) (ld ∷ []) (omega arith) (a.leads, tt)).0;
          secs = sc-up B N Z c (suc c) ss (omega arith) a.secs;
          is-ll = a.is-ll;
          is-sl = a.is-sl;
          left = turned;
          good = g';
        } in
        let on = next-in cs e bs c tr ld ss (offer O K c x r) a' (omega arith) ce b k in
        by-test (λ st. IInv st d ld ss (offer O K c x r)) (O.above x (K.threshold r)) (called cs e bs) (within cs e bs) (λ _. on) (λ _. on)

    -- behind the early exit and behind a call: no list bounds exceed the threshold, so nothing is left
    top-stop : (f : ℕ) (ld : T) (ss : List T) (r : K.State) → At f ld ss r → O.above (max_score_sum O ld ss) (K.threshold r) ≡ false → r ≡ total
    top-stop f ld ss r a v =
        let ts = top-sum E Q pm ld ss a.is-ll a.is-sl in
        let low = above-false O L (max_score_sum O ld ss) (K.threshold r) (subst L.Fin (sym ts) (top-fin E Q pm))
        (G.threshold-fin r a.good) v in
        let low' = ap L.rank ts in
        sym (pass_all G (hit O intersection q) hits-fin N f r a.good (λ y m n. tops-low E Q pm y (K.threshold r) (omega arith))) ∙ a.left

    early-inv : (d : ℕ) (ld : T) (ss : List T) (r : K.State) → At 0 ld ss r → d ≡ doc_of ld
        → IInv (cond (O.above (max_score_sum O ld ss) (K.threshold r)) window over) d ld ss r
    unfolding IInv
    early-inv d ld ss r a e =
        by-test (λ st. IInv st d ld ss r) (O.above (max_score_sum O ld ss) (K.threshold r)) window over
        (λ _. at_up 0 d ld ss r (omega arith) a
        (sym (pass-to G (hit O intersection q) hits-fin N 0 d r (omega arith) a.good
        (λ y m n _. all-low E Q pm y (K.threshold r) (λ k.
        let no : score_of ll y ≡ none = subst (λ l. score_of l y ≡ none) a.is-ll (absent B N Z 0 y ld a.leads (omega arith) (omega arith)) in
        let z : length (scores_at E Q pm y) ≡ length (present y sl) = ap (λ o. length (opt_list o ++ present y sl)) no in
        absurd (omega (arith, present-length y sl)))))
        ∙ a.left))
        (λ v. top-stop 0 ld ss r a v)

    within-inv : (cs : List (Report O.S)) (e : ℕ) (bs : List O.S) (d : ℕ) (ld : T) (ss : List T) (r : K.State) → In cs e bs ld ss r
        → Turned r (inter_by B O (within cs e bs) (K.threshold r) d ld ss)
    unfolding State IInv
    within-inv [] e bs d ld ss r i =
        at_up i.f (suc e) ld ss r i.upto i.at
        (sym (pass-to G (hit O intersection q) hits-fin N i.f (suc e) r i.upto i.at.good
        (λ y m n _. range-low E Q pm bs e i.tr y (K.threshold r) i.low (i.bnd y m (omega arith))
        (λ j a b. i.cands j a (omega arith) (omega arith))))
        ∙ i.at.left)
    within-inv (c ∷ cs) e bs d ld ss r i = go i.cands
      where
        t : Tried O.S
        t = try_candidate B O c.doc (K.threshold r) c.score ss bs

        go : CandsOk E Q pm bs e i.tr i.f (c ∷ cs)
            → Turned r (found_turn B O (K.threshold r) t.found c.doc cs e bs d ld t.secs (loads_of ss t.secs))
        go (j, j1, j2, j3, j4, j5, j6, j7) =
            let k = (parts-ok E Q pm).0.ok in
            let bw = k.below j j1 in
            let a = i.at in
            let ok = (parts-ok E Q pm).0.vals.score-ok j j1 in
            let x0 = ll.score j in
            let passed : Rest c.doc r ≡ total =
            sym (pass-to G (hit O intersection q) hits-fin N i.f c.doc r j4 a.good
            (λ y m n _. range-low E Q pm bs e i.tr y (K.threshold r) i.low (i.bnd y m (omega arith))
            (λ z p s. j6 z p (omega arith) (omega arith))))
            ∙ a.left in
            let one : sum O (x0 ∷ []) ≡ c.score = Z.sum_one x0 ok ∙ j3 in
            let bn : Bnd B N E c.doc (lists ss) bs = subst (λ z. Bnd B N E c.doc z bs) (sym a.is-sl) (i.bnd c.doc j4 j5) in
            let lsl = ap length a.is-sl in
            let lls = length-map ss (λ s. s.list) in
            let tr : TryOk B N E c.doc (K.threshold r) (x0 ∷ []) ss t =
            subst (λ z. TryOk B N E c.doc (K.threshold r) (x0 ∷ []) ss (try_candidate B O c.doc (K.threshold r) z ss bs)) one
            (try-is B N E i.f c.doc (K.threshold r) (x0 ∷ []) ss bs j4 (omega arith) (G.threshold-fin r a.good) a.secs bn (ok, tt)
            (omega (arith, parts-few E Q pm))) in
            let a' : At c.doc ld t.secs r =
            record {
              leads = (sc-up B N Z i.f c.doc (ld ∷ []) j4 (a.leads, tt)).0;
              secs = tr.fits;
              is-ll = a.is-ll;
              is-sl = tr.same
                  ∙ a.is-sl;
              left = passed;
              good = a.good;
            } in
            let w : scores_at E Q pm c.doc ≡ x0 ∷ present c.doc sl =
            ap (λ o. opt_list o ++ present c.doc sl) (subst (λ z. score_of ll z ≡ some x0) j2
            (score-at ll B N k (ll.doc j) j j1 refl)) in
            found-inv (loads_of ss t.secs) t.found cs e bs d c.doc i.tr ld t.secs r x0 a' i.low j5 (omega arith) (λ y m n. i.bnd y (omega arith) n) j7 w
            (subst (λ z. Found B N E c.doc (K.threshold r) (x0 ∷ []) z t.found) a.is-sl tr.found-is)

    called-inv : (cs : List (Report O.S)) (e : ℕ) (bs : List O.S) (d : ℕ) (ld : T) (ss : List T) (r : K.State) → In cs e bs ld ss r
        → IInv (cond (O.above (max_score_sum O ld ss) (K.threshold r)) (within cs e bs) over) d ld ss r
    unfolding IInv
    called-inv cs e bs d ld ss r i =
        by-test (λ st. IInv st d ld ss r) (O.above (max_score_sum O ld ss) (K.threshold r)) (within cs e bs) over (λ _. i)
        (λ v. top-stop i.f ld ss r i.at v)

    turn-inv : (st : Stage O.S) (d : ℕ) (ld : T) (ss : List T) (r : K.State) → IInv st d ld ss r
        → Turned r (inter_by B O st (K.threshold r) d ld ss)
    unfolding State IInv
    turn-inv early d ld ss r i = early-inv d ld ss r i.0 i.1
    turn-inv window d ld ss r i = window-inv d ld ss r i
    turn-inv (within cs e bs) d ld ss r i = within-inv cs e bs d ld ss r i
    turn-inv (called cs e bs) d ld ss r i = called-inv cs e bs d ld ss r i
    turn-inv over d ld ss r i = i

    over-inv : (st : Stage O.S) (d : ℕ) (ld : T) (ss : List T) (r : K.State) → is_over st ≡ true → IInv st d ld ss r → r ≡ total
    unfolding IInv
    over-inv early d ld ss r e i = absurd (false≢true e)
    over-inv window d ld ss r e i = absurd (false≢true e)
    over-inv (within cs e' bs) d ld ss r e i = absurd (false≢true e)
    over-inv (called cs e' bs) d ld ss r e i = absurd (false≢true e)
    over-inv over d ld ss r e i = i

  module _ (ld : T) (ss : List T) (r : K.State) (g : G.Good r) (a : All (Fit 0) (ld ∷ ss)) (e : ld.list ≡ ll) (f : lists ss ≡ sl) where
    abbrev W : Route O.S
    W = leader_route B O ld ss

    after-inv : (n : ℕ) → State (Rest 0 r) (after K W r n).place (after K W r n).state
    unfolding State IInv
    after-inv zero = (record { leads = a.0; secs = a.1; is-ll = e; is-sl = f; left = refl; good = g }, refl)
    after-inv (suc n) =
        let u = after K W r n in
        turn-inv (Rest 0 r) u.place.stage u.place.doc u.place.leader u.place.secs u.state (after-inv n)

    leader-agrees : (total : K.State) → Ends K W r total → total ≡ scan O K (hit O intersection q) N 0 r
    unfolding State
    leader-agrees total z =
        let u = after K W r z.steps in
        sym z.leaves
        ∙ over-inv (Rest 0 r) u.place.stage u.place.doc u.place.leader u.place.secs u.state z.ended (after-inv z.steps)
        ∙ ap (λ z. scan O K (hit O intersection q) z 0 r) (sub-zero N)

-- THE INTERSECTION'S ROUTE: when it ends, its reports are the plain scan's
module _ {B N : ℕ} {O : Ops} {L : Ordered O} {K : Callback O.S} (G : NeverFalls O L K) {M : ℕ} {Z : Sums O L M} (E : Exact O L M Z)
    {q : List (Postings O.S)} (Q : QueryOk B N Z q) where
  pub intersection-agrees : (ld : Scorer O.S) (ss : List (Scorer O.S)) → sort_by size_hint (scorers_from 0 q) ≡ ld ∷ ss
      → (r total : K.State) → G.Good r → Ends K (leader_route B O ld ss) r total → total ≡ scan O K (hit O intersection q) N 0 r
  intersection-agrees ld ss e r total g z =
      let p : Perm (scorers_from 0 q) (ld ∷ ss) = subst (Perm (scorers_from 0 q)) e (sort-perm size_hint (scorers_from 0 q)) in
      let pq : Perm q (ld.list ∷ lists ss) = subst (λ z. Perm z (ld.list ∷ lists ss)) (fresh-lists 0 q) (perm-map (λ s. s.list) p) in
      leader-agrees G E Q pq ld ss r g (all-perm (Sc B N Z 0) p (fresh-fit B N Z 0 q Q.all-ok)) refl refl total z
