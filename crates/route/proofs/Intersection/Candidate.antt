-- A candidate against the secondaries: found with its sum if all have it, and dropped only if its sum cannot exceed the threshold.
use mathlib.Core.Bool.{cond}
use mathlib.Core.List.{List, [], append_assoc, append-nil, map, ◌++◌, ◌∷◌}
use mathlib.Core.Option.{Option, none, some}
use mathlib.Core.Path.{ap, refl, subst, sym, ◌∙◌, ◌≡◌}
use Prim.Native.Nat.{suc, ℕ, ◌+◌, ◌<◌, ◌≤◌}
use native.Mathlib.Omega.{arith}
use lib.Dec.{eqb, ltb}
use lib.ListN.{length, length-append, length-map}
use borrow.Author.Tests.{eqb-false, eqb-true, ltb-true}
use Rattle.arrays.specs.Every.{All}
use Rattle.route.specs.Score.{Ops, sum, sum_back}
use Rattle.route.specs.Postings.{Postings, TERMINATED, score_of}
use Rattle.route.specs.Plain.{opt_list, present}
use Rattle.route.specs.Scorer.{Scorer, block_max_score, doc_of, last_doc_in_block, score_here, seek}
use Rattle.route.specs.Intersection.{Tried, dropped, push_sec, try_candidate}
use Rattle.route.proofs.Cases.{by-test, lt_of_ne}
use Rattle.route.proofs.Lists.{Perm, all_append, all_map, perm_middle, perm-sym}
use Rattle.route.proofs.Order.{LowOf, Ordered, above-false}
use Rattle.route.proofs.ListLaws.{Accepted}
use Rattle.route.proofs.Places.{doc_at-in, doc_at-lt}
use Rattle.route.proofs.Looking.{score-at}
use Rattle.route.proofs.Sums.{Dom, Exact, Sums, d-nil, dom-append, dom-opt, dom-refl, sum-snoc}
use Rattle.route.proofs.Scorers.{Sc, absent, block-low, blocks-ok, lists, present-length, present-ok, sc-seek, sc-up, seek-lands}

module _ (B N : ℕ) {O : Ops} {L : Ordered O} {M : ℕ} {Z : Sums O L M} (E : Exact O L M Z) where
  abbrev T : Type 0
  T = Scorer O.S

  abbrev Pl : Type 0
  Pl = Postings O.S

  abbrev Fit : ℕ → T → Type 0
  Fit f s = Sc B N Z f s

  abbrev bbs : List T → List O.S
  bbs ss = map (block_max_score B O) ss

  -- ---- sums

  pub one-sum : (x : O.S) (ys : List O.S) → Z.Ok x → All Z.Ok ys → suc (length ys) ≤ M → O.add x (sum O ys) ≡ sum O (x ∷ ys)
  one-sum x ys k a h = ap (λ z. O.add z (sum O ys)) (sym (Z.sum_one x k)) ∙ E.sum-app (x ∷ []) ys (k, tt) a (omega arith)

  pub back_sum : (bs : List O.S) → All Z.Ok bs → length bs ≤ M → sum_back O bs ≡ sum O bs
  back_sum [] a h = refl
  back_sum (b ∷ bs) a h =
      let la = length-append bs (b ∷ []) in
      ap (λ z. O.add z b) (back_sum bs a.1 (omega arith)) ∙ sym (sum-snoc O L O.nil bs b)
      ∙ Z.sum-perm (subst (λ z. Perm (bs ++ (b ∷ [])) (b ∷ z)) (append-nil bs) (perm-sym (perm_middle b bs [])))
      (all_append Z.Ok bs (b ∷ []) a.1 (a.0, tt)) (omega arith)

  -- ---- the secondaries' bounds at document c

  abbrev pub Bnd : ℕ → List Pl → List O.S → Type 0
  Bnd c [] [] = Unit {0}
  Bnd c [] (b ∷ bs) = ⊥
  Bnd c (l ∷ ls) [] = ⊥
  Bnd c (l ∷ ls) (b ∷ bs) = LowOf O L (score_of l c) b × Z.Ok b × Bnd c ls bs

  pub bnd-dom : (c : ℕ) (ls : List Pl) (bs : List O.S) → Bnd c ls bs → Dom O L (present c ls) bs × All Z.Ok bs × (length bs ≡ length ls)
  bnd-dom c [] [] h = (d-nil, tt, refl)
  bnd-dom c [] (b ∷ bs) h = absurd h
  bnd-dom c (l ∷ ls) [] h = absurd h
  bnd-dom c (l ∷ ls) (b ∷ bs) h = let r = bnd-dom c ls bs h.2 in (dom-opt O L (score_of l c) b h.0 r.0, (h.1, r.1), ap suc r.2)

  pub bnd-of : (f c : ℕ) (ss : List T) → All (Fit f) ss → f ≤ c → All (λ s. c ≤ last_doc_in_block B s) ss → Bnd c (lists ss) (bbs ss)
  bnd-of f c [] a h b = tt
  bnd-of f c (s ∷ ss) a h b = (block-low B N Z f c s a.0 h b.0, (blocks-ok B N Z f (s ∷ []) (a.0, tt)).0, bnd-of f c ss a.1 h b.1)

  -- ---- a candidate

  abbrev pub Found : ℕ → O.S → List O.S → List Pl → Option O.S → Type 0
  Found c t done ls (some x) = (x ≡ sum O (done ++ present c ls)) × (length (present c ls) ≡ length ls)
  Found c t done ls none = length (present c ls) ≡ length ls → L.rank (sum O (done ++ present c ls)) ≤ L.rank t

  pub record TryOk (c : ℕ) (t : O.S) (done : List O.S) (ss : List T) (r : Tried O.S) : Type 0 where
    pub fits : All (Fit c) r.secs
    pub same : lists r.secs ≡ lists ss
    pub found-is : Found c t done (lists ss) r.found

  pub lacks : (c : ℕ) (t : O.S) (done : List O.S) (l : Pl) (ls : List Pl) → score_of l c ≡ none → Found c t done (l ∷ ls) none
  lacks c t done l ls e n =
      let p = present-length c ls in
      let z : length (present c (l ∷ ls)) ≡ length (present c ls) = ap (λ o. length (opt_list o ++ present c ls)) e in
      absurd (omega arith)

  pub push-try : (c : ℕ) (t : O.S) (done : List O.S) (s s' : T) (ss : List T) (r : Tried O.S) (x : O.S) → Fit c s' → s'.list ≡ s.list
      → score_of s.list c ≡ some x
      → TryOk c t (done ++ (x ∷ [])) ss r → TryOk c t done (s ∷ ss) (push_sec s' r)
  push-try c t done s s' ss r x f e h k =
      record { fits = (f, k.fits); same = λ i. e i ∷ k.same i; found-is = go r.found k.found-is }
    where
      P : List O.S
      P = present c (lists ss)

      here : present c (lists (s ∷ ss)) ≡ x ∷ P
      here = ap (λ o. opt_list o ++ P) h

      assoc : sum O ((done ++ (x ∷ [])) ++ P) ≡ sum O (done ++ present c (lists (s ∷ ss)))
      assoc = ap (sum O) (append_assoc done (x ∷ []) P ∙ ap (λ z. done ++ z) (sym here))

      go : (o : Option O.S) → Found c t (done ++ (x ∷ [])) (lists ss) o → Found c t done (lists (s ∷ ss)) o
      go none g = λ n. let w = ap length here in let a = ap L.rank assoc in let m = g (omega arith) in omega arith
      go (some y) g = (g.0 ∙ assoc, ap length here ∙ ap suc g.1)

  pub try-is : (f c : ℕ) (t : O.S) (done : List O.S) (ss : List T) (bs : List O.S) → f ≤ c → c < TERMINATED → L.Fin t → All (Fit f) ss
      → Bnd c (lists ss) bs
      → All Z.Ok done → length done + length ss ≤ M → TryOk c t done ss (try_candidate B O c t (sum O done) ss bs)
  try-is f c t done [] bs h lv ft a b ok ln = record { fits = tt; same = refl; found-is = (ap (sum O) (sym (append-nil done)), refl) }
  try-is f c t done (s ∷ ss) [] h lv ft a b ok ln = absurd b
  try-is f c t done (s ∷ ss) (b0 ∷ bs) h lv ft a b ok ln =
      let s' = seek B c s in
      let sc = score_here s' in
      let up = sc-up B N Z f c (s ∷ ss) h a in
      let s'-fit = sc-seek B N Z c c s (omega arith) (omega arith) up.0 in
      let lands = (seek-lands B N Z c c s (omega arith) up.0).0 in
      let tot : O.S = O.add (sum O done) sc in
      let tot-is : sum O (done ++ (sc ∷ [])) ≡ tot = sum-snoc O L O.nil done sc in
      let on = try_candidate B O c t tot ss bs in
      by-test (TryOk c t done (s ∷ ss)) (ltb c (doc_of s)) (dropped (s ∷ ss))
      (cond (eqb (doc_of s') c) (cond (O.above (O.add tot (sum_back O bs)) t) (push_sec s' on) (dropped (s' ∷ ss))) (dropped (s' ∷ ss)))
      (λ e. record { fits = up; same = refl; found-is = lacks c t done s.list (lists ss) (absent B N Z f c s a.0 h (ltb-true c (doc_of s) e)) })
      (λ _.
      by-test (TryOk c t done (s ∷ ss)) (eqb (doc_of s') c) (cond (O.above (O.add tot (sum_back O bs)) t) (push_sec s' on) (dropped (s' ∷ ss)))
      (dropped (s' ∷ ss))
      (λ e.
      let at = eqb-true (doc_of s') c e in
      let g = a.0.good in
      let i = doc_at-lt B N s.list g.ok s'.cur.at (omega arith) in
      let di : s.list.doc s'.cur.at ≡ c = sym (doc_at-in B N s.list g.ok s'.cur.at i) ∙ at in
      let so : score_of s.list c ≡ some sc = subst (λ z. score_of s.list z ≡ some sc) di
      (score-at s.list B N g.ok (s.list.doc s'.cur.at) s'.cur.at i refl) in
      let oks = g.vals.score-ok s'.cur.at i in
      let ok' = all_append Z.Ok done (sc ∷ []) ok (oks, tt) in
      let bd = bnd-dom c (lists ss) bs b.2 in
      let bl = bd.2 in
      let ls = length-map ss (λ z. z.list) in
      let l1 = length-append done (sc ∷ []) in
      let P : List O.S = present c (lists ss) in
      by-test (TryOk c t done (s ∷ ss)) (O.above (O.add tot (sum_back O bs)) t) (push_sec s' on) (dropped (s' ∷ ss))
      (λ u. push-try c t done s s' ss on sc s'-fit refl so
      (subst (λ z. TryOk c t (done ++ (sc ∷ [])) ss (try_candidate B O c t z ss bs)) tot-is
      (try-is f c t (done ++ (sc ∷ [])) ss bs h lv ft a.1 b.2 ok' (omega arith))))
      (λ u. record {
        fits = (s'-fit, up.1);
        same = refl;
        found-is = λ n.
            let ub : O.add tot (sum_back O bs) ≡ sum O ((done ++ (sc ∷ [])) ++ bs) =
            ap (λ z. O.add z (sum_back O bs)) (sym tot-is) ∙ ap (O.add (sum O (done ++ (sc ∷ [])))) (back_sum bs bd.1 (omega arith))
            ∙ E.sum-app (done ++ (sc ∷ [])) bs ok' bd.1 (omega arith) in
            let okb = all_append Z.Ok (done ++ (sc ∷ [])) bs ok' bd.1 in
            let l2 = length-append (done ++ (sc ∷ [])) bs in
            let fu : L.Fin (O.add tot (sum_back O bs)) = subst L.Fin (sym ub) (Z.sum-fin ((done ++ (sc ∷ [])) ++ bs) okb (omega arith)) in
            let lo = above-false O L (O.add tot (sum_back O bs)) t fu ft u in
            let lo' = ap L.rank ub in
            let ok_p = present-ok B N Z c (lists ss) (all_map (Fit f) (Accepted B N O L Z.Ok) (λ z. z.list) ss (λ z w. w.good) a.1) in
            let mono = Z.sum_mono (dom-append O L (dom-refl O L (done ++ (sc ∷ []))) bd.0) (all_append Z.Ok (done ++ (sc ∷ [])) P ok' ok_p) okb
            (omega arith) in
            let re : sum O ((done ++ (sc ∷ [])) ++ P) ≡ sum O (done ++ present c (lists (s ∷ ss))) = ap (sum O)
            (append_assoc done (sc ∷ []) P ∙ ap (λ o. done ++ (opt_list o ++ P)) (sym so)) in
            let re' = ap L.rank re in
            omega arith;
      }))
      (λ e.
      let ne = eqb-false (doc_of s') c e in
      let gt : c < doc_of s' = lt_of_ne (omega arith) (λ u. ne (sym u)) in
      record { fits = (s'-fit, up.1); same = refl; found-is = lacks c t done s.list (lists ss) (absent B N Z c c s' s'-fit (omega arith) gt) }))
