-- What an intersection's documents are, with the leader first: their sums, and the leader's candidates in a window.
use mathlib.Core.Bool.{Bool, false}
use mathlib.Core.List.{List, [], map, ◌++◌, ◌∷◌}
use mathlib.Core.Option.{some}
use mathlib.Core.Path.{ap, refl, subst, sym, ◌∙◌, ◌≡◌}
use Prim.Native.Nat.{suc, zero, ℕ, ◌+◌, ◌<◌, ◌≤◌}
use native.Mathlib.Omega.{arith}
use lib.Dec.{leb, ltb}
use lib.ListN.{length, length-map}
use borrow.Author.Tests.{ltb-false, ltb-true}
use Rattle.arrays.specs.Every.{All}
use Rattle.route.specs.Score.{Ops, sum}
use Rattle.route.specs.Report.{Report}
use Rattle.route.specs.Postings.{Postings, score_of}
use Rattle.route.specs.Plain.{all_of, hit, intersection, opt_list, present, total_of}
use Rattle.route.specs.Scorer.{Scorer, max_score}
use Rattle.route.specs.Intersection.{candidates_from, max_score_sum}
use Rattle.route.proofs.Cases.{by-test, on_test}
use Rattle.route.proofs.Lists.{Perm, all_map, all-perm, perm-length}
use Rattle.route.proofs.Order.{LowOf, Ordered}
use Rattle.route.proofs.ListLaws.{Accepted}
use Rattle.route.proofs.Places.{doc-le}
use Rattle.route.proofs.Looking.{score-all}
use Rattle.route.proofs.Sums.{Dom, Exact, Sums, d-keep, d-nil, dom-opt, total-eq}
use Rattle.route.proofs.Scorers.{QueryOk, lists, present-length, present-ok, present-perm}
use Rattle.route.proofs.Hits.{Every, e-all, e-not, every}
use Rattle.route.proofs.Intersection.Candidate.{Bnd, bnd-dom, one-sum}

module _ {B N : ℕ} {O : Ops} {L : Ordered O} {M : ℕ} {Z : Sums O L M} (E : Exact O L M Z) {q : List (Postings O.S)} (Q : QueryOk B N Z q)
    {ll : Postings O.S} {sl : List (Postings O.S)} (pm : Perm q (ll ∷ sl)) where
  abbrev T : Type 0
  T = Scorer O.S

  abbrev Pl : Type 0
  Pl = Postings O.S

  abbrev tps : List Pl → List O.S
  tps ls = map (λ l. l.top) ls

  abbrev pub scores_at : ℕ → List O.S
  scores_at d = present d (ll ∷ sl)

  pub parts-ok : All (Accepted B N O L Z.Ok) (ll ∷ sl)
  parts-ok = all-perm (Accepted B N O L Z.Ok) pm Q.all-ok

  pub parts-few : suc (length sl) ≡ length q
  parts-few = sym (perm-length pm)

  pub all-low : (d : ℕ) (t : O.S) → (length (scores_at d) ≡ suc (length sl) → L.rank (sum O (scores_at d)) ≤ L.rank t)
      → LowOf O L (hit O intersection q d) t
  all-low d t f = go (every d q)
    where
      pp : Perm (present d q) (scores_at d)
      pp = present-perm d pm

      low : (xs : List O.S) → Perm xs (scores_at d) → All Z.Ok xs → length xs ≡ length q → LowOf O L (total_of O xs) t
      low xs p a e =
          let l = perm-length p in
          let w = parts-few in
          subst (λ o. LowOf O L o t) (sym (total-eq Z p a (omega arith) (omega arith))) (f (omega arith))

      go : Every d q → LowOf O L (hit O intersection q d) t
      go (e-all a b) = subst (λ o. LowOf O L (all_of O o) t) (sym a) (low (present d q) pp (present-ok B N Z d q Q.all-ok) b)
      go (e-not a b) = subst (λ o. LowOf O L (all_of O o) t) (sym a) tt

  pub all-some : (d : ℕ) → length (scores_at d) ≡ suc (length sl) → hit O intersection q d ≡ some (sum O (scores_at d))
  all-some d h = go (every d q)
    where
      pp : Perm (present d q) (scores_at d)
      pp = present-perm d pm

      go : Every d q → hit O intersection q d ≡ some (sum O (scores_at d))
      go (e-all a b) = ap (all_of O) a ∙ total-eq Z pp (present-ok B N Z d q Q.all-ok) (omega arith) (omega (arith, parts-few))
      go (e-not a b) = absurd (omega (arith, perm-length pp, parts-few))

  pub tops-low : (d : ℕ) (t : O.S) → L.rank (sum O (tps (ll ∷ sl))) ≤ L.rank t → LowOf O L (hit O intersection q d) t
  tops-low d t h =
      all-low d t (λ e.
      let dm = dom-of (ll ∷ sl) parts-ok in
      let ok = all_map (Accepted B N O L Z.Ok) Z.Ok (λ l. l.top) (ll ∷ sl) (λ l g. g.vals.top-ok) parts-ok in
      let lm = length-map (ll ∷ sl) (λ l. l.top) in
      omega (arith, Z.sum_mono dm (present-ok B N Z d (ll ∷ sl) parts-ok) ok (omega (arith, parts-few))))
    where
      dom-of : (ls : List Pl) → All (Accepted B N O L Z.Ok) ls → Dom O L (present d ls) (tps ls)
      dom-of [] a = d-nil
      dom-of (l ∷ ls) a = dom-opt O L (score_of l d) l.top
          (score-all l (λ o. LowOf O L o l.top) d tt (λ i m e. a.0.vals.top-covers i m))
          (dom-of ls a.1)

  pub top-sum : (ld : T) (ss : List T) → ld.list ≡ ll → lists ss ≡ sl → max_score_sum O ld ss ≡ sum O (tps (ll ∷ sl))
  top-sum ld ss e f =
      let ok = all_map (Accepted B N O L Z.Ok) Z.Ok (λ l. l.top) sl (λ l g. g.vals.top-ok) parts-ok.1 in
      let lm = length-map sl (λ l. l.top) in
      ap (λ l. O.add l.top (sum O (map max_score ss))) e
      ∙ ap (λ z. O.add ll.top (sum O z)) (tops-of ss ∙ ap tps f)
      ∙ one-sum B N E ll.top (tps sl) parts-ok.0.vals.top-ok ok (omega (arith, parts-few))
    where
      tops-of : (ss : List T) → map max_score ss ≡ tps (lists ss)
      tops-of [] = refl
      tops-of (s ∷ ss) = ap (λ z. s.list.top ∷ z) (tops-of ss)

  pub top-fin : L.Fin (sum O (tps (ll ∷ sl)))
  top-fin =
      Z.sum-fin (tps (ll ∷ sl)) (all_map (Accepted B N O L Z.Ok) Z.Ok (λ l. l.top) (ll ∷ sl) (λ l g. g.vals.top-ok) parts-ok)
      (omega (arith, parts-few, length-map (ll ∷ sl) (λ l. l.top)))

  -- ---- candidates

  module _ (bs : List O.S) (e tr : ℕ) where
    -- place j of the leader can be no report of this window
    abbrev pub LowC : ℕ → Type 0
    LowC j = L.rank (sum O (ll.score j ∷ bs)) ≤ tr

    abbrev pub CandsOk : ℕ → List (Report O.S) → Type 0
    CandsOk f [] = (j : ℕ) → j < ll.len → f ≤ ll.doc j → ll.doc j ≤ e → LowC j
    CandsOk f (c ∷ cs) =
        (i : ℕ) × (i < ll.len) × (ll.doc i ≡ c.doc) × (ll.score i ≡ c.score) × (f ≤ c.doc) × (c.doc ≤ e)
        × ((j : ℕ) → j < ll.len → f ≤ ll.doc j → ll.doc j < c.doc → LowC j) × CandsOk (suc c.doc) cs

    -- a window's documents, by the leader's places
    pub range-low : (d : ℕ) (t : O.S) → tr ≤ L.rank t → Bnd B N E d sl bs → ((j : ℕ) → j < ll.len → ll.doc j ≡ d → LowC j)
        → LowOf O L (hit O intersection q d) t
    range-low d t h b f =
        (score-all ll (λ o. score_of ll d ≡ o → LowOf O L (hit O intersection q d) t) d
        (λ u. all-low d t (λ n.
        let p = present-length d sl in
        let z : length (scores_at d) ≡ length (present d sl) = ap (λ o. length (opt_list o ++ present d sl)) u in
        absurd (omega arith)))
        (λ j m n u. all-low d t (λ w.
        let bd = bnd-dom B N E d sl bs b in
        let bl = bd.2 in
        let z : sum O (scores_at d) ≡ sum O (ll.score j ∷ present d sl) = ap (λ o. sum O (opt_list o ++ present d sl)) u in
        let z' = ap L.rank z in
        let ok = parts-ok.0.vals.score-ok j m in
        let mono = Z.sum_mono (d-keep (ll.score j) (ll.score j) (omega arith) bd.0) (ok, present-ok B N Z d sl parts-ok.1) (ok, bd.1)
        (omega (arith, parts-few)) in
        omega (arith, f j m n))))
        refl

    pub cands-down : (f p : ℕ) (cs : List (Report O.S)) → p < ll.len → f ≤ ll.doc p → LowC p → ((j : ℕ) → j < ll.len → f ≤ ll.doc j → p ≤ j)
        → CandsOk (suc (ll.doc p)) cs → CandsOk f cs
    cands-down f p [] m h lo from k = λ j a b c. at-or (leb (suc (ll.doc p)) (ll.doc j)) refl j a b c
      where
        at-or : (t : Bool) → (x : t ≡ t) (j : ℕ) → j < ll.len → f ≤ ll.doc j → ll.doc j ≤ e → LowC j
        at-or t x j a b c =
            on_test (ltb p j) (λ u. k j a (omega (arith, parts-ok.0.ok.rises p j (ltb-true p j u) a)) c)
            (λ u. let w = ltb-false p j u in let y = from j a b in let z : p ≡ j = omega arith in subst LowC z lo)
    cands-down f p (c ∷ cs) m h lo from (i, i1, i2, i3, i4, i5, i6, i7) = (
      i,
      i1,
      i2,
      i3,
      omega arith,
      i5,
      λ j a b d. on_test (ltb p j) (λ u. i6 j a (omega (arith, parts-ok.0.ok.rises p j (ltb-true p j u) a)) d)
          (λ u. let w = ltb-false p j u in let y = from j a b in let z : p ≡ j = omega arith in subst LowC z lo),
      i7,
    )

    pub gather : (t : O.S) → ((i : ℕ) → i < ll.len → O.above (ll.score i) t ≡ false → LowC i)
        → (n p f : ℕ) → p + n ≤ ll.len → ((j : ℕ) → j < ll.len → f ≤ ll.doc j → p ≤ j) → ((j : ℕ) → j < ll.len → p + n ≤ j → e < ll.doc j)
        → ((j : ℕ) → p ≤ j → j < p + n → (f ≤ ll.doc j) × (ll.doc j ≤ e)) → CandsOk f (candidates_from O ll t n p)
    gather t lo zero p f h from far near = λ j a b c. absurd (omega (arith, far j a (omega (arith, from j a b))))
    gather t lo (suc n) p f h from far near =
        let k = parts-ok.0.ok in
        let np = near p (omega arith) (omega arith) in
        let ih : CandsOk (suc (ll.doc p)) (candidates_from O ll t n (suc p)) =
        gather t lo n (suc p) (suc (ll.doc p)) (omega arith)
        (λ j a b. on_test (ltb p j) (λ u. ltb-true p j u) (λ u. absurd (omega (arith, doc-le B N ll k j p (ltb-false p j u) (omega arith)))))
        (λ j a b. far j a (omega arith))
        (λ j a b. (omega (arith, k.rises p j (omega arith) (omega arith)), (near j (omega arith) (omega arith)).1)) in
        by-test (CandsOk f) (O.above (ll.score p) t) (record { doc = ll.doc p; score = ll.score p } ∷ candidates_from O ll t n (suc p))
        (candidates_from O ll t n (suc p))
        (λ u. (p, omega arith, refl, refl, np.0, np.1, (λ j a b c. absurd (omega (arith, doc-le B N ll k p j (from j a b) a))), ih))
        (λ u. cands-down f p (candidates_from O ll t n (suc p)) (omega arith) np.0 (lo p (omega arith) u) from ih)
