-- A union's state between turns: the frontier up to which the plain scan has come, and why documents that a pivot passes are no reports.
use mathlib.Core.List.{List, [], append-nil, map, ◌++◌}
use mathlib.Core.Option.{none}
use mathlib.Core.Path.{ap, subst, sym, ◌∙◌, ◌≡◌}
use Prim.Native.Nat.{ℕ, ◌<◌, ◌≤◌}
use native.Mathlib.Omega.{arith}
use lib.ListN.{length, length-append, length-map}
use Rattle.arrays.specs.Every.{All}
use Rattle.route.specs.Score.{Ops, sum}
use Rattle.route.specs.Report.{Callback, reported}
use Rattle.route.specs.Postings.{Postings, TERMINATED}
use Rattle.route.specs.Plain.{hit, present, union}
use Rattle.route.specs.Scorer.{Scorer, doc_of, last_doc_in_block, max_score}
use Rattle.route.specs.Route.{Turn}
use Rattle.route.specs.Union.{Pivot, UnionPlace}
use Rattle.route.specs.Inner.Orders.{Sorted}
use Rattle.route.proofs.Lists.{Perm, all_append, all_back, all-front, all-imp}
use Rattle.route.proofs.Order.{FinOf, LowOf, NeverFalls, Ordered}
use Rattle.route.proofs.Scan.{pass_all, rest}
use Rattle.route.proofs.Sums.{Dom, Sums, dom-length, total-low}
use Rattle.route.proofs.Scorers.{QueryOk, Sc, absent-all, contrib, contrib-app, contrib-ok, dom-tops, present-length, present-ok, tops-ok}
use Rattle.route.proofs.Union.Pivot.{CutIs, CutOk}
use Rattle.route.proofs.Hits.{hit-fin}
use Rattle.route.proofs.Union.Lag.{Lag}
use Rattle.route.proofs.Union.Landed.{landed}

module _ {B N : ℕ} {O : Ops} {L : Ordered O} {K : Callback O.S} (G : NeverFalls O L K) {M : ℕ} {Z : Sums O L M}
    {q : List (Postings O.S)} (Q : QueryOk B N Z q) where
  abbrev T : Type 0
  T = Scorer O.S

  abbrev Fit : ℕ → T → Type 0
  Fit f s = Sc B N Z f s

  abbrev pub hits-fin : (d : ℕ) → FinOf O L (hit O union q d)
  hits-fin = hit-fin B N Z union q Q.all-ok Q.few

  -- what the plain scan makes of the documents from a on
  abbrev pub Rest : ℕ → K.State → K.State
  Rest a r = rest G (hit O union q) hits-fin N a r

  -- from f on the scorers' lists have each document's scores, in some order
  abbrev pub Same : ℕ → List T → Type 0
  Same f ss = (d : ℕ) → f ≤ d → Perm (present d q) (contrib d ss)

  -- Between turns: scanning on from the frontier f with the reports r gives the whole list, the scorers have passed nothing from f
  -- on, and those that stand behind f cannot exceed the threshold.
  pub record Inv (total : K.State) (f : ℕ) (ss : List T) (r : K.State) : Type 0 where
    pub cap : f ≤ TERMINATED
    pub scs : All (Fit f) ss
    pub order : Sorted doc_of ss
    pub few : length ss ≤ M
    pub same : Same f ss
    pub left : Rest f r ≡ total
    pub good : G.Good r
    pub lag : Lag B N Z f (K.threshold r) ss

  -- a document is no report if its scores are dominated by bounds whose sum is not above the threshold
  pub low_by : (f d : ℕ) (t : O.S) (ss : List T) (bs : List O.S) → Same f ss → f ≤ d → All (Fit f) ss → Dom O L (contrib d ss) bs → All Z.Ok bs
      → length bs ≤ M
      → (0 < length bs → L.rank (sum O bs) ≤ L.rank t) → LowOf O L (hit O union q d) t
  low_by f d t ss bs s h a dm ok ln lo =
      let pl = present-length d q in
      total-low Z t (s d h) (present-ok B N Z d q Q.all-ok) (omega arith)
      (λ e.
      let dl = dom-length O L dm in
      omega (arith, Z.sum_mono dm (contrib-ok B N Z f d ss a) ok ln, lo (omega arith)))

  pub dom-front : (f d : ℕ) (bs : List O.S) (pre back : List T) → All (Fit f) back → f ≤ d → All (λ s. d < doc_of s) back
      → Dom O L (contrib d pre) bs → Dom O L (contrib d (pre ++ back)) bs
  dom-front f d bs pre back a h b dm =
      subst (λ z. Dom O L z bs) (sym (contrib-app d pre back ∙ ap (λ z. contrib d pre ++ z) (absent-all B N Z f d back a h b) ∙ append-nil
      (contrib d pre))) dm

  pub stop-none : (total : K.State) (f : ℕ) (ss : List T) (r : K.State) → Inv total f ss r → CutIs B N Z (K.threshold r) [] ss none → r ≡ total
  stop-none total f ss r i c =
      sym (pass_all G (hit O union q) hits-fin N f r i.good
      (λ d a b.
      let lm = length-map ss max_score in
      let fw = i.few in
      low_by f d (K.threshold r) ss (map max_score ss) i.same a i.scs (dom-tops B N Z f d ss i.scs) (tops-ok B N Z f ss i.scs)
      (omega arith)
      (λ e. c (omega arith))))
      ∙ i.left

  -- what the cut tells of documents before the pivot
  pub cut_low : (total : K.State) (f d : ℕ) (ss : List T) (r : K.State) (c : Pivot O.S) → Inv total f ss r → CutOk B N Z (K.threshold r) [] ss c
      → f ≤ d → d < c.doc → LowOf O L (hit O union q d) (K.threshold r)
  cut_low total f d ss r c i k a b =
      let sp = k.shape.split in
      let scs' = subst (All (Fit f)) sp i.scs in
      let pre = all-front (Fit f) c.pre (c.piv ++ c.post) scs' in
      let back = all_back (Fit f) c.pre (c.piv ++ c.post) scs' in
      let ln = ap length sp in
      let la = length-append c.pre (c.piv ++ c.post) in
      let lm = length-map c.pre max_score in
      let fw = i.few in
      low_by f d (K.threshold r) (c.pre ++ (c.piv ++ c.post)) (map max_score c.pre) (subst (Same f) sp i.same) a scs'
      (dom-front f d (map max_score c.pre) c.pre (c.piv ++ c.post) back a
      (all_append (λ s. d < doc_of s) c.piv c.post
      (all-imp (λ s. doc_of s ≡ c.doc) (λ s. d < doc_of s) c.piv (λ s e. omega arith) k.shape.on)
      (all-imp (λ s. c.doc < doc_of s) (λ s. d < doc_of s) c.post (λ s e. omega arith) k.shape.post-gt))
      (dom-tops B N Z f d c.pre pre))
      (tops-ok B N Z f c.pre pre) (omega arith) (λ e. k.low (omega arith))

  pub stop-end : (total : K.State) (f : ℕ) (ss : List T) (r : K.State) (c : Pivot O.S) → Inv total f ss r → CutOk B N Z (K.threshold r) [] ss c
      → c.doc ≡ TERMINATED → r ≡ total
  stop-end total f ss r c i k e =
      sym (pass_all G (hit O union q) hits-fin N f r i.good (λ d a b. cut_low total f d ss r c i k a (omega arith))) ∙ i.left

  -- what a turn from r leaves, at some frontier, once the scorers have landed
  abbrev pub Carries : K.State → K.State → Turn (UnionPlace O.S) O.S → Type 0
  Carries total r u = (f : ℕ) × Inv total f (landed B u.next) (reported K u.due r)

  -- scorers before the pivot's documents, shallowly sought: what is known of them
  pub record Ready (total : K.State) (f p : ℕ) (ps post : List T) (r : K.State) : Type 0 where
    pub cap : f ≤ TERMINATED
    pub scs : All (Fit f) (ps ++ post)
    pub order : Sorted doc_of (ps ++ post)
    pub few : length (ps ++ post) ≤ M
    pub same : Same f (ps ++ post)
    pub left : Rest f r ≡ total
    pub good : G.Good r
    pub covers : All (λ s. p ≤ last_doc_in_block B s) ps
    pub post-gt : All (λ s. p < doc_of s) post
    pub ps-le : All (λ s. doc_of s ≤ p) ps
    pub live : p < TERMINATED
