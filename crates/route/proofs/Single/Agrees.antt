-- The single route reports what the plain scan of its list reports, since every block that it leaves out is covered by a bound.
use mathlib.Core.Bool.{cond, false≢true, true}
use mathlib.Core.Option.{some}
use mathlib.Core.Path.{ap, refl, subst, sym, ◌∙◌, ◌≡◌}
use Prim.Native.Nat.{suc, zero, ℕ, ◌<◌, ◌≤◌}
use native.Mathlib.Nat.{sub-zero}
use native.Mathlib.Omega.{arith}
use lib.Dec.{eqb, ltb}
use borrow.Author.Tests.{eqb-false, eqb-true, ltb-false, ltb-true}
use Rattle.route.specs.Score.{Ops}
use Rattle.route.specs.Report.{Callback, offer, reported}
use Rattle.route.specs.Postings.{Postings, TERMINATED, doc_at, last_doc, score_of}
use Rattle.route.specs.Plain.{scan, turn_of}
use Rattle.route.specs.Cursor.{Cursor, advance_in, block_max, doc_here, fresh, seek_in}
use Rattle.route.specs.Route.{Ends, Route, after}
use Rattle.route.specs.Single.{Phase, SinglePlace, block_wand_single_scorer, called, hunt, hunt_turn, is_over, landed, leave, over, passed, single_by, walk, walk_turn}
use Rattle.route.specs.Inner.Lists.{ListOk}
use Rattle.route.specs.Inner.Cursors.{Past, Wf}
use Rattle.route.proofs.Cases.{by-test, lt_of_ne, on_test}
use Rattle.route.proofs.Order.{FinOf, LowOf, NeverFalls, Ordered, Values, above-false}
use Rattle.route.proofs.Scan.{offer-good, pass_all, pass-to, rest, rest-turn}
use Rattle.route.proofs.ListLaws.{ScoresOk}
use Rattle.route.proofs.Places.{doc_at-cap, doc_at-in, doc_at-le, doc_at-lt, doc_at-rises, last-cap, last-le, last_out, le-last, start-le, start-suc}
use Rattle.route.proofs.Cursor.{advance-is, fresh-is, on-block, past_up, seek_is, seek_block-is}
use Rattle.route.proofs.Bounds.{block-covers, block-fin}
use Rattle.route.proofs.Looking.{score-all, score-at}

module _ (B N : ℕ) {O : Ops} {L : Ordered O} {K : Callback O.S} (G : NeverFalls O L K)
    {P : O.S → Type 0} (vs : Values O L P) (l : Postings O.S) (k : ListOk B N l) (v : ScoresOk B O L P l) where
  fin : (d : ℕ) → FinOf O L (score_of l d)
  fin d = score-all l (FinOf O L) d tt (λ i h e. vs.fin (l.score i) (v.score-ok i h))

  -- the reports from a on
  Rest : ℕ → K.State → K.State
  Rest a r = rest G (score_of l) fin N a r

  -- a document is no report if no place of the list that holds it is
  low : (d : ℕ) (t : O.S) → ((i : ℕ) → i < l.len → l.doc i ≡ d → L.rank (l.score i) ≤ L.rank t) → LowOf O L (score_of l d) t
  low d t f = score-all l (λ o. LowOf O L o t) d tt f

  -- where the reports end up
  module _ (total : K.State) where
    InvBy : Phase → Cursor → ℕ → K.State → Type 0
    InvBy hunt c d r = Wf B l c × Past B l c d × (d ≤ last_doc l B c.blk) × (Rest d r ≡ total) × G.Good r
    InvBy walk c d r = Wf B l c × Past B l c d × (d ≡ doc_here l c) × (d < TERMINATED) × (Rest d r ≡ total) × G.Good r
    -- its document is reported
    InvBy called c d r = Wf B l c × Past B l c d × (d ≡ doc_here l c) × (d < TERMINATED) × (Rest (suc d) r ≡ total) × G.Good r
    InvBy over c d r = r ≡ total

    Inv : SinglePlace → K.State → Type 0
    Inv p r = InvBy p.phase p.cur p.doc r

    landed-inv : (c : Cursor) (x : ℕ) (r : K.State) → Wf B l c → Past B l c x → x ≤ doc_here l c → Rest x r ≡ total → G.Good r
        → Inv (landed B O l c) r
    unfolding Inv InvBy Rest
    landed-inv c x r w p h e g =
        on_test (eqb (doc_here l c) TERMINATED)
        (λ t.
        let q = eqb-true (doc_here l c) TERMINATED t in
        rw t
        (sym (pass_all G (score_of l) fin N x r g
        (λ d a b. low d (K.threshold r) (λ i m n.
        let s = (p i m (omega arith)).0 in
        absurd (omega (arith, doc_at-le B N l k c.at i s, doc_at-in B N l k i m, k.below i m, k.few)))))
        ∙ e))
        (λ t.
        let q = eqb-false (doc_here l c) TERMINATED t in
        let cap = doc_at-cap B N l k c.at in
        let lt : doc_here l c < TERMINATED =
        lt_of_ne (omega arith) q in
        rw t (
          w,
          past_up B N l k c x (doc_here l c) h p,
          refl,
          lt,
          sym (pass-to G (score_of l) fin N x (doc_here l c) r h g
              (λ d a b _. low d (K.threshold r) (λ i m n.
              let s = (p i m (omega arith)).0 in
              absurd (omega (arith, doc_at-le B N l k c.at i s, doc_at-in B N l k i m)))))
              ∙ e,
          g,
        ))

    leave-inv : (c : Cursor) (e : ℕ) (r : K.State) → Wf B l c → Past B l c (suc e) → e < TERMINATED → Rest (suc e) r ≡ total → G.Good r
        → Inv (leave B O l e c) r
    unfolding Inv InvBy Rest
    leave-inv c e r w p h q g =
        let s = seek_block-is B N l k (suc e) c h w in
        (s.moved.wf, s.moved.past (suc e) (omega arith) p, s.covers, q, g)

    hunt-inv : (c : Cursor) (d : ℕ) (r : K.State) → InvBy hunt c d r → Inv (hunt_turn B O l (K.threshold r) c d).next r
    unfolding Inv InvBy Rest
    hunt-inv c d r (w, p, h, e, g) =
        by-test (λ p. Inv p r) (O.above (block_max B O l c) (K.threshold r)) (landed B O l (seek_in l B d c))
        (cond (eqb (last_doc l B c.blk) TERMINATED) (record { phase = over; cur = c; doc = d }) (leave B O l (last_doc l B c.blk) c))
        (λ t.
        let s = seek_is B N l k d c (omega (arith, last-cap B N l k c.blk)) w in
        landed-inv (seek_in l B d c) d r s.moved.wf (s.moved.past d (omega arith) p) s.lands e g)
        (λ t.
        let m = above-false O L (block_max B O l c) (K.threshold r) (vs.fin (block_max B O l c) (block-fin B vs N l k v c w.in_list))
        (G.threshold-fin r g) t in
        let covered : (i : ℕ) → i < l.len → d ≤ l.doc i → l.doc i ≤ last_doc l B c.blk → L.rank (l.score i) ≤ L.rank (K.threshold r) =
        λ i a b q. omega (arith, block-covers B vs N l k v c i w.in_list a (p i a b).1 (last-le B N l k c.blk i a w.in_list q)) in
        by-test (λ p. Inv p r) (eqb (last_doc l B c.blk) TERMINATED) (record { phase = over; cur = c; doc = d })
        (leave B O l (last_doc l B c.blk) c)
        (λ u.
        let z = eqb-true (last_doc l B c.blk) TERMINATED u in
        sym (pass_all G (score_of l) fin N d r g (λ x a b. low x (K.threshold r)
        (λ i s n. covered i s (omega arith) (omega (arith, k.below i s, k.few))))) ∙ e)
        (λ u.
        let z = eqb-false (last_doc l B c.blk) TERMINATED u in
        let cap = last-cap B N l k c.blk in
        let lt : last_doc l B c.blk < TERMINATED =
        lt_of_ne (omega arith) z in
        leave-inv c (last_doc l B c.blk) r w (past_up B N l k c d (suc (last_doc l B c.blk)) (omega arith) p) lt
        (sym (pass-to G (score_of l) fin N d (suc (last_doc l B c.blk)) r (omega arith) g
        (λ x a b _. low x (K.threshold r) (λ i s n. covered i s (omega arith) (omega arith))))
        ∙ e)
        g))

    passed-inv : (c : Cursor) (d : ℕ) (s : K.State) → InvBy called c d s → Inv (passed B O l c d) s
    unfolding Inv InvBy Rest
    passed-inv c d s (w, p, q, h, e, g) =
        by-test (λ p. Inv p s) (eqb d (last_doc l B c.blk)) (leave B O l d c) (landed B O l (advance_in l B c))
        (λ t. leave-inv c d s w (past_up B N l k c d (suc d) (omega arith) p) h e g)
        (λ t.
        let o = on-block B N l k c d w p (omega arith) (omega arith) in
        let a = advance-is B N l k c w o (omega arith) in
        let nx = a.next in
        let up : suc d ≤ doc_here l (advance_in l B c) = omega (arith, doc_at-rises B N l k c.at (advance_in l B c).at (omega arith) (omega arith)) in
        landed-inv (advance_in l B c) (suc d) s a.wf (a.past (suc d) (omega arith) (past_up B N l k c d (suc d) (omega arith) p)) up e g)

    walk-inv : (c : Cursor) (d : ℕ) (r : K.State) → InvBy walk c d r
        → Inv (walk_turn B O l (K.threshold r) c d).next (offer O K d (l.score c.at) r)
    unfolding Inv InvBy Rest
    walk-inv c d r (w, p, q, h, e, g) =
        let i = doc_at-lt B N l k c.at (omega arith) in
        let f = vs.fin (l.score c.at) (v.score-ok c.at i) in
        let s : K.State = offer O K d (l.score c.at) r in
        let g' = offer-good G d (l.score c.at) r g f in
        let doc-is : l.doc c.at ≡ d = omega (arith, doc_at-in B N l k c.at i) in
        let sc : score_of l d ≡ some (l.score c.at) = subst (λ z. score_of l z ≡ some (l.score c.at)) doc-is
        (score-at l B N k (l.doc c.at) c.at i refl) in
        let turned : Rest (suc d) s ≡ total =
        ap (λ o. Rest (suc d) (turn_of O K o d r)) (sym sc)
        ∙ sym (rest-turn G (score_of l) fin N d r (omega (arith, k.below c.at i))) ∙ e in
        by-test (λ p. Inv p s) (O.above (l.score c.at) (K.threshold r)) (record { phase = called; cur = c; doc = d }) (passed B O l c d)
        (λ _. (w, p, q, h, turned, g')) (λ _. passed-inv c d s (w, p, q, h, turned, g'))

    step-inv : (ph : Phase) (c : Cursor) (d : ℕ) (r : K.State) → InvBy ph c d r
        → Inv (single_by B O l ph (K.threshold r) c d).next (reported K (single_by B O l ph (K.threshold r) c d).due r)
    unfolding Inv InvBy
    step-inv hunt c d r i = hunt-inv c d r i
    step-inv walk c d r i = walk-inv c d r i
    step-inv called c d r i = passed-inv c d r i
    step-inv over c d r i = i

    over-inv : (p : SinglePlace) (r : K.State) → is_over p.phase ≡ true → Inv p r → r ≡ total
    unfolding Inv InvBy
    over-inv p r = go p.phase
      where
        go : (ph : Phase) → is_over ph ≡ true → InvBy ph p.cur p.doc r → r ≡ total
        go hunt e i = absurd (false≢true e)
        go walk e i = absurd (false≢true e)
        go called e i = absurd (false≢true e)
        go over e i = i

  first-inv : (r : K.State) → G.Good r → Inv (Rest 0 r) (record { phase = hunt; cur = fresh; doc = doc_here l fresh }) r
  unfolding Inv InvBy Rest
  first-inv r g =
      let f = fresh-is B N l k in (
        f.0,
        f.1 (doc_at l 0),
        on_test (ltb 0 l.full)
            (λ e.
            let m = ltb-true 0 l.full e in
            let w = k.wide in
            let n : 0 < l.len = omega (arith, start-suc B 0, start-le B 1 l.full m, k.blocks) in
            omega (arith, doc_at-in B N l k 0 n, le-last B N l k 0 0 n (omega (arith, start-suc B 0))))
            (λ e. omega (arith, last_out B N l k 0 (ltb-false 0 l.full e), doc_at-cap B N l k 0)),
        sym (pass-to G (score_of l) fin N 0 (doc_at l 0) r (omega arith) g
            (λ d a b _. low d (K.threshold r) (λ i m n. absurd (omega (arith, doc_at-le B N l k 0 i (omega arith), doc_at-in B N l k i m))))),
        g,
      )

  module _ (ord : ℕ) where
    abbrev W : Route O.S
    W = block_wand_single_scorer B O (record { ord = ord; list = l; cur = fresh })

    after-inv : (r : K.State) → G.Good r → (n : ℕ) → Inv (Rest 0 r) (after K W r n).place (after K W r n).state
    unfolding Inv
    after-inv r g zero = first-inv r g
    after-inv r g (suc n) =
        let u = after K W r n in
        step-inv (Rest 0 r) u.place.phase u.place.cur u.place.doc u.state (after-inv r g n)

    -- THE SINGLE ROUTE: when it ends, its reports are the plain scan's
    pub single-agrees : (r total : K.State) → G.Good r → Ends K W r total → total ≡ scan O K (score_of l) N 0 r
    unfolding Rest
    single-agrees r total g e =
        let u = after K W r e.steps in
        sym e.leaves ∙ over-inv (Rest 0 r) u.place u.state e.ended (after-inv r g e.steps)
        ∙ ap (λ z. scan O K (score_of l) z 0 r) (sub-zero N)
