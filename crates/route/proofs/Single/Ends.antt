-- For both scorings: the single route's cursor stays in its list, and the route ends.
use mathlib.Core.Bool.{cond, false, false≢true, true, true≢false}
use mathlib.Core.List.{[]}
use mathlib.Core.Path.{ap, refl, ◌≡◌}
use Prim.Native.Nat.{pred, suc, ℕ, ◌*◌, ◌-◌, ◌<◌, ◌≤◌}
use native.Mathlib.Omega.{arith}
use lib.Dec.{eqb, ltb}
use borrow.Author.Tests.{eq-eqb, eqb-false, eqb-true, ltb-false, ltb-true}
use Rattle.route.specs.Score.{Ops}
use Rattle.route.specs.Postings.{Postings, TERMINATED, doc_at, last_doc, start}
use Rattle.route.specs.Cursor.{Cursor, advance_in, block_max, doc_here, fresh, seek_block_in, seek_in}
use Rattle.route.specs.Scorer.{Scorer}
use Rattle.route.specs.Route.{Route, quiet}
use Rattle.route.specs.Single.{Phase, SinglePlace, block_wand_single_scorer, called, hunt, hunt_turn, is_over, landed, leave, over, passed, single_by, single_step, walk, walk_turn}
use Rattle.route.specs.Inner.Singles.{edge, single_cost, SingleKept}
use Rattle.route.specs.Inner.Lists.{ListOk}
use Rattle.route.specs.Inner.Cursors.{Past, Wf}
use Rattle.route.proofs.Cases.{by-test, lt_of_ne, on_test}
use Rattle.route.proofs.Places.{doc_at-cap, doc_at-in, doc_at-lt, doc_at-rises, last-cap, last_out, le-last, start-le, start-suc}
use Rattle.route.proofs.Cursor.{advance-is, fresh-is, on-block, past_up, seek_is, seek_block-is}
use Rattle.route.proofs.Ending.{Nears}

module _ (B N : ℕ) (O : Ops) (l : Postings O.S) (k : ListOk B N l) where
  Less : ℕ → SinglePlace → Type 0
  Less m p = SingleKept B l p.phase p.cur p.doc × (single_cost B l p.phase p.cur < m)

  below-edge : (c : Cursor) → Wf B l c → (c.at < edge B l) × (start B c.blk < edge B l)
  unfolding edge
  below-edge c w =
      let o = w.order in
      let i = w.in_list in
      let h = k.wide in
      (omega (arith, w.hi, start-le B c.dec l.full (omega arith)), omega (arith, start-le B c.blk l.full i))

  landed-less : (c : Cursor) (x m : ℕ) → Wf B l c → Past B l c x → x ≤ doc_here l c → (doc_here l c < TERMINATED → 3 * (edge B l - c.at) < m) → 0 < m
      → Less m (landed B O l c)
  unfolding Less SingleKept single_cost
  landed-less c x m w p h f z =
      by-test (λ ph. SingleKept B l ph c (doc_here l c) × (single_cost B l ph c < m)) (eqb (doc_here l c) TERMINATED) over walk
      (λ _. (tt, z))
      (λ t.
      let q = eqb-false (doc_here l c) TERMINATED t in
      let cap = doc_at-cap B N l k c.at in
      let lt : doc_here l c < TERMINATED =
      lt_of_ne (omega arith) q in
      ((w, past_up B N l k c x (doc_here l c) h p, refl, lt), f lt))

  leave-less : (c : Cursor) (e m : ℕ) → Wf B l c → Past B l c (suc e) → e < TERMINATED → last_doc l B c.blk ≤ e
      → suc (3 * (edge B l - start B (suc c.blk))) ≤ m → 0 < m → start B (suc c.blk) ≤ edge B l
      → suc (suc (3 * (edge B l - start B (suc c.blk)))) ≤ m → Less m (leave B O l e c)
  unfolding Less SingleKept single_cost
  leave-less c e m w p h le f z ed g =
      let s = seek_block-is B N l k (suc e) c h w in
      let c' = seek_block_in l B (suc e) c in
      let u = s.moved.up in
      let cv = s.covers in
      let gt : suc c.blk ≤ c'.blk =
      on_test (ltb c.blk c'.blk) (λ t. ltb-true c.blk c'.blk t)
      (λ t.
      let y = ltb-false c.blk c'.blk t in
      let v : c'.blk ≡ c.blk = omega arith in
      absurd (omega (arith, ap (last_doc l B) v))) in
      let st = start-le B (suc c.blk) c'.blk gt in
      ((s.moved.wf, s.moved.past (suc e) (omega arith) p, s.covers), omega arith)

  hunt-less : (t : O.S) (c : Cursor) (d : ℕ) → SingleKept B l hunt c d → Less (single_cost B l hunt c) (hunt_turn B O l t c d).next
  unfolding Less SingleKept single_cost
  hunt-less t c d (w, p, h) =
      let be = below-edge c w in
      let b1 = be.1 in
      let wd = k.wide in
      let ss = start-suc B c.blk in
      let cap = last-cap B N l k c.blk in
      let m = suc (3 * (edge B l - start B c.blk)) in
      by-test (Less m) (O.above (block_max B O l c) t) (landed B O l (seek_in l B d c))
      (cond (eqb (last_doc l B c.blk) TERMINATED) (record { phase = over; cur = c; doc = d }) (leave B O l (last_doc l B c.blk) c))
      (λ _.
      let s = seek_is B N l k d c (omega arith) w in
      landed-less (seek_in l B d c) d m s.moved.wf (s.moved.past d (omega arith) p) s.lands
      (λ lt.
      let i = doc_at-lt B N l k (seek_in l B d c).at lt in
      let q = (p (seek_in l B d c).at i (omega (arith, s.lands, doc_at-in B N l k (seek_in l B d c).at i))).1 in
      omega arith)
      (omega arith))
      (λ _.
      by-test (Less m) (eqb (last_doc l B c.blk) TERMINATED) (record { phase = over; cur = c; doc = d }) (leave B O l (last_doc l B c.blk) c)
      (λ _. (tt, omega arith))
      (λ u.
      let z = eqb-false (last_doc l B c.blk) TERMINATED u in
      let lt : last_doc l B c.blk < TERMINATED =
      lt_of_ne (omega arith) z in
      let il : suc c.blk ≤ l.full =
      on_test (ltb c.blk l.full) (λ y. ltb-true c.blk l.full y)
      (λ y. absurd (omega (arith, last_out B N l k c.blk (ltb-false c.blk l.full y)))) in
      let ed : start B (suc c.blk) ≤ edge B l = full-edge (suc c.blk) il in
      leave-less c (last_doc l B c.blk) m w (past_up B N l k c d (suc (last_doc l B c.blk)) (omega arith) p) lt (omega arith) (omega arith)
      (omega arith) ed (omega arith)))
    where
      full-edge : (b : ℕ) → b ≤ l.full → start B b ≤ edge B l
      full-edge b h = unfold edge in omega (arith, start-le B b l.full h)

  passed-less : (c : Cursor) (d m : ℕ) → SingleKept B l called c d → pred (3 * (edge B l - c.at)) ≤ m → Less m (passed B O l c d)
  unfolding Less SingleKept single_cost
  passed-less c d m (w, p, q, h) le =
      let be = below-edge c w in
      let b0 = be.0 in
      let o = on-block B N l k c d w p (omega arith) (omega arith) in
      let hi = w.hi in
      let od = ap (start B) o in
      let ss = start-suc B c.blk in
      by-test (Less m) (eqb d (last_doc l B c.blk)) (leave B O l d c) (landed B O l (advance_in l B c))
      (λ t.
      let e = eqb-true d (last_doc l B c.blk) t in
      let il : suc c.blk ≤ l.full =
      on_test (ltb c.blk l.full) (λ y. ltb-true c.blk l.full y)
      (λ y. absurd (omega (arith, last_out B N l k c.blk (ltb-false c.blk l.full y)))) in
      let ed : start B (suc c.blk) < edge B l = full-edge (suc c.blk) il in
      leave-less c d m w (past_up B N l k c d (suc d) (omega arith) p) h (omega arith) (omega arith) (omega arith) (omega arith) (omega arith))
      (λ t.
      let a = advance-is B N l k c w o (omega arith) in
      let nx = a.next in
      let up : suc d ≤ doc_here l (advance_in l B c) = omega (arith, doc_at-rises B N l k c.at (advance_in l B c).at (omega arith) (omega arith)) in
      landed-less (advance_in l B c) (suc d) m a.wf (a.past (suc d) (omega arith) (past_up B N l k c d (suc d) (omega arith) p)) up
      (λ _. omega arith) (omega arith))
    where
      full-edge : (b : ℕ) → b ≤ l.full → start B b < edge B l
      full-edge b h = unfold edge in omega (arith, start-le B b l.full h, k.wide)

  walk-less : (t : O.S) (c : Cursor) (d : ℕ) → SingleKept B l walk c d → Less (single_cost B l walk c) (walk_turn B O l t c d).next
  unfolding Less SingleKept single_cost
  walk-less t c d (w, p, q, h) =
      let one_less : pred (3 * (edge B l - c.at)) < 3 * (edge B l - c.at) = omega (arith, (below-edge c w).0) in
      by-test (Less (3 * (edge B l - c.at))) (O.above (l.score c.at) t) (record { phase = called; cur = c; doc = d }) (passed B O l c d)
      (λ _. ((w, p, q, h), one_less)) (λ _. passed-less c d (3 * (edge B l - c.at)) (w, p, q, h) (omega arith))

  first-kept : SingleKept B l hunt (fresh) (doc_here l (fresh))
  unfolding SingleKept
  first-kept =
      let f = fresh-is B N l k in (
        f.0,
        f.1 (doc_at l 0),
        on_test (ltb 0 l.full)
            (λ e.
            let m = ltb-true 0 l.full e in
            let w = k.wide in
            let n : 0 < l.len = omega (arith, start-suc B 0, start-le B 1 l.full m, k.blocks) in
            omega (arith, doc_at-in B N l k 0 n, le-last B N l k 0 0 n (omega (arith, start-suc B 0))))
            (λ e. omega (arith, last_out B N l k 0 (ltb-false 0 l.full e), doc_at-cap B N l k 0)),
      )

  turn-less : (t : O.S) (ph : Phase) (c : Cursor) (d : ℕ) → is_over ph ≡ false → SingleKept B l ph c d
      → Less (single_cost B l ph c) (single_by B O l ph t c d).next
  unfolding single_cost
  turn-less t hunt c d e i = hunt-less t c d i
  turn-less t walk c d e i = walk-less t c d i
  turn-less t called c d e i = passed-less c d (pred (3 * (edge B l - c.at))) i (omega arith)
  turn-less t over c d e i = absurd (true≢false e)

  module _ (ord : ℕ) where
    abbrev W : Route O.S
    W = block_wand_single_scorer B O (record { ord = ord; list = l; cur = fresh })

    -- for both scorings: three steps for each place of the list are enough
    pub single-nears : Nears W (λ p. SingleKept B l p.phase p.cur p.doc) (λ p. single_cost B l p.phase p.cur)
    unfolding Less
    single-nears = record { begins = first-kept; nears = λ t p e i. turn-less t p.phase p.cur p.doc e i }

module _ (B : ℕ) (O : Ops) where
  -- an over place stays
  pub single-stays : (s : Scorer O.S) (t : O.S) (p : SinglePlace) → is_over p.phase ≡ true → single_step B O s t p ≡ quiet p []
  single-stays s t p = go p.phase
    where
      go : (ph : Phase) → is_over ph ≡ true
          → single_step B O s t (record { phase = ph; cur = p.cur; doc = p.doc }) ≡ quiet (record { phase = ph; cur = p.cur; doc = p.doc }) []
      go hunt e = absurd (false≢true e)
      go walk e = absurd (false≢true e)
      go called e = absurd (false≢true e)
      go over e = rw (eq-eqb p.cur.dec p.cur.dec refl)
