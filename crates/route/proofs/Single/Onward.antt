-- For both scorings: the single route never turns back. Nothing is asked of scores.
use mathlib.Core.Bool.{cond, false, true≢false}
use mathlib.Core.Path.{◌≡◌}
use Prim.Native.Nat.{suc, ℕ, ◌≤◌}
use native.Mathlib.Omega.{arith}
use lib.Dec.{eqb}
use Rattle.route.specs.Score.{Ops}
use Rattle.route.specs.Postings.{Postings, TERMINATED, last_doc}
use Rattle.route.specs.Cursor.{Cursor, advance_in, block_max, doc_here, fresh, seek_in}
use Rattle.route.specs.Single.{Phase, SinglePlace, block_wand_single_scorer, called, hunt, hunt_turn, is_over, landed, leave, over, passed, single_by, walk, walk_turn}
use Rattle.route.specs.Inner.Singles.{SingleKept}
use Rattle.route.specs.Inner.Lists.{ListOk}
use Rattle.route.proofs.Cases.{by-test}
use Rattle.route.proofs.ListLaws.{Scored}
use Rattle.route.proofs.Places.{doc_at-in, doc_at-lt, doc_at-rises, last-cap}
use Rattle.route.proofs.Cursor.{advance-is, on-block, seek_is}
use Rattle.route.proofs.Onward.{Goes, Onward, due-goes}

-- the first document that may still be reported
abbrev ahead : Phase → ℕ → ℕ
ahead hunt d = d
ahead walk d = d
ahead called d = suc d
ahead over d = d

-- which is from f on
abbrev pub SingleAhead : ℕ → SinglePlace → Type 0
SingleAhead f p = f ≤ ahead p.phase p.doc

module _ (B N : ℕ) (O : Ops) (P : O.S → Type 0) (l : Postings O.S) (k : ListOk B N l) (has : Scored P l) where
  landed-goes : (f : ℕ) (c : Cursor) → f ≤ doc_here l c → SingleAhead f (landed B O l c)
  landed-goes f c h = by-test (λ ph. f ≤ ahead ph (doc_here l c)) (eqb (doc_here l c) TERMINATED) over walk (λ _. h) (λ _. h)

  hunt-goes : (t : O.S) (f : ℕ) (c : Cursor) (d : ℕ) → SingleKept B l hunt c d → f ≤ d → SingleAhead f (hunt_turn B O l t c d).next
  unfolding SingleKept
  hunt-goes t f c d (w, p, h) a =
      let e = last_doc l B c.blk in
      let cap = last-cap B N l k c.blk in
      by-test (SingleAhead f) (O.above (block_max B O l c) t) (landed B O l (seek_in l B d c))
      (cond (eqb e TERMINATED) (record { phase = over; cur = c; doc = d }) (leave B O l e c))
      (λ _. landed-goes f (seek_in l B d c) (omega (arith, (seek_is B N l k d c (omega arith) w).lands)))
      (λ _. by-test (SingleAhead f) (eqb e TERMINATED) (record { phase = over; cur = c; doc = d }) (leave B O l e c) (λ _. a) (λ _. omega arith))

  passed-goes : (c : Cursor) (d : ℕ) → SingleKept B l called c d → SingleAhead (suc d) (passed B O l c d)
  unfolding SingleKept
  passed-goes c d (w, p, q, h) =
      let o = on-block B N l k c d w p (omega arith) (omega arith) in
      let nx = (advance-is B N l k c w o (omega arith)).next in
      by-test (SingleAhead (suc d)) (eqb d (last_doc l B c.blk)) (leave B O l d c) (landed B O l (advance_in l B c))
      (λ _. omega arith)
      (λ _. landed-goes (suc d) (advance_in l B c)
      (omega (arith, doc_at-rises B N l k c.at (advance_in l B c).at (omega arith) (omega arith))))

  -- what comes from g on comes from f on
  from_up : (f g : ℕ) (p : SinglePlace) → f ≤ g → SingleAhead g p → SingleAhead f p
  from_up f g p h a = omega arith

  walk-goes : (t : O.S) (f : ℕ) (c : Cursor) (d : ℕ) → SingleKept B l walk c d → f ≤ d
      → Goes P N SingleAhead f (walk_turn B O l t c d).next (walk_turn B O l t c d).due
  unfolding SingleKept
  walk-goes t f c d (w, p, q, h) a =
      let i = doc_at-lt B N l k c.at (omega arith) in
      due-goes O P N SingleAhead t f d (l.score c.at) (λ z. cond z (record { phase = called; cur = c; doc = d }) (passed B O l c d)) a
      (omega (arith, k.below c.at i, doc_at-in B N l k c.at i)) (has c.at i) (omega arith)
      (from_up f (suc d) (passed B O l c d) (omega arith) (passed-goes c d (w, p, q, h)))

  turn-goes : (t : O.S) (f : ℕ) (ph : Phase) (c : Cursor) (d : ℕ) → is_over ph ≡ false → SingleKept B l ph c d → f ≤ ahead ph d
      → Goes P N SingleAhead f (single_by B O l ph t c d).next (single_by B O l ph t c d).due
  turn-goes t f hunt c d e i a = hunt-goes t f c d i a
  turn-goes t f walk c d e i a = walk-goes t f c d i a
  turn-goes t f called c d e i a = from_up f (suc d) (passed B O l c d) a (passed-goes c d i)
  turn-goes t f over c d e i a = absurd (true≢false e)

  pub single-onward : (ord : ℕ) → Onward P N (block_wand_single_scorer B O (record { ord = ord; list = l; cur = fresh }))
      (λ p. SingleKept B l p.phase p.cur p.doc) SingleAhead
  single-onward ord = record { starts = omega arith; goes = λ t f p e i a. turn-goes t f p.phase p.cur p.doc e i a }
