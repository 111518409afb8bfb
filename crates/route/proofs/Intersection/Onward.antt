-- For both scorings: the intersection never turns back. Nothing is asked of scores.
use mathlib.Core.Bool.{Bool, cond, false, true, true≢false}
use mathlib.Core.List.{List, [], map, ◌∷◌}
use mathlib.Core.Option.{Option, none, some}
use mathlib.Core.Path.{◌≡◌}
use Prim.Native.Nat.{suc, zero, ℕ, ◌+◌, ◌<◌, ◌≤◌}
use native.Mathlib.Omega.{arith}
use Rattle.arrays.specs.Every.{All}
use Rattle.route.specs.Score.{Ops, sum}
use Rattle.route.specs.Report.{Report}
use Rattle.route.specs.Postings.{Postings, TERMINATED, last_doc, start}
use Rattle.route.specs.Cursor.{find_in}
use Rattle.route.specs.Scorer.{Scorer, block_max_score, score_here, seek, seek_block}
use Rattle.route.specs.Union.{least_last_doc}
use Rattle.route.specs.Route.{Load, loads_of}
use Rattle.route.specs.Intersection.{InterPlace, Stage, Tried, called, candidates_from, candidates_in, early, found_turn, inter_by, is_over, leader_route, max_score_sum, over, seek_block_all, tail_of, try_candidate, window, window_turn, within}
use Rattle.route.specs.Inner.Lists.{ListOk}
use Rattle.route.specs.Inner.Intersections.{InWindow, InterKept, WfS}
use Rattle.route.proofs.Cases.{by-test}
use Rattle.route.proofs.ListLaws.{Scored}
use Rattle.route.proofs.Order.{HasOf}
use Rattle.route.proofs.Places.{doc_at-in, doc_at-lt}
use Rattle.route.proofs.Cursor.{block-hits, find-below}
use Rattle.route.proofs.Onward.{Goes, Onward, Summed, Upward, due-goes, upward-from}
use Rattle.route.proofs.Union.Pivot.{least_last-le}
use Rattle.route.proofs.Intersection.Ends.{cands-by, cands-each, shallow-each, try-by, try-each, wf-shallow, window-by, window-wide}

module _ (B N : ℕ) (O : Ops) (P : O.S → Type 0) where
  abbrev Ts : Type 0
  Ts = List (Scorer O.S)

  abbrev Has : Scorer O.S → Type 0
  Has s = Scored P s.list

  -- a candidate that may be reported
  abbrev Fair : Report O.S → Type 0
  Fair r = (r.doc < N) × P r.score

  -- the next window, or the candidates left of this one, are from f on
  abbrev pub StageAhead : ℕ → Stage O.S → ℕ → Type 0
  StageAhead f early d = f ≤ d
  StageAhead f window d = f ≤ d
  StageAhead f (within cs e bs) d = Upward f (suc e) cs × All Fair cs
  StageAhead f (called cs e bs) d = Upward f (suc e) cs × All Fair cs
  StageAhead f over d = Unit {0}

  abbrev pub InterAhead : ℕ → InterPlace O.S → Type 0
  InterAhead f u = StageAhead f u.stage u.doc × All Has (u.leader ∷ u.secs)

  -- the candidates of n places from p rise, and stay before e
  cands-rise : (l : Postings O.S) (t : O.S) (f e n p : ℕ) → ListOk B N l → p + n ≤ l.len → f ≤ suc e → (0 < n → f ≤ l.doc p)
      → ((i : ℕ) → p ≤ i → i < p + n → l.doc i ≤ e) → Upward f (suc e) (candidates_from O l t n p)
  cands-rise l t f e zero p k h fe lo up = fe
  cands-rise l t f e (suc n) p k h fe lo up =
      let here = lo (omega arith) in
      let cap = up p (omega arith) (omega arith) in
      let next : (g : ℕ) → g ≤ suc (l.doc p) → Upward g (suc e) (candidates_from O l t n (suc p)) =
      λ g le. cands-rise l t g e n (suc p) k (omega arith) (omega arith)
      (λ m. omega (arith, k.rises p (suc p) (omega arith) (omega arith))) (λ i a b. up i (omega arith) (omega arith)) in
      by-test (Upward f (suc e)) (O.above (l.score p) t) (record { doc = l.doc p; score = l.score p } ∷ candidates_from O l t n (suc p))
      (candidates_from O l t n (suc p)) (λ _. (here, next (suc (l.doc p)) (omega arith))) (λ _. next f (omega arith))

  cands-ahead : (l : Postings O.S) (t : O.S) (f b d e : ℕ) → ListOk B N l → Scored P l → b ≤ l.full → f ≤ d → d ≤ e → d ≤ TERMINATED
      → d ≤ last_doc l B b → Upward f (suc e) (candidates_in B O l t b d e) × All Fair (candidates_in B O l t b d e)
  cands-ahead l t f b d e k has inl fd de cap cov =
      let i = find_in l d B (start B b) in
      let hits = block-hits B N l k d b inl cap cov in
      let h0 = hits.0 in
      let h3 = hits.3 in
      cands-by B N O (λ cs. Upward f (suc e) cs × All Fair cs) l t b d e (omega arith, tt)
      (λ n h. (
        cands-rise l t f e n i k (omega arith) (omega arith) (λ m. omega (arith, doc_at-in B N l k i (omega arith)))
            (λ p u v. omega (arith, find-below B N l k (suc e) B (start B b) p (omega arith) (omega arith), doc_at-in B N l k p (omega arith))),
        cands-each B N O Fair l t n i (λ p m. (k.below p m, has p m)) (omega arith),
      ))

  window-ahead : (t : O.S) (f d : ℕ) (ld : Scorer O.S) (ss : Ts) → All (WfS B N O) (ld ∷ ss) → f ≤ d → All Has (ld ∷ ss)
      → InterAhead f (window_turn B O t d ld ss)
  window-ahead t f d ld ss a fd has =
      let ld' = seek_block B d ld in
      let ss' = seek_block_all B d ss in
      let e = least_last_doc B ld' ss' in
      let le = (least_last-le B ld' ss').0 in
      let all : All Has (ld ∷ ss') = (has.0, shallow-each B N O Has d ss (λ s h. h) has.1) in
      window-by B N O (InterAhead f) t d ld ss
      (λ lv h.
      let de = window-wide B N O d ld ss (omega arith) a h in
      let w = (wf-shallow B N O d ld (omega arith) a.0).0 in (
        cands-ahead ld.list (O.sub t (sum O (map (block_max_score B O) ss'))) f ld'.cur.blk d e a.0.ok has.0 w.wf.in_list fd de
            (omega arith) (omega arith),
        all,
      ))
      (λ lv h. (omega (arith, window-wide B N O d ld ss (omega arith) a h), all))
      (tt, all) (tt, has)

  try-has : Summed O P → (c : ℕ) (t tot : O.S) (ss : Ts) (bs : List O.S) → c < TERMINATED → P tot → All (WfS B N O) ss → All Has ss
      → HasOf P (try_candidate B O c t tot ss bs).found
  try-has Z c t tot [] bs lv p a has = p
  try-has Z c t tot (s ∷ ss) bs lv p a has =
      let s' = seek B c s in
      try-by B N O (λ (r : Tried O.S). HasOf P r.found) c t tot s ss bs tt
      (λ e. try-has Z c t (O.add tot (score_here s')) ss (tail_of bs) lv
      (Z.add-has tot (score_here s') p (has.0 s'.cur.at (doc_at-lt B N s.list a.0.ok s'.cur.at (omega arith)))) a.1 has.1)
      tt

  found-goes : (ls : List Load) (t : O.S) (f : ℕ) (o : Option O.S) (c : ℕ) (cs : List (Report O.S)) (e : ℕ) (bs : List O.S) (d : ℕ) (ld : Scorer O.S) (ss : Ts)
      → f ≤ c → c < N → HasOf P o → Upward (suc c) (suc e) cs → All Fair cs → All Has (ld ∷ ss)
      → (let u = found_turn B O t o c cs e bs d ld ss ls in Goes P N InterAhead f u.next u.due)
  found-goes ls t f none c cs e bs d ld ss h b p u a has = ((upward-from f (suc c) (suc e) cs (omega arith) u, a), has)
  found-goes ls t f (some x) c cs e bs d ld ss h b p u a has =
      due-goes O P N InterAhead t f c x (λ z. record { stage = cond z (called cs e bs) (within cs e bs); doc = d; leader = ld; secs = ss }) h b p
      ((u, a), has) ((upward-from f (suc c) (suc e) cs (omega arith) u, a), has)

  -- a stage that may end
  or-over : (b : Bool) (f : ℕ) (st : Stage O.S) (d : ℕ) → StageAhead f st d → StageAhead f (cond b st over) d
  or-over true f st d a = a
  or-over false f st d a = tt

  turn-goes : Summed O P → (t : O.S) (f : ℕ) (st : Stage O.S) (d : ℕ) (ld : Scorer O.S) (ss : Ts) → is_over st ≡ false → InterKept B N O st d ld ss
      → StageAhead f st d → All Has (ld ∷ ss) → Goes P N InterAhead f (inter_by B O st t d ld ss).next (inter_by B O st t d ld ss).due
  unfolding InterKept InWindow
  turn-goes Z t f early d ld ss n k a has = (or-over (O.above (max_score_sum O ld ss) t) f window d a, has)
  turn-goes Z t f window d ld ss n k a has = window-ahead t f d ld ss k.0 a has
  turn-goes Z t f (within [] e bs) d ld ss n k a has = (a.0, has)
  turn-goes Z t f (within (c ∷ cs) e bs) d ld ss n k a has =
      let x = try_candidate B O c.doc t c.score ss bs in
      let fair = a.1.0 in
      let lv : c.doc < TERMINATED = omega (arith, fair.0, k.0.0.ok.few) in
      found-goes (loads_of ss x.secs) t f x.found c.doc cs e bs d ld x.secs a.0.0 fair.0
      (try-has Z c.doc t c.score ss bs lv fair.1 k.0.1 has.1) a.0.1 a.1.1
      (has.0, try-each B N O Has c.doc t c.score ss bs (λ s h. h) has.1)
  turn-goes Z t f (called cs e bs) d ld ss n k a has = (or-over (O.above (max_score_sum O ld ss) t) f (within cs e bs) d a, has)
  turn-goes Z t f over d ld ss n k a has = absurd (true≢false n)

  pub intersection-onward : Summed O P → (ld : Scorer O.S) (ss : Ts) → All (λ s. Scored P s.list) (ld ∷ ss)
      → Onward P N (leader_route B O ld ss) (λ u. InterKept B N O u.stage u.doc u.leader u.secs) InterAhead
  intersection-onward Z ld ss has = record {
    starts = (omega arith, has);
    goes = λ t f u n k a. turn-goes Z t f u.stage u.doc u.leader u.secs n k a.0 a.1;
  }
