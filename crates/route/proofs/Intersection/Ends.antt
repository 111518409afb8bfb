-- For both scorings: the intersection's cursors stay in their lists, and the route ends.
use mathlib.Core.Bool.{Bool, cond, false, false≢true, true, true≢false}
use mathlib.Core.List.{List, [], map, ◌∷◌}
use mathlib.Core.Option.{Option, none, some}
use mathlib.Core.Path.{ap, refl, subst, sym, ◌∙◌, ◌≡◌}
use Prim.Native.Nat.{min, suc, zero, ℕ, ◌*◌, ◌+◌, ◌-◌, ◌<◌, ◌≤◌}
use native.Mathlib.Nat.{mul-le-mul_right, suc-mul}
use native.Mathlib.Omega.{arith}
use lib.Dec.{eqb, leb, ltb}
use lib.ListN.{length}
use borrow.Author.Tests.{eqb-true, leb-false, leb-true, ltb-true}
use Rattle.arrays.specs.Every.{All}
use Rattle.route.specs.Score.{Ops, sum, sum_back}
use Rattle.route.specs.Report.{Report}
use Rattle.route.specs.Postings.{Postings, TERMINATED, doc_at, start}
use Rattle.route.specs.Cursor.{find_in}
use Rattle.route.specs.Ordering.{sort_by}
use Rattle.route.specs.Scorer.{Scorer, block_max_score, doc_of, last_doc_in_block, score_here, scorers_from, seek, seek_block, size_hint}
use Rattle.route.specs.Route.{Load, loads_of, quiet}
use Rattle.route.specs.Union.{least_last_doc}
use Rattle.route.specs.Intersection.{InterPlace, Stage, Tried, all_remain, called, candidates_from, candidates_in, dropped, early, found_turn, has_remaining_docs, inter_by, is_over, leader_route, load_leader, max_score_sum, over, push_sec, seek_block_all, tail_of, try_candidate, window, window_turn, within}
use Rattle.route.specs.Inner.Lists.{ListOk}
use Rattle.route.specs.Inner.Intersections.{InWindow, InterKept, WfS}
use Rattle.route.proofs.Cases.{by-test, on_test}
use Rattle.route.proofs.Lists.{all-perm}
use Rattle.route.proofs.Places.{doc_at-cap, last-cap}
use Rattle.route.proofs.Cursor.{find-up, first-wf, fresh-is, seek_is, seek_block-is}
use Rattle.route.proofs.Ordering.{sort-perm}
use Rattle.route.proofs.Union.Pivot.{least_last-ge, least_last-le}
use Rattle.route.proofs.Ending.{Nears}

module _ (B N : ℕ) (O : Ops) where
  abbrev Ts : Type 0
  Ts = List (Scorer O.S)

  pub wf-shallow : (d : ℕ) (s : Scorer O.S) → d ≤ TERMINATED → (WfS B N O) s → (WfS B N O) (seek_block B d s) × (d ≤ last_doc_in_block B (seek_block B d s))
  wf-shallow d s h k = let m = seek_block-is B N s.list k.ok d s.cur h k.wf in (record { ok = k.ok; wf = m.moved.wf }, m.covers)

  wf-seek : (d : ℕ) (s : Scorer O.S) → d ≤ TERMINATED → (WfS B N O) s → (WfS B N O) (seek B d s)
  wf-seek d s h k = record { ok = k.ok; wf = (seek_is B N s.list k.ok d s.cur h k.wf).moved.wf }

  wf-front : (s : Scorer O.S) → (WfS B N O) s → (WfS B N O) (load_leader B s)
  wf-front s k = record { ok = k.ok; wf = first-wf B N s.list k.ok s.cur k.wf }

  pub shallow-each : (Q : Scorer O.S → Type 0) (d : ℕ) (ss : Ts) → ((s : Scorer O.S) → Q s → Q (seek_block B d s)) → All Q ss
      → All Q (seek_block_all B d ss)
  shallow-each Q d [] f a = tt
  shallow-each Q d (s ∷ ss) f a =
      let ih = shallow-each Q d ss f a.1 in
      by-test (All Q) (has_remaining_docs B (seek_block B d s)) (seek_block B d s ∷ seek_block_all B d ss) (seek_block B d s ∷ ss)
      (λ _. (f s a.0, ih)) (λ _. (f s a.0, a.1))

  covers-all : (d : ℕ) (ss : Ts) → d ≤ TERMINATED → All (WfS B N O) ss → all_remain B d ss ≡ true → All (λ s. d ≤ last_doc_in_block B s) (seek_block_all B d ss)
  covers-all d [] h a e = tt
  covers-all d (s ∷ ss) h a e = go (has_remaining_docs B (seek_block B d s)) e (covers-all d ss h a.1)
    where
      go : (b : Bool) → cond b (all_remain B d ss) false ≡ true
          → (all_remain B d ss ≡ true → All (λ s. d ≤ last_doc_in_block B s) (seek_block_all B d ss))
          → All (λ s. d ≤ last_doc_in_block B s) (cond b (seek_block B d s ∷ seek_block_all B d ss) (seek_block B d s ∷ ss))
      go true e f = ((wf-shallow d s h a.0).1, f e)
      go false e f = absurd (false≢true e)

  -- a window ends at its first document or behind it
  pub window-wide : (d : ℕ) (ld : Scorer O.S) (ss : Ts) → d ≤ TERMINATED → All (WfS B N O) (ld ∷ ss) → all_remain B d ss ≡ true
      → d ≤ least_last_doc B (seek_block B d ld) (seek_block_all B d ss)
  window-wide d ld ss h a e = least_last-ge B d (seek_block B d ld) (seek_block_all B d ss) ((wf-shallow d ld h a.0).1, covers-all d ss h a.1 e)

  -- by cases on a secondary: already past the candidate, on it with enough to come, or neither
  pub try-by : (T : Tried O.S → Type 0) (c : ℕ) (t tot : O.S) (s : Scorer O.S) (ss : Ts) (bs : List O.S) → T (dropped (s ∷ ss))
      → (doc_of (seek B c s) ≡ c → T (push_sec (seek B c s) (try_candidate B O c t (O.add tot (score_here (seek B c s))) ss (tail_of bs))))
      → T (dropped (seek B c s ∷ ss)) → T (try_candidate B O c t tot (s ∷ ss) bs)
  try-by T c t tot s ss bs past on off =
      let s' = seek B c s in
      let tot' : O.S = O.add tot (score_here s') in
      let next = try_candidate B O c t tot' ss (tail_of bs) in
      by-test T (ltb c (doc_of s)) (dropped (s ∷ ss))
      (cond (eqb (doc_of s') c) (cond (O.above (O.add tot' (sum_back O (tail_of bs))) t) (push_sec s' next) (dropped (s' ∷ ss))) (dropped (s' ∷ ss)))
      (λ _. past)
      (λ _.
      by-test T (eqb (doc_of s') c)
      (cond (O.above (O.add tot' (sum_back O (tail_of bs))) t) (push_sec s' next) (dropped (s' ∷ ss))) (dropped (s' ∷ ss))
      (λ e. by-test T (O.above (O.add tot' (sum_back O (tail_of bs))) t) (push_sec s' next) (dropped (s' ∷ ss))
      (λ _. on (eqb-true (doc_of s') c e)) (λ _. off))
      (λ _. off))

  pub try-each : (Q : Scorer O.S → Type 0) (c : ℕ) (t tot : O.S) (ss : Ts) (bs : List O.S) → ((s : Scorer O.S) → Q s → Q (seek B c s))
      → All Q ss → All Q (try_candidate B O c t tot ss bs).secs
  try-each Q c t tot [] bs f a = tt
  try-each Q c t tot (s ∷ ss) bs f a =
      let g = f s a.0 in
      try-by (λ (r : Tried O.S). All Q r.secs) c t tot s ss bs a
      (λ _. (g, try-each Q c t (O.add tot (score_here (seek B c s))) ss (tail_of bs) f a.1)) (g, a.1)

  -- candidates: few, and each a place of the list
  cands-few : (l : Postings O.S) (t : O.S) (n p : ℕ) → length (candidates_from O l t n p) ≤ n
  cands-few l t zero p = omega arith
  cands-few l t (suc n) p =
      let ih = cands-few l t n (suc p) in
      by-test (λ z. length z ≤ suc n) (O.above (l.score p) t)
      (record { doc = l.doc p; score = l.score p } ∷ candidates_from O l t n (suc p)) (candidates_from O l t n (suc p))
      (λ _. omega arith) (λ _. omega arith)

  pub cands-each : (Q : Report O.S → Type 0) (l : Postings O.S) (t : O.S) (n p : ℕ)
      → ((i : ℕ) → i < l.len → Q (record { doc = l.doc i; score = l.score i })) → p + n ≤ l.len → All Q (candidates_from O l t n p)
  cands-each Q l t zero p f h = tt
  cands-each Q l t (suc n) p f h =
      let ih = cands-each Q l t n (suc p) f (omega arith) in
      by-test (All Q) (O.above (l.score p) t)
      (record { doc = l.doc p; score = l.score p } ∷ candidates_from O l t n (suc p)) (candidates_from O l t n (suc p))
      (λ _. (f p (omega arith), ih)) (λ _. ih)

  find-le : (l : Postings O.S) (t n p : ℕ) → find_in l t n p ≤ p + n
  find-le l t zero p = omega arith
  find-le l t (suc n) p =
      let ih = find-le l t n (suc p) in
      by-test (λ z. z ≤ p + suc n) (ltb (doc_at l p) t) (find_in l t n (suc p)) p (λ _. omega arith) (λ _. omega arith)

  -- the candidates of a window are those of n places of the list, or none
  pub cands-by : (T : List (Report O.S) → Type 0) (l : Postings O.S) (t : O.S) (b d e : ℕ) → T []
      → ((n : ℕ) → find_in l d B (start B b) + n ≤ min (find_in l (suc e) B (start B b)) l.len → T (candidates_from O l t n (find_in l d B (start B b))))
      → T (candidates_in B O l t b d e)
  cands-by T l t b d e z f =
      let i = find_in l d B (start B b) in
      let j = min (find_in l (suc e) B (start B b)) l.len in
      on_test (leb i j)
      (λ u. let v = leb-true i j u in f (j - i) (omega arith))
      (λ u.
      let v = leb-false i j u in
      let n : j - i ≡ 0 = omega arith in
      subst (λ y. T (candidates_from O l t y i)) (sym n) z)

  cands-in : (l : Postings O.S) (t : O.S) (b d e : ℕ) → ListOk B N l
      → (length (candidates_in B O l t b d e) ≤ B) × All (λ r. r.doc ≤ TERMINATED) (candidates_in B O l t b d e)
  cands-in l t b d e k =
      let i = find_in l d B (start B b) in
      let up = find-up B N l k d B (start B b) in
      let le = find-le l (suc e) B (start B b) in
      cands-by (λ cs. (length cs ≤ B) × All (λ r. r.doc ≤ TERMINATED) cs) l t b d e (omega arith, tt)
      (λ n h. (
        omega (arith, cands-few l t n i),
        cands-each (λ r. r.doc ≤ TERMINATED) l t n i (λ p m. omega (arith, k.below p m, k.few)) (omega arith),
      ))

  -- ---- the route ends

  -- enough for a window: its opening, and two turns for each of its candidates
  row : ℕ
  row = B + (B + 2)

  pub inter_cost : Stage O.S → ℕ → ℕ
  inter_cost early d = suc ((2147483649 - d) * row)
  inter_cost window d = (2147483649 - d) * row
  inter_cost (within cs e bs) d = (2147483648 - d) * row + suc (length cs + length cs)
  inter_cost (called cs e bs) d = (2147483648 - d) * row + suc (suc (length cs + length cs))
  inter_cost over d = 0

  -- a place that is kept, with fewer turns ahead than m
  unfoldable pub Less : ℕ → InterPlace O.S → Type 0
  Less m u = InterKept B N O u.stage u.doc u.leader u.secs × (inter_cost u.stage u.doc < m)

  rows-le : (a b : ℕ) → a ≤ b → a * row ≤ b * row
  rows-le a b h = mul-le-mul_right row h

  rows-suc : (a : ℕ) → suc a * row ≡ a * row + (B + (B + 2))
  unfolding row
  rows-suc a = suc-mul a (B + (B + 2))

  -- by cases on what a window leaves: candidates, the next window, or the end
  pub window-by : (T : InterPlace O.S → Type 0) (t : O.S) (d : ℕ) (ld : Scorer O.S) (ss : Ts)
      → (let ld' = seek_block B d ld in
      let ss' = seek_block_all B d ss in
      let bs = map (block_max_score B O) ss' in
      let e = least_last_doc B ld' ss' in
      let cs = candidates_in B O ld.list (O.sub t (sum O bs)) ld'.cur.blk d e in
      (d < TERMINATED → all_remain B d ss ≡ true → T (record { stage = within cs e bs; doc = d; leader = load_leader B ld'; secs = ss' }))
      → (d < TERMINATED → all_remain B d ss ≡ true → T (record { stage = window; doc = suc e; leader = ld'; secs = ss' }))
      → T (record { stage = over; doc = d; leader = ld'; secs = ss' }) → T (record { stage = over; doc = d; leader = ld; secs = ss })
      → T (window_turn B O t d ld ss))
  window-by T t d ld ss cands next out end =
      let ld' = seek_block B d ld in
      let ss' = seek_block_all B d ss in
      let bs = map (block_max_score B O) ss' in
      let e = least_last_doc B ld' ss' in
      let cs = candidates_in B O ld.list (O.sub t (sum O bs)) ld'.cur.blk d e in
      let u-in : InterPlace O.S = record { stage = within cs e bs; doc = d; leader = load_leader B ld'; secs = ss' } in
      let u-next : InterPlace O.S = record { stage = window; doc = suc e; leader = ld'; secs = ss' } in
      let u-out : InterPlace O.S = record { stage = over; doc = d; leader = ld'; secs = ss' } in
      let b = O.above (O.add (block_max_score B O ld') (sum O bs)) t in
      by-test T (ltb d TERMINATED) (cond (all_remain B d ss) (cond b u-in u-next) u-out) (record { stage = over; doc = d; leader = ld; secs = ss })
      (λ u.
      let lv = ltb-true d TERMINATED u in
      by-test T (all_remain B d ss) (cond b u-in u-next) u-out (λ h. by-test T b u-in u-next (λ _. cands lv h) (λ _. next lv h)) (λ _. out))
      (λ _. end)

  window-less : (t : O.S) (d : ℕ) (ld : Scorer O.S) (ss : Ts) → InterKept B N O window d ld ss → Less (inter_cost window d) (window_turn B O t d ld ss)
  unfolding Less InterKept InWindow inter_cost
  window-less t d ld ss (a, cap) =
      let ld' = seek_block B d ld in
      let ss' = seek_block_all B d ss in
      let bs = map (block_max_score B O) ss' in
      let e = least_last_doc B ld' ss' in
      let m = (2147483649 - d) * row in
      let dd : 2147483649 - d ≡ suc (2147483648 - d) = omega arith in
      let mm : m ≡ (2147483648 - d) * row + (B + (B + 2)) = ap (λ z. z * row) dd ∙ rows-suc (2147483648 - d) in
      let ecap : e ≤ TERMINATED = omega (arith, (least_last-le B ld' ss').0, last-cap B N ld.list a.0.ok ld'.cur.blk) in
      window-by (Less m) t d ld ss
      (λ lv h.
      let w = moved lv in
      let c = cands-in ld.list (O.sub t (sum O bs)) ld'.cur.blk d e a.0.ok in
      let c0 = c.0 in
      (((wf-front ld' w.0, w.1), window-wide d ld ss (omega arith) a h, ecap, c.0, c.1), omega arith))
      (λ lv h.
      let de = window-wide d ld ss (omega arith) a h in
      ((moved lv, omega arith), omega (arith, rows-le (2147483649 - suc e) (2147483648 - d) (omega arith))))
      (tt, omega arith) (tt, omega arith)
    where
      moved : d < TERMINATED → (WfS B N O) (seek_block B d ld) × All (WfS B N O) (seek_block_all B d ss)
      moved lv = ((wf-shallow d ld (omega arith) a.0).0, shallow-each (WfS B N O) d ss (λ s k. (wf-shallow d s (omega arith) k).0) a.1)

  found-less : (ls : List Load) (t : O.S) (o : Option O.S) (c : ℕ) (cs : List (Report O.S)) (e : ℕ) (bs : List O.S) (d : ℕ) (ld : Scorer O.S) (ss : Ts) (m : ℕ)
      → InWindow B N O cs e d ld ss → inter_cost (called cs e bs) d < m → Less m (found_turn B O t o c cs e bs d ld ss ls).next
  unfolding Less InterKept inter_cost
  found-less ls t none c cs e bs d ld ss m k h = (k, omega arith)
  found-less ls t (some x) c cs e bs d ld ss m k h =
      by-test (λ st. InterKept B N O st d ld ss × (inter_cost st d < m)) (O.above x t) (called cs e bs) (within cs e bs) (λ _. (k, h))
      (λ _. (k, omega arith))

  within-less : (t : O.S) (cs : List (Report O.S)) (e : ℕ) (bs : List O.S) (d : ℕ) (ld : Scorer O.S) (ss : Ts) → InWindow B N O cs e d ld ss
      → Less (inter_cost (within cs e bs) d) (inter_by B O (within cs e bs) t d ld ss).next
  unfolding Less InterKept InWindow inter_cost
  within-less t [] e bs d ld ss (a, de, ec, ln, docs) = ((a, omega arith), omega (arith, rows-le (2147483649 - suc e) (2147483648 - d) (omega arith)))
  within-less t (c ∷ cs) e bs d ld ss (a, de, ec, ln, docs) =
      let x = try_candidate B O c.doc t c.score ss bs in
      found-less (loads_of ss x.secs) t x.found c.doc cs e bs d ld x.secs ((2147483648 - d) * row + suc (suc (length cs) + suc (length cs)))
      ((a.0, try-each (WfS B N O) c.doc t c.score ss bs (λ s k. wf-seek c.doc s docs.0 k) a.1), de, ec, omega arith, docs.1) (omega arith)

  -- a stage that may end
  or-over : (b : Bool) (st : Stage O.S) (d m : ℕ) (ld : Scorer O.S) (ss : Ts) → InterKept B N O st d ld ss → inter_cost st d < m
      → InterKept B N O (cond b st over) d ld ss × (inter_cost (cond b st over) d < m)
  unfolding InterKept inter_cost
  or-over true st d m ld ss k h = (k, h)
  or-over false st d m ld ss k h = (tt, omega arith)

  pub turn-less : (t : O.S) (st : Stage O.S) (d : ℕ) (ld : Scorer O.S) (ss : Ts) → is_over st ≡ false → InterKept B N O st d ld ss
      → Less (inter_cost st d) (inter_by B O st t d ld ss).next
  unfolding Less InterKept inter_cost
  turn-less t early d ld ss e k = or-over (O.above (max_score_sum O ld ss) t) window d (suc ((2147483649 - d) * row)) ld ss k (omega arith)
  turn-less t window d ld ss e k = window-less t d ld ss k
  turn-less t (within cs e' bs) d ld ss e k = within-less t cs e' bs d ld ss k
  turn-less t (called cs e' bs) d ld ss e k =
      or-over (O.above (max_score_sum O ld ss) t) (within cs e' bs) d ((2147483648 - d) * row + suc (suc (length cs + length cs))) ld ss k
      (omega arith)
  turn-less t over d ld ss e k = absurd (true≢false e)

  fresh-wf : (n : ℕ) (ls : List (Postings O.S)) → All (ListOk B N) ls → All (WfS B N O) (scorers_from n ls)
  fresh-wf n [] a = tt
  fresh-wf n (l ∷ ls) a = (record { ok = a.0; wf = (fresh-is B N l a.0).0 }, fresh-wf (suc n) ls a.1)

  -- for both scorings: the route ends
  pub intersection-nears : (q : List (Postings O.S)) → All (ListOk B N) q → (ld : Scorer O.S) (ss : Ts)
      → sort_by size_hint (scorers_from 0 q) ≡ ld ∷ ss
      → Nears (leader_route B O ld ss) (λ u. InterKept B N O u.stage u.doc u.leader u.secs) (λ u. inter_cost u.stage u.doc)
  unfolding Less InterKept
  intersection-nears q ok ld ss e =
      let a : All (WfS B N O) (ld ∷ ss) = subst (All (WfS B N O)) e (all-perm (WfS B N O) (sort-perm size_hint (scorers_from 0 q)) (fresh-wf 0 q ok)) in
      record {
        begins = (a, omega (arith, doc_at-cap B N ld.list a.0.ok ld.cur.at));
        nears = λ t u n k. turn-less t u.stage u.doc u.leader u.secs n k;
      }

module _ (B : ℕ) (O : Ops) where
  pub intersection-stays : (t : O.S) (u : InterPlace O.S) → is_over u.stage ≡ true
      → inter_by B O u.stage t u.doc u.leader u.secs ≡ quiet u []
  intersection-stays t u = go u.stage
    where
      go : (st : Stage O.S) → is_over st ≡ true
          → inter_by B O st t u.doc u.leader u.secs ≡ quiet (record { stage = st; doc = u.doc; leader = u.leader; secs = u.secs }) []
      go early e = absurd (false≢true e)
      go window e = absurd (false≢true e)
      go (within cs e' bs) e = absurd (false≢true e)
      go (called cs e' bs) e = absurd (false≢true e)
      go over e = refl
