-- The route's turns over one block: a walk from posting to posting, and what stands behind the last.
use mathlib.Core.Path.{◌≡◌, refl, sym, ap, ◌∙◌, subst}
use mathlib.Core.Bool.{Bool, true, false, cond}
use mathlib.Core.Logic.{inl, inr}
use Prim.Native.Nat.{ℕ, zero, suc, pred, min, ◌+◌, ◌-◌, ◌≤◌, ◌<◌}
use native.Mathlib.Nat.{add-suc, add-zero}
use native.Mathlib.Omega.{arith}
use lib.Dec.{eqb, ltb}
use lib.Ieee.{Float, lt}
use borrow.Author.Tests.{lt-ltb, le-ltb, eq-eqb, ne_eqb}
use Rattle.arrays.proofs.Order.{lt-or-ge}
use Rattle.route.specs.F32.{f32}
use Rattle.route.specs.Postings.{Postings, TERMINATED, start, doc_at, last_doc}
use Rattle.route.specs.Cursor.{Cursor, advance_in, fresh}
use Rattle.route.specs.Route.{Route}
use Rattle.route.specs.Single.{Phase, walk, called, over, SinglePlace, block_wand_single_scorer, landed, leave, passed}
use Rattle.route.specs.Inner.Lists.{ListOk}
use Rattle.route.proofs.Places.{start-suc, start-le, doc_at-in, doc_at-out, last-in, last_out, last-place, le-last}
use Rattle.reports.specs.Inner.Turns.{Went}
use Rattle.reports.specs.declared.Event.TheVariants.{Report}
use Rattle.reports.proofs.TurnLaws.{Quietly, at-report, none_yet, one_more}
use Rattle.single_hunt.specs.Inner.Places.{skipped}

-- by what a test shows
on-true : {A : Type 0} {b : Bool} (x y : A) → b ≡ true → cond b x y ≡ x
on-true x y e = rw e

on-false : {A : Type 0} {b : Bool} (x y : A) → b ≡ false → cond b x y ≡ y
on-false x y e = rw e

module _ (l : Postings Float) {N : ℕ} (k : ListOk 128 N l) (b : ℕ) (within : b ≤ l.full) (loaded : Bool) (n : ℕ) (size : n ≡ min (l.len - start 128 b) 128) where
  -- place i of block b, which is decoded
  abbrev pub here : ℕ → Cursor
  here i = record { blk = b; loaded = loaded; dec = b; at = start 128 b + i }

  abbrev pub doc : ℕ → ℕ
  doc i = doc_at l (start 128 b + i)

  -- behind its n postings: past a full block, or the end
  abbrev behind : SinglePlace
  behind = skipped l (here (min n 127)) TERMINATED

  abbrev pub place_in : ℕ → SinglePlace
  place_in i = cond (ltb i n) (record { phase = walk; cur = here i; doc = doc i }) behind

  pub inside : (i : ℕ) → i < n → start 128 b + i < l.len
  inside i h = omega arith

  starts : start 128 b ≤ l.len
  starts = omega (arith, start-le 128 b l.full within, k.blocks)

  full_size : b < l.full → n ≡ 128
  full_size h = let s = start-suc 128 b in omega (arith, start-le 128 (suc b) l.full h, k.blocks)

  tail-size : l.full ≤ b → (n < 128) × (start 128 b + n ≡ l.len)
  tail-size h =
      let e : b ≡ l.full = omega arith in
      let t : l.len < start 128 b + 128 = rw e k.tail in
      let s = starts in
      (omega arith, omega arith)

  doc-small : (i : ℕ) → i < n → doc i < TERMINATED
  doc-small i h = let m = inside i h in omega (arith, doc_at-in 128 N l k (start 128 b + i) m, k.below (start 128 b + i) m, k.few)

  -- a posting with another behind it does not end its block
  not_last : (i : ℕ) → suc i < n → doc i ≡ last_doc l 128 b → ⊥
  not_last i h e =
      let m = inside (suc i) h in
      let j = inside i (omega arith) in
      let s = start-suc 128 b in
      omega (
        arith,
        doc_at-in 128 N l k (start 128 b + i) j,
        k.rises (start 128 b + i) (start 128 b + suc i) (omega arith) m,
        le-last 128 N l k b (start 128 b + suc i) m (omega arith),
      )

  ends : (h : b < l.full) → doc 127 ≡ last_doc l 128 b
  ends h =
      let p = last-place 128 N l k b h in
      let z = p.2 in
      let e : start 128 b + 127 ≡ pred (start 128 (suc b)) = omega arith in
      rw (e, lt-ltb (pred (start 128 (suc b))) l.len p.0) (sym (last-in 128 N l k b h))

  -- behind a full block, and behind the tail
  behind-full : b < l.full → behind ≡ leave 128 f32 l (last_doc l 128 b) (here 127)
  behind-full h =
      let p = (last-place 128 N l k b h).0 in
      let f = full_size h in
      let e : min n 127 ≡ 127 = omega arith in
      ap (λ (z : ℕ). skipped l (here z) TERMINATED) e
      ∙ on-false _ _ (ne_eqb (last_doc l 128 b) TERMINATED (λ q. omega (arith, q, last-in 128 N l k b h, k.below _ p, k.few)))

  behind-tail : l.full ≤ b → behind ≡ record { phase = over; cur = here n; doc = TERMINATED }
  behind-tail h =
      let t = (tail-size h).0 in
      let e : min n 127 ≡ n = omega arith in
      ap (λ (z : ℕ). skipped l (here z) TERMINATED) e ∙ on-true _ _ (eq-eqb (last_doc l 128 b) TERMINATED (last_out 128 N l k b h))

  -- advancing inside the block
  advances : (i : ℕ) → (i ≡ 127 → ⊥) → advance_in l 128 (here i) ≡ here (suc i)
  advances i h =
      let e : suc (start 128 b + i) ≡ start 128 b + suc i = omega arith in
      rw (ne_eqb (start 128 b + i) (start 128 b + 127) (λ q. h (omega arith)), e)

  next : ℕ → SinglePlace
  next i = passed 128 f32 l (here i) (doc i)

  -- to the posting behind it
  next-in : (i : ℕ) → suc i < n → next i ≡ place_in (suc i)
  unfolding next
  next-in i h =
      let d = doc-small (suc i) h in
      on-false _ _ (ne_eqb (doc i) (last_doc l 128 b) (not_last i h)) ∙ ap (landed 128 f32 l) (advances i (λ e. omega arith))
      ∙ ap (λ (z : Phase). record { phase = z; cur = here (suc i); doc = doc (suc i) }) (on-false over walk (ne_eqb (doc (suc i)) TERMINATED (λ e. omega arith)))
      ∙ sym (on-true _ behind (lt-ltb (suc i) n h))

  -- from a full block's last posting past the block
  next-full : b < l.full → next 127 ≡ behind
  unfolding next
  next-full h =
      on-true _ _ (eq-eqb (doc 127) (last_doc l 128 b) (ends h)) ∙ ap (λ (z : ℕ). leave 128 f32 l z (here 127)) (ends h) ∙ sym (behind-full h)

  -- from the tail's last posting to the end
  next-tail : l.full ≤ b → (i : ℕ) → suc i ≡ n → next i ≡ behind
  unfolding next
  next-tail h i e =
      let t = tail-size h in
      let d = doc-small i (omega arith) in
      let o : doc (suc i) ≡ TERMINATED = doc_at-out 128 N l k (start 128 b + suc i) (omega arith) in
      on-false _ _ (ne_eqb (doc i) (last_doc l 128 b) (λ q. omega (arith, last_out 128 N l k b h))) ∙ ap (landed 128 f32 l) (advances i (λ q. omega arith))
      ∙ ap (λ (z : ℕ). record { phase = cond (eqb z TERMINATED) over walk; cur = here (suc i); doc = z }) o
      ∙ ap (λ (z : ℕ). record { phase = over; cur = here z; doc = TERMINATED }) e
      ∙ sym (behind-tail h)

  -- EACH POSTING IS FOLLOWED BY THE NEXT
  next-is : (i : ℕ) → i < n → passed 128 f32 l (here i) (doc i) ≡ place_in (suc i)
  unfolding next
  next-is i h = elim (lt-or-ge (suc i) n) [
    | inl g ↦ next-in i g
    | inr g ↦ last_one g ∙ sym (on-false _ behind (le-ltb (suc i) n g))
  ]
    where
      last_one : n ≤ suc i → next i ≡ behind
      last_one g = elim (lt-or-ge b l.full) [
        | inl f ↦ let e : i ≡ 127 = omega (arith, full_size f) in ap next e ∙ next-full f
        | inr f ↦ next-tail f i (omega arith)
      ]

  pub on-place : (i : ℕ) → i < n → place_in i ≡ record { phase = walk; cur = here i; doc = doc i }
  on-place i h = on-true _ behind (lt-ltb i n h)

  -- ---- turns of the route

  module _ (ord : ℕ) (t : Float) where
    abbrev W : Route Float
    W = block_wand_single_scorer 128 f32 (record { ord = ord; list = l; cur = fresh })

    -- turns without a report
    abbrev pub Passes : SinglePlace → ℕ → SinglePlace → Type 0
    Passes = Quietly W.turn W.ended t

    abbrev score : ℕ → Float
    score i = l.score (start 128 b + i)

    -- behind a report the scorer goes on
    pub called-turn : (i : ℕ) → i < n → Passes (record { phase = called; cur = here i; doc = doc i }) 1 (place_in (suc i))
    called-turn i h = one_more W.turn W.ended t (none_yet W.turn W.ended t _) refl refl (next-is i h)

    -- a posting that is not due is passed in one turn
    quiet-turn : (i : ℕ) → i < n → lt t (score i) ≡ false → {p : SinglePlace} {m : ℕ} → Passes p m (place_in i) → Passes p (suc m) (place_in (suc i))
    quiet-turn i h low {p} {m} Q =
        one_more W.turn W.ended t (subst (Passes p m) (on-place i h) Q) refl (rw low)
        (on-false (record { phase = called; cur = here i; doc = doc i }) (passed 128 f32 l (here i) (doc i)) low ∙ next-is i h)

    pub stretch : {p : SinglePlace} {m from : ℕ} → Passes p m (place_in from) → (j : ℕ) → from + j ≤ n → ((i : ℕ) → from ≤ i → i < from + j → lt t (score i) ≡ false)
        → Passes p (m + j) (place_in (from + j))
    stretch {p} {m} {from} Q zero h low = rw (add-zero m, add-zero from) Q
    stretch {p} {m} {from} Q (suc j) h low =
        rw (add-suc m j, add-suc from j) (quiet-turn (from + j) (omega arith) (low (from + j) (omega arith) (omega arith)) (stretch Q j (omega arith) (λ i a b. low i a (omega arith))))

    -- one that is due is reported, and the scorer stays on it
    pub due-turn : (i : ℕ) → i < n → lt t (score i) ≡ true → {p : SinglePlace} {m turns : ℕ} → m < turns → Passes p m (place_in i)
        → Went W.turn W.ended t p turns (suc m) (record { phase = called; cur = here i; doc = doc i }) (Report (doc i) (score i))
    due-turn i h above {p} {m} few Q =
        at-report W.turn W.ended t (subst (Passes p m) (on-place i h) Q) few refl (rw above)
        (on-true (record { phase = called; cur = here i; doc = doc i }) (passed 128 f32 l (here i) (doc i)) above)
