-- The hunt: each turn of it is the route's, and so is the way into the block that it finds.
use mathlib.Core.Path.{◌≡◌, refl, sym, ap, ◌∙◌, subst}
use mathlib.Core.Bool.{true, false, cond, false≢true, true≢false}
use mathlib.Core.List.{List, []}
use Prim.Native.Nat.{ℕ, ◌≤◌, ◌<◌}
use native.Mathlib.Omega.{arith}
use lib.Dec.{eqb}
use lib.ListN.{get_or, length, length-set, set}
use lib.Ieee.{Float, lt}
use borrow.Author.Tests.{eq-eqb, ne_eqb}
use Rattle.route.specs.F32.{f32}
use Rattle.route.specs.Postings.{Postings, TERMINATED}
use Rattle.route.specs.Cursor.{Cursor, block_max, doc_here, seek_in}
use Rattle.route.specs.Single as route
use Rattle.route.specs.Inner.Singles.{SingleKept, single_cost}
use Rattle.route.proofs.Ending.{Nears}
use Rattle.route.proofs.Places.{last-cap}
use Rattle.route.proofs.Single.Ends.{single-nears}
use Rattle.bm25.specs.declared.Scoring.{Scoring}
use Rattle.notefile.specs.Header.{documents}
use Rattle.notefile.specs.Inner.Reads.{docs_of}
use Rattle.skip_reader.specs.Inner.Decoded.{doc-is, doc_in}
use Rattle.slot_rows.proofs.Rows.{cur-inside, doc-in-array}
use Rattle.term_scorer.specs.Inner.Slots.{Held, cursor_at, held, list_at, part_at, MovedSlot, Sixteen}
use Rattle.slot_scores.specs.Inner.Made.{ScoresMade}
use Rattle.slot_bounds.specs.Inner.Bounds.{Bounded}
use Rattle.term_scorer.specs.declared.score.Similarity.{Similarity}
use Rattle.term_scorer.specs.Inner.Weights.{Scored}
use Rattle.single_hunt.specs.Inner.Places.{on_walk, phase_of, place_of, single_route, skipped, MovedTo, Skips}
use Rattle.single_hunt.specs.Inner.Stands.{Entered, Hunted, Ready, Stands}
use Rattle.single_hunt.specs.declared.Phase.{Phase}
use Rattle.single_hunt.specs.declared.Phase.TheVariants.{Hunt, Over, Walk}
use Rattle.single_hunt.specs.declared.Single.{Single}
use Rattle.slot_bounds.proofs.Bounds.{bounded-cursor}
use Rattle.slot_scores.proofs.Made.{made-cursor, made-scored}
use Rattle.single_hunt.proofs.Scorers.{moved_to, ready-bounded, ready_made, ready_moved, right}
use Rattle.term_scorer.proofs.Slots.{standing-in}

module _ {file : List ℕ} {similarity : Similarity} {lists : List (List ℕ)} {norms : List (List Float)} where
  -- ---- the way into a block

  module _ (x : Single) {h : Held} {floats : List (List Float)} (R : Ready file similarity lists norms x.slot h floats) where
    abbrev q : ℕ
    q = x.slot

    abbrev row : List ℕ
    row = get_or h.places q []

    -- what `slot::doc` and `slot::seek` ask
    pub cur-small : get_or row 6 0 < 128
    cur-small = cur-inside file (get_or lists q []) row R.kept.slot.list R.kept.slot.place

    pub doc-there : {doc : ℕ} → doc ≡ get_or (docs_of (get_or h.blocks q [])) (get_or row 6 0) 0 → doc ≡ doc_in file (part_at lists q) (cursor_at h.places q).at
    doc-there e = e ∙ sym (doc-in-array file (get_or lists q []) row R.kept.slot.list R.kept.slot.place)

    module _ {h' : Held} {doc : ℕ} (M : MovedSlot file lists q (λ s. seek_in (list_at s file lists q) 128 x.doc (cursor_at h.places q)) h h' doc) where
      abbrev To : Scoring → Cursor
      To s = seek_in (list_at s file lists q) 128 x.doc (cursor_at h.places q)

      -- what `slot::doc` reads there
      pub read-then : {r : ℕ} → r ≡ get_or (docs_of (get_or h'.blocks q [])) (get_or (get_or h'.places q []) 6 0) 0 → MovedSlot file lists q To h h' r
      read-then e =
          subst (MovedSlot file lists q To h h')
          (M.moved.doc-is ∙ doc-in-array file (get_or lists q []) (get_or h'.places q []) R.kept.slot.list M.moved.place ∙ sym e) M

      sixteen-then : Sixteen h'.places × Sixteen h'.blocks
      sixteen-then =
          let s = R.kept.slot.sixteen in
          (ap length M.places-only ∙ length-set h.places q _ ∙ s.0, ap length M.blocks-only ∙ length-set h.blocks q _ ∙ s.1)

      doc-lands : (s : Scoring) → doc ≡ doc_here (list_at s file lists q) (To s)
      doc-lands s = M.moved.doc-is ∙ ap (λ (z : Cursor). doc_in file (part_at lists q) z.at) (M.moved.cursor-is s) ∙ sym (doc-is file (part_at lists q) s (To s).at)

      lands : (phase : Phase) → phase_of phase ≡ cond (eqb doc TERMINATED) route.over route.walk
          → MovedTo file lists q (λ s. route.landed 128 f32 (list_at s file lists q) (To s)) h h' (record { slot = q; doc = doc; phase = phase })
      lands phase e =
          moved_to R.kept.slot sixteen-then M.moved phase doc
          (λ s.
          ap (λ (z : route.Phase). record { phase = z; cur = To s; doc = doc }) e
          ∙ ap (λ (z : ℕ). record { phase = cond (eqb z TERMINATED) route.over route.walk; cur = To s; doc = z }) (doc-lands s))

      pub entered-over : doc ≡ 2147483647 → Entered file similarity lists norms x h (record { slot = q; doc = doc; phase = Over }) h' floats
      entered-over e =
          let L = lands Over (sym (rw (eq-eqb doc TERMINATED e))) in
          record { slot_is = refl; place_is = L.place_is similarity.scoring; ready = ready_moved R L; scores = λ w. absurd (false≢true w) }

      module _ (e : doc ≡ 2147483647 → ⊥) where
        walks : MovedTo file lists q (λ s. route.landed 128 f32 (list_at s file lists q) (To s)) h h' (record { slot = q; doc = doc; phase = Walk })
        walks = lands Walk (sym (rw (ne_eqb doc TERMINATED e)))

        -- what `keep_scores` asks
        pub ready-then : Ready file similarity lists norms q h' floats
        ready-then = ready_moved R walks

        pub entered : {places'' : List (List ℕ)} {floats' : List (List Float)} → ScoresMade similarity.scoring file lists q h'.places floats places'' floats'
            → Entered file similarity lists norms x h (record { slot = q; doc = doc; phase = Walk }) (held places'' h'.blocks) floats'
        entered K = record {
          slot_is = refl;
          place_is = ap (λ (z : Cursor). record { phase = route.walk; cur = z; doc = doc }) (made-cursor ready-then.kept.slot-in ready-then.kept.slot.sixteen.0 K q) ∙ walks.place_is similarity.scoring;
          ready = ready_made ready-then K;
          scores = λ _. made-scored ready-then.kept.slot-in ready-then.kept.slot.sixteen.0 K;
        }

  -- ---- a scan that stands

  -- what its route keeps on its way
  pub keeps : {x : Single} {h : Held} {floats : List (List Float)} → Stands file similarity lists norms x h floats → (ord : ℕ)
      → Nears (single_route similarity.scoring file lists x.slot ord)
      (λ p. SingleKept 128 (list_at similarity.scoring file lists x.slot) p.phase p.cur p.doc)
      (λ p. single_cost 128 (list_at similarity.scoring file lists x.slot) p.phase p.cur)
  keeps {x} S ord =
      single-nears 128 (documents file) f32 (list_at similarity.scoring file lists x.slot) (right (standing-in S.ready.kept.slot) similarity.scoring) ord

  -- a scan stands if it does in the slot that it has
  pub stands-in : {q : ℕ} (r : Single) {h : Held} {floats : List (List Float)} → r.slot ≡ q → Ready file similarity lists norms q h floats
      → (on_walk r.phase ≡ true → Scored similarity.scoring file lists h.places floats q)
      → SingleKept 128 (list_at similarity.scoring file lists q) (phase_of r.phase) (cursor_at h.places r.slot) r.doc
      → Stands file similarity lists norms r h floats
  stands-in r {h} {floats} e =
      subst (λ (q : ℕ). Ready file similarity lists norms q h floats
      → (on_walk r.phase ≡ true → Scored similarity.scoring file lists h.places floats q)
      → SingleKept 128 (list_at similarity.scoring file lists q) (phase_of r.phase) (cursor_at h.places r.slot) r.doc
      → Stands file similarity lists norms r h floats) e
      (λ a b c. record { ready = a; scores = b; kept = c })

  -- ---- a turn of the hunt

  module _ (t : Float) {x : Single} {h : Held} {floats : List (List Float)} (S : Stands file similarity lists norms x h floats) (e : x.phase ≡ Hunt) where
    abbrev l : Postings Float
    l = list_at similarity.scoring file lists x.slot

    abbrev c : Cursor
    c = cursor_at h.places x.slot

    hunting : SingleKept 128 l route.hunt c x.doc
    hunting = subst (λ (ph : Phase). SingleKept 128 l (phase_of ph) c x.doc) e S.kept

    -- what `enter` asks
    pub doc-low : x.doc ≤ 2147483647
    unfolding SingleKept
    doc-low =
        let d = hunting.2 in
        omega (arith, last-cap 128 (documents file) l (right (standing-in S.ready.kept.slot) similarity.scoring) c.blk)

    abbrev turned : route.SinglePlace
    turned = (route.hunt_turn 128 f32 l t c x.doc).next

    still : {p : route.SinglePlace} → turned ≡ p → SingleKept 128 l p.phase p.cur p.doc
    still n = subst (λ (p : route.SinglePlace). SingleKept 128 l p.phase p.cur p.doc) n ((keeps S 0).nears t (record { phase = route.hunt; cur = c; doc = x.doc }) refl hunting).0

    module _ {places' : List (List ℕ)} {bounds : List Float} {b : Float} (B : Bounded similarity.scoring file lists x.slot h.places (get_or floats 0 []) places' bounds b) where
      same : cursor_at places' x.slot ≡ c
      same = bounded-cursor S.ready.kept B

      pub hunt-enters : lt t b ≡ true → {r : Single} {h' : Held} {floats' : List (List Float)} → Entered file similarity lists norms x (held places' h.blocks) r h' floats'
          → Hunted file similarity lists norms t x h r h' floats'
      hunt-enters a {r} {h'} E =
          let above : lt t (block_max 128 f32 l c) ≡ true = ap (lt t) (sym B.bound-is) ∙ a in
          let n : turned ≡ place_of r h'.places = rw above (sym (E.place_is ∙ ap (λ (z : Cursor). route.landed 128 f32 l (seek_in l 128 x.doc z)) same)) in
          record { slot_is = E.slot_is; stands = stands-in r E.slot_is E.ready E.scores (still n); next-is = n }

      pub hunt-skips : lt t b ≡ false → {r : Single} {places'' : List (List ℕ)} → Skips file lists x.slot x.doc places' places'' r
          → Hunted file similarity lists norms t x h r (held places'' h.blocks) (set floats 0 bounds)
      hunt-skips a {r} {places''} K =
          let low : lt t (block_max 128 f32 l c) ≡ false = ap (lt t) (sym B.bound-is) ∙ a in
          let R = ready-bounded S.ready B in
          let M = K.moved h.blocks R.kept.slot in
          let n : turned ≡ place_of r places'' = rw low (sym (M.place_is similarity.scoring ∙ ap (λ (z : Cursor). skipped l z x.doc) same)) in
          record { slot_is = M.slot_is; stands = stands-in r M.slot_is (ready_moved R M) (λ w. absurd (true≢false (sym w ∙ K.off))) (still n); next-is = n }
