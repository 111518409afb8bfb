-- The walk over the block in a slot: its decoded documents and scores are the route's, so each posting that it passes is the route's turn.
use mathlib.Core.Path.{◌≡◌, refl, sym, ap, ◌∙◌, subst}
use mathlib.Core.Bool.{true, false≢true}
use mathlib.Core.List.{List, []}
use mathlib.Core.Logic.{inl, inr}
use Prim.Native.Nat.{ℕ, suc, min, ◌+◌, ◌*◌, ◌-◌, ◌≤◌, ◌<◌}
use native.Mathlib.Numerals.{add-one}
use native.Mathlib.Omega.{arith}
use lib.ListN.{get_or, set}
use lib.Ieee.{Float, nan, lt}
use borrow.Author.Tests.{lt-ltb, le-ltb}
use Rattle.arrays.proofs.Order.{lt-or-ge}
use Rattle.route.specs.Postings.{Postings, TERMINATED, start, doc_at}
use Rattle.route.specs.Cursor.{Cursor}
use Rattle.route.specs.Route.{Route}
use Rattle.route.specs.Single as route
use Rattle.route.specs.Inner.Lists.{ListOk}
use Rattle.route.specs.Inner.Singles.{SingleKept}
use Rattle.route.proofs.Cases.{on_test}
use Rattle.route.proofs.Cursor.{on-block}
use Rattle.route.proofs.Places.{doc_at-lt, start-le}
use Rattle.notefile.specs.Header.{documents}
use Rattle.notefile.specs.Inner.Reads.{docs_of}
use Rattle.reports.specs.Inner.Turns.{Went}
use Rattle.reports.specs.declared.Event.TheVariants.{Over, Paused, Report}
use Rattle.reports.proofs.TurnLaws.{Quietly, at-end, at_pause, none_yet}
use Rattle.reports.proofs.RunLaws.{went-near}
use Rattle.decoded.specs.Lists.{list_of}
use Rattle.skip_reader.specs.Inner.Decoded.{doc-is}
use Rattle.slot_rows.specs.Inner.Rows.{cursor_in, part_in, postings_in}
use Rattle.term_scorer.specs.Inner.Slots.{Held, cursor_at, held, list_at, part_at}
use Rattle.term_scorer.specs.declared.score.Similarity.{Similarity}
use Rattle.single_hunt.specs.Inner.Places.{in_block, on_place, on_walk, phase_of, place_of, single_route, skipped, start_of, MovedTo, ToPlace}
use Rattle.single_hunt.specs.Inner.Stands.{Stands}
use Rattle.single_walk.specs.Inner.Strides.{Steps}
use Rattle.single_walk.specs.Inner.Walks.{FirstAbove, Tables}
use Rattle.single_hunt.specs.declared.Phase.{Phase}
use Rattle.single_hunt.specs.declared.Phase.TheVariants.{Called, Hunt, Over as Done, Walk}
use Rattle.single_hunt.specs.declared.Single.{Single}
use Rattle.single_hunt.proofs.Scorers.{put-cursor, put-to, ready_moved, right}
use Rattle.term_scorer.proofs.Slots.{standing-in}
use Rattle.single_hunt.proofs.Hunting.{cur-small, keeps, stands-in}
use Rattle.single_walk.proofs.BlockTurns.{Passes, called-turn, doc, due-turn, here, inside, on-place, place_in, stretch}

-- behind a report the route keeps what it keeps on a walk
on-a-walk : (l : Postings Float) (phase : Phase) (c : Cursor) (d : ℕ) → on_walk phase ≡ true → SingleKept 128 l (phase_of phase) c d → SingleKept 128 l route.walk c d
unfolding SingleKept
on-a-walk l Hunt c d w k = absurd (false≢true w)
on-a-walk l Walk c d w k = k
on-a-walk l Called c d w k = k
on-a-walk l Done c d w k = absurd (false≢true w)

module _ {file : List ℕ} {similarity : Similarity} {lists : List (List ℕ)} {norms : List (List Float)} where
  -- what the route keeps is kept by turns without a report
  kept_on : {x : Single} {h : Held} {floats : List (List Float)} → Stands file similarity lists norms x h floats → (t : Float) {m : ℕ} {p : route.SinglePlace}
      → Quietly (single_route similarity.scoring file lists x.slot 0).turn (single_route similarity.scoring file lists x.slot 0).ended t (place_of x h.places) m p
      → SingleKept 128 (list_at similarity.scoring file lists x.slot) p.phase p.cur p.doc
  kept_on {x} {h} S t {m} {p} Q =
      let W = single_route similarity.scoring file lists x.slot 0 in
      on_test (W.ended p)
      (λ e. (went-near W (keeps S 0) t (place_of x h.places) Over S.kept (at-end W.turn W.ended t Q {turns = m} (omega arith) e)).0)
      (λ e. (went-near W (keeps S 0) t (place_of x h.places) Paused S.kept (at_pause W.turn W.ended t Q e)).0)

  module _ {x : Single} {places : List (List ℕ)} {blocks : List (List (List ℕ))} {floats : List (List Float)} {values : List Float} (T : Tables file lists x places blocks values similarity norms floats) where
    abbrev q : ℕ
    q = x.slot

    abbrev l : Postings Float
    l = list_at similarity.scoring file lists q

    abbrev c : Cursor
    c = cursor_at places q

    abbrev row : List ℕ
    row = get_or places q []

    abbrev cur : ℕ
    cur = get_or row 6 0

    abbrev docs : List ℕ
    docs = docs_of (get_or blocks q [])

    ok : ListOk 128 (documents file) l
    ok = right (standing-in T.stands.ready.kept.slot) similarity.scoring

    kept : SingleKept 128 l route.walk c x.doc
    kept = on-a-walk l x.phase c x.doc T.walking T.stands.kept

    -- the block that is walked is the skip reader's
    on : c.dec ≡ c.blk
    unfolding SingleKept
    on = let d = kept.2 in on-block 128 (documents file) l ok c x.doc kept.0 kept.1 (omega (arith, kept.3)) (omega arith)

    within : c.blk ≤ l.full
    unfolding SingleKept
    within = kept.0.in_list

    pub cur-inside : cur < 128
    cur-inside = cur-small x T.stands.ready

    -- the block starts inside the list
    pub starts : get_or row 0 0 * 128 ≤ get_or (get_or lists q []) 2 0
    unfolding start cursor_in part_in list_of
    starts = omega (arith, start-le 128 c.blk l.full within, ok.blocks)

    module _ {n : ℕ} (en : n ≡ min (get_or (get_or lists q []) 2 0 - get_or row 0 0 * 128) 128) where
      pub short : n ≤ 128
      short = omega arith

      size : n ≡ min (l.len - start 128 c.blk) 128
      unfolding start cursor_in part_in list_of
      size = en

      -- the route's place for place i of the block, and behind it
      abbrev place : ℕ → route.SinglePlace
      place i = place_in l ok c.blk within c.loaded n size i

      at_here : (i : ℕ) → here l ok c.blk within c.loaded n size i ≡ on_place c i
      at_here i = sym (rw on)

      doc-at : (i : ℕ) → i < 128 → doc_at l (start 128 c.blk + i) ≡ get_or docs i 0
      unfolding cursor_in postings_in
      doc-at i h =
          ap (λ (z : ℕ). doc_at l (start 128 z + i)) (sym on) ∙ doc-is file (part_at lists q) similarity.scoring (start 128 c.dec + i)
          ∙ sym (T.stands.ready.kept.slot.place.placed.holds.docs-are.at i h)

      value-at : (i : ℕ) → i < n → l.score (start 128 c.blk + i) ≡ get_or values i nan
      value-at i h =
          let m = inside l ok c.blk within c.loaded n size i h in
          let j : start 128 c.dec + i < l.len = rw on m in
          ap (λ (z : ℕ). l.score (start 128 z + i)) (sym on) ∙ sym ((T.stands.scores T.walking).at i (omega arith) j) ∙ ap (λ (z : List Float). get_or z i nan) T.row_is

      in-block : (i : ℕ) → in_block l c docs n i ≡ place i
      in-block i = elim (lt-or-ge i n) [
        | inl h ↦
            rw (lt-ltb i n h) (ap (λ (z : Cursor). record { phase = route.walk; cur = z; doc = get_or docs i 0 }) (sym (at_here i))
            ∙ ap (λ (z : ℕ). record { phase = route.walk; cur = here l ok c.blk within c.loaded n size i; doc = z }) (sym (doc-at i (omega arith))))
        | inr h ↦ rw (le-ltb i n h) (ap (λ (z : Cursor). skipped l z TERMINATED) (sym (at_here (min n 127))))
      ]

      -- the scan stands on a posting of the block
      pub cur-in : cur < n
      unfolding SingleKept cursor_in
      cur-in =
          let d = kept.2 in
          let m = doc_at-lt 128 (documents file) l ok c.at (omega (arith, kept.3)) in
          let i = cur-inside in
          omega (arith, size, ap (start 128) on)

      cursor-is : c ≡ here l ok c.blk within c.loaded n size cur
      unfolding cursor_in
      cursor-is = sym (at_here cur)

      doc-now : x.doc ≡ doc l ok c.blk within c.loaded n size cur
      unfolding SingleKept
      doc-now = kept.2 ∙ ap (λ (z : Cursor). doc_at l z.at) cursor-is

      -- on place i of the block, in a phase
      abbrev on-posting : route.Phase → ℕ → route.SinglePlace
      on-posting phase i = record { phase = phase; cur = here l ok c.blk within c.loaded n size i; doc = doc l ok c.blk within c.loaded n size i }

      here-now : (phase : route.Phase) → record { phase = phase; cur = c; doc = x.doc } ≡ on-posting phase cur
      here-now phase = ap (λ (z : ℕ). record { phase = phase; cur = c; doc = z }) doc-now
          ∙ ap (λ (z : Cursor). record { phase = phase; cur = z; doc = doc l ok c.blk within c.loaded n size cur }) cursor-is

      module _ (t : Float) where
        module _ (ord : ℕ) where
          abbrev W : Route Float
          W = single_route similarity.scoring file lists q ord

          abbrev Goes : route.SinglePlace → ℕ → route.SinglePlace → Type 0
          Goes = Passes l ok c.blk within c.loaded n size ord t

          -- up to the first posting that is asked
          begins : (phase : Phase) → on_walk phase ≡ true → (from : ℕ) → from ≡ start_of phase cur → Goes (on-posting (phase_of phase) cur) (from - cur) (place from)
          begins Hunt w from e = absurd (false≢true w)
          begins Walk w from e =
              let z : from - cur ≡ 0 = omega arith in
              rw z (subst (Goes (on-posting route.walk cur) 0) (sym (on-place l ok c.blk within c.loaded n size cur cur-in) ∙ ap place (sym e)) (none_yet W.turn W.ended t _))
          begins Called w from e =
              let z : from - cur ≡ 1 = omega arith in
              let f : suc cur ≡ from = omega arith in
              rw z (subst (λ (m : ℕ). Goes (on-posting route.called cur) 1 (place m)) f (called-turn l ok c.blk within c.loaded n size ord t cur cur-in))
          begins Done w from e = absurd (false≢true w)

        start-bounds : (phase : Phase) → on_walk phase ≡ true → (cur ≤ start_of phase cur) × (start_of phase cur ≤ cur + 1)
        start-bounds Hunt w = (omega arith, omega arith)
        start-bounds Walk w = (omega arith, omega arith)
        start-bounds Called w = (omega arith, omega arith)
        start-bounds Done w = (omega arith, omega arith)

        module _ {turns : ℕ} (some : 0 < turns) {end : ℕ} (ee : end ≡ min n (cur + turns)) {from : ℕ} (ef : from ≡ start_of x.phase cur) where
          -- what `first_above` asks
          pub room : (from ≤ end) × (end ≤ 128)
          room = (omega (arith, (start-bounds x.phase T.walking).1, cur-in), omega (arith, short))

          module _ {i : ℕ} (F : FirstAbove values from end t i) where
            pub low : cur ≤ i
            low = omega (arith, (start-bounds x.phase T.walking).0, F.low)

            high : (i ≤ n) × (i - cur ≤ turns)
            high = (omega (arith, F.high), omega (arith, F.high))

            -- the postings on the way take a turn each
            reached : (ord : ℕ) → Goes ord (place_of x places) (i - cur) (place i)
            reached ord =
                let a = (start-bounds x.phase T.walking).0 in
                let b = F.low in
                let m : from - cur + (i - from) ≡ i - cur = omega arith in
                let e : from + (i - from) ≡ i = omega arith in
                subst (λ (z : ℕ). Goes ord (place_of x places) z (place i)) m
                (subst (λ (z : ℕ). Goes ord (place_of x places) (from - cur + (i - from)) (place z)) e
                (stretch l ok c.blk within c.loaded n size ord t (subst (λ (p : route.SinglePlace). Goes ord p (from - cur) (place from)) (sym (here-now (phase_of x.phase))) (begins ord x.phase T.walking from ef)) (i - from) (omega (arith, high.0))
                (λ k g h. ap (lt t) (value-at k (omega (arith, high.0))) ∙ F.quiet k g (omega arith))))

            -- ---- none is due

            module _ (e : i ≡ end) {r : Single} {places' : List (List ℕ)} (P : ToPlace file lists q blocks n i places places' r) where
              there : place_of r places' ≡ place i
              there = P.moved.place_is similarity.scoring ∙ in-block i

              passes : (ord : ℕ) → Goes ord (place_of x places) (i - cur) (place_of r places')
              passes ord = subst (Goes ord (place_of x places) (i - cur)) (sym there) (reached ord)

              pub walk-on : Steps file similarity lists norms t turns x (held places blocks) (record { to = r; taken = i - cur; event = Paused }) (held places' blocks) floats
              walk-on = record {
                slot_is = P.moved.slot_is;
                stands = stands-in r P.moved.slot_is (ready_moved T.stands.ready P.moved)
                    (λ w. rw (P.same_block w) (T.stands.scores T.walking)) (kept_on T.stands t (passes 0));
                strode = λ ord. let Q = passes ord in (omega (arith, cur-in), high.1, Q.place_is, Q.silent);
              }

            -- ---- one is

            module _ (e : i ≡ end → ⊥) {d : ℕ} (ed : d ≡ get_or docs i 0) where
              in-n : i < n
              in-n = elim (lt-or-ge i end) [
                | inl h ↦ omega arith
                | inr h ↦ absurd (e (omega (arith, F.high)))
              ]

              before-end : i < end
              before-end = elim (lt-or-ge i end) [
                | inl h ↦ h
                | inr h ↦ absurd (e (omega (arith, F.high)))
              ]

              small : i < 128
              small = omega (arith, in-n, short)

              abbrev put : Held
              put = held (set places q (set row 6 i)) blocks

              called-there : MovedTo file lists q (λ _. record { phase = route.called; cur = on_place c i; doc = d }) (held places blocks) put (record { slot = q; doc = d; phase = Called })
              called-there = put-to T.stands.ready.kept.slot T.stands.ready.kept.slot-in i small Called d (λ _. refl)

              arrived : place_of (record { slot = q; doc = d; phase = Called }) put.places
                  ≡ on-posting route.called i
              arrived =
                  called-there.place_is similarity.scoring ∙ ap (λ (z : Cursor). record { phase = route.called; cur = z; doc = d }) (sym (at_here i))
                  ∙ ap (λ (z : ℕ). record { phase = route.called; cur = here l ok c.blk within c.loaded n size i; doc = z }) (ed ∙ sym (doc-at i small))

              abbrev Told : ℕ → ℕ → Float → Type 0
              Told ord doc score = Went (W ord).turn (W ord).ended t (place_of x places) turns (suc (i - cur)) (on-posting route.called i) (Report doc score)

              reports : (ord : ℕ) → Went (W ord).turn (W ord).ended t (place_of x places) turns (i - cur + 1)
                  (place_of (record { slot = q; doc = d; phase = Called }) put.places) (Report d (get_or values i nan))
              reports ord =
                  let above : lt t (l.score (start 128 c.blk + i)) ≡ true = ap (lt t) (value-at i in-n) ∙ F.due before-end in
                  let few : i - cur < turns = omega (arith, before-end, low) in
                  let w = due-turn l ok c.blk within c.loaded n size ord t i in-n above few (reached ord) in
                  rw (add-one (i - cur), arrived)
                  (subst (λ (z : ℕ). Told ord z (get_or values i nan)) (doc-at i small ∙ sym ed)
                  (subst (Told ord (doc l ok c.blk within c.loaded n size i)) (value-at i in-n) w))

              pub walk-due : Steps file similarity lists norms t turns x (held places blocks)
                  (record { to = record { slot = q; doc = d; phase = Called }; taken = i - cur + 1; event = Report d (get_or values i nan) }) put floats
              walk-due = record {
                slot_is = refl;
                stands = record {
                  ready = ready_moved T.stands.ready called-there;
                  scores = λ _. rw (ap (λ (z : Cursor). z.dec) (put-cursor T.stands.ready.kept.slot T.stands.ready.kept.slot-in i small)) (T.stands.scores T.walking);
                  kept = (went-near (W 0) (keeps T.stands 0) t (place_of x places) (Report d (get_or values i nan)) T.stands.kept (reports 0)).0;
                };
                strode = reports;
              }
