-- The scan's scorer in its slot: where it stands, how it moves, and that it is ready again.
use mathlib.Core.Path.{◌≡◌, refl, sym, ap, ◌∙◌, subst}
use mathlib.Core.Bool.{true≢false}
use mathlib.Core.List.{List, []}
use Prim.Native.Nat.{ℕ, min, ◌+◌, ◌≤◌, ◌<◌}
use native.Mathlib.Numerals.{add-one}
use native.Mathlib.Omega.{arith}
use lib.ListN.{get_or, length, length-set, set}
use lib.Seq.{get_or-set_same}
use lib.Ieee.{Float}
use borrow.Author.Tests.{eq-eqb, le-ltb, lt-ltb, ne_eqb}
use Rattle.route.specs.Postings.{TERMINATED, last_doc}
use Rattle.route.specs.Cursor.{Cursor, seek_block_in}
use Rattle.route.specs.Single.{SinglePlace}
use Rattle.route.specs.Inner.Lists.{ListOk}
use Rattle.route.proofs.Places.{last-cap}
use Rattle.bm25.specs.declared.Scoring.{Scoring}
use Rattle.bm25.specs.declared.Scoring.TheVariants.{Unstepped}
use Rattle.notefile.specs.Header.{documents}
use Rattle.notefile.specs.Inner.Reads.{docs_of}
use Rattle.decoded.proofs.AcceptedLists.{list-ok}
use Rattle.skip_reader.specs.Inner.Decoded.{doc_in}
use Rattle.postings.specs.Inner.Places.{cursor_of, Moved}
use Rattle.postings.specs.declared.cursor.SegmentPostings.{SegmentPostings}
use Rattle.skip_reader.proofs.Readers.{end_is}
use Rattle.slot_rows.specs.Inner.Rows.{cursor_in, part_in, postings_in, MovedRow, PlaceIn}
use Rattle.slot_rows.proofs.Rows.{last-is, moves-in}
use Rattle.term_scorer.specs.Inner.Slots.{Held, cursor_at, held, last_at, list_at, part_at, Shallowed, Sixteen, SlotIn, StandingIn}
use Rattle.slot_scores.specs.Inner.Made.{ScoresMade}
use Rattle.slot_bounds.specs.Inner.Bounds.{Bounded}
use Rattle.term_scorer.proofs.Floats.{rows-set}
use Rattle.term_scorer.specs.declared.score.Similarity.{Similarity}
use Rattle.single_hunt.specs.Inner.Places.{on_place, phase_of, skipped, MovedTo, Skips, ToPlace}
use Rattle.single_hunt.specs.Inner.Stands.{Ready}
use Rattle.single_hunt.specs.declared.Phase.{Phase}
use Rattle.single_hunt.specs.declared.Phase.TheVariants.{Hunt, Over, Walk}
use Rattle.single_hunt.specs.declared.Single.{Single}
use Rattle.slot_bounds.proofs.Bounds.{kept-bounded}
use Rattle.slot_scores.proofs.Made.{kept-made}
use Rattle.term_scorer.proofs.Kept.{kept_row}

-- ---- the list and the last document of the skip reader's block

module _ {file : List ℕ} {lists places : List (List ℕ)} {q : ℕ} (T : StandingIn file lists places q) (scoring : Scoring) where
  pub right : ListOk 128 (documents file) (list_at scoring file lists q)
  right = list-ok scoring file (part_at lists q) T.list.right T.list.few

  last-here : last_doc (list_at scoring file lists q) 128 (cursor_at places q).blk ≡ last_at places q
  unfolding cursor_in
  last-here = end_is file (part_at lists q) T.list scoring (get_or (get_or places q []) 0 0) ∙ sym (last-is file (part_at lists q) (get_or places q []) T.standing)

  pub last-low : last_at places q ≤ 2147483647
  last-low = subst (λ (z : ℕ). z ≤ 2147483647) last-here (last-cap 128 (documents file) (list_at scoring file lists q) right (cursor_at places q).blk)

-- ---- moves

module _ (file list : List ℕ) {row : List ℕ} {block : List (List ℕ)} (P : PlaceIn file (part_in list) row block) (i : ℕ) (h : i < 128) where
  abbrev p : SegmentPostings
  p = postings_in file (part_in list) row

  there : Moved file (part_in list) (λ _. on_place (cursor_of p) i)
      (record { skip_reader = p.skip_reader; block_loaded = p.block_loaded; decoded = p.decoded; cur = i }) block
  unfolding cursor_of
  there = record {
    cursor-is = λ _. refl;
    placed = record { stands = P.placed.stands; low = P.placed.low; holds = P.placed.holds; inside = h; loaded-is = P.placed.loaded-is };
  }

  -- to another place of the block decoded last
  put_in : MovedRow file (part_in list) (λ _. on_place (cursor_in row) i) row (set row 6 i) block (get_or (docs_of block) i 0)
  put_in = moves-in file list row (λ l c. on_place c i) P i there refl

module _ {file : List ℕ} {lists : List (List ℕ)} {q : ℕ} {h : Held} (S : SlotIn file lists h q) where
  -- a move of the slot's row, and the scan with it
  module _ {h' : Held} (sixteen : Sixteen h'.places × Sixteen h'.blocks) {to : Scoring → Cursor} {d : ℕ}
      (M : MovedRow file (part_at lists q) to (get_or h.places q []) (get_or h'.places q []) (get_or h'.blocks q []) d) where
    pub moved_to : (phase : Phase) (doc : ℕ) {place : Scoring → SinglePlace} → ((s : Scoring) → record { phase = phase_of phase; cur = to s; doc = doc } ≡ place s)
        → MovedTo file lists q place h h' (record { slot = q; doc = doc; phase = phase })
    moved_to phase doc e = record {
      slot_is = refl;
      place_is = λ s. ap (λ (z : Cursor). record { phase = phase_of phase; cur = z; doc = doc }) (M.cursor-is s) ∙ e s;
      kept = λ s norms floats K. kept_row sixteen M K;
    }

  -- nothing moves
  stay : MovedRow file (part_at lists q) (λ _. cursor_at h.places q) (get_or h.places q []) (get_or h.places q []) (get_or h.blocks q [])
      (doc_in file (part_at lists q) (cursor_at h.places q).at)
  stay = record { place = S.place; cursor-is = λ _. refl; doc-is = refl; bound-is = λ k. (k, refl, refl); scores-is = λ k. (k, refl); ahead-is = λ e k. k }

  -- its skip reader alone
  module _ {to : Scoring → Cursor} {places' : List (List ℕ)} (M : Shallowed file lists q to h.places places') where
    shallow-to : (phase : Phase) (doc : ℕ) {place : Scoring → SinglePlace} → ((s : Scoring) → record { phase = phase_of phase; cur = to s; doc = doc } ≡ place s)
        → MovedTo file lists q place h (held places' h.blocks) (record { slot = q; doc = doc; phase = phase })
    shallow-to phase doc e =
        moved_to (ap length M.only ∙ length-set h.places q _ ∙ S.sixteen.0, S.sixteen.1)
        (M.moved (get_or h.blocks q []) S.place) phase doc e

  -- to another place of its block
  module _ (small : q < 16) (i : ℕ) (hi : i < 128) where
    abbrev put : Held
    put = held (set h.places q (set (get_or h.places q []) 6 i)) h.blocks

    row-there : get_or put.places q [] ≡ set (get_or h.places q []) 6 i
    row-there = let s = S.sixteen.0 in get_or-set_same h.places q _ [] (omega arith)

    put-sixteen : Sixteen put.places × Sixteen h.blocks
    put-sixteen = (length-set h.places q _ ∙ S.sixteen.0, S.sixteen.1)

    put-row : MovedRow file (part_at lists q) (λ _. on_place (cursor_at h.places q) i) (get_or h.places q []) (get_or put.places q []) (get_or h.blocks q [])
        (get_or (docs_of (get_or h.blocks q [])) i 0)
    put-row = rw row-there (put_in file (get_or lists q []) S.place i hi)

    pub put-to : (phase : Phase) (doc : ℕ) {place : Scoring → SinglePlace}
        → ((s : Scoring) → record { phase = phase_of phase; cur = on_place (cursor_at h.places q) i; doc = doc } ≡ place s)
        → MovedTo file lists q place h put (record { slot = q; doc = doc; phase = phase })
    put-to phase doc e = moved_to put-sixteen put-row phase doc e

    pub put-cursor : cursor_at put.places q ≡ on_place (cursor_at h.places q) i
    put-cursor = put-row.cursor-is Unstepped

    pub put-slot : SlotIn file lists put q
    put-slot = record { sixteen = put-sixteen; part-row = S.part-row; list = S.list; place = put-row.place }

    -- and on from there
    put_then : {h'' : Held} {place : Scoring → SinglePlace} {r : Single} → MovedTo file lists q place put h'' r → MovedTo file lists q place h h'' r
    put_then M = record {
      slot_is = M.slot_is;
      place_is = M.place_is;
      kept = λ s norms floats K. M.kept s norms floats (kept_row put-sixteen put-row K);
    }

-- ---- past a block

module _ {file : List ℕ} {lists places : List (List ℕ)} {q : ℕ} (T : StandingIn file lists places q) (end : ℕ) {last : ℕ} (e : last ≡ last_at places q) where
  last-is-route : (s : Scoring) → last_doc (list_at s file lists q) 128 (cursor_at places q).blk ≡ last
  last-is-route s = last-here T s ∙ sym e

  pub skip-over : last ≡ 2147483647 → Skips file lists q end places places (record { slot = q; doc = end; phase = Over })
  skip-over h = record { moved = λ blocks S. moved_to S S.sixteen (stay S) Over end (λ s. sym (rw (last-is-route s, eq-eqb last TERMINATED h))); off = refl }

  pub skip-past : (last ≡ 2147483647 → ⊥) → {places' : List (List ℕ)}
      → Shallowed file lists q (λ s. seek_block_in (list_at s file lists q) 128 (last + 1) (cursor_at places q)) places places'
      → Skips file lists q end places places' (record { slot = q; doc = last + 1; phase = Hunt })
  skip-past h M = record { moved = λ blocks S. shallow-to S M Hunt (last + 1) (λ s. sym (rw (last-is-route s, ne_eqb last TERMINATED h, add-one last))); off = refl }

-- ---- to a place of a block, or out of it

module _ {file : List ℕ} {lists places : List (List ℕ)} {blocks : List (List (List ℕ))} {q : ℕ} (S : SlotIn file lists (held places blocks) q) (small : q < 16) (n i : ℕ) (short : n ≤ 128) where
  pub placed-in : i < n
      → ToPlace file lists q blocks n i places (set places q (set (get_or places q []) 6 i)) (record { slot = q; doc = get_or (docs_of (get_or blocks q [])) i 0; phase = Walk })
  placed-in h = record {
    moved = put-to S small i (omega arith) Walk (get_or (docs_of (get_or blocks q [])) i 0) (λ s. sym (rw (lt-ltb i n h)));
    same_block = λ _. ap (λ (z : Cursor). z.dec) (put-cursor S small i (omega arith));
  }

  pub placed-out : n ≤ i → {last : ℕ} → last ≡ min n 127 → {places' : List (List ℕ)} {r : Single}
      → Skips file lists q 2147483647 (set places q (set (get_or places q []) 6 last)) places' r → ToPlace file lists q blocks n i places places' r
  placed-out h {last} e {places'} {r} K =
      let hl : last < 128 = omega arith in
      let M = put_then S small last hl (K.moved blocks (put-slot S small last hl)) in
      record {
        moved = record {
          slot_is = M.slot_is;
          place_is = λ s.
              M.place_is s ∙ ap (λ (z : Cursor). skipped (list_at s file lists q) z TERMINATED) (put-cursor S small last hl)
              ∙ ap (λ (z : ℕ). skipped (list_at s file lists q) (on_place (cursor_at places q) z) TERMINATED) e ∙ sym (rw (le-ltb i n h));
          kept = M.kept;
        };
        same_block = λ w. absurd (true≢false (sym w ∙ K.off));
      }

-- ---- ready again

module _ {file : List ℕ} {similarity : Similarity} {lists : List (List ℕ)} {norms : List (List Float)} {q : ℕ} {h : Held} {floats : List (List Float)}
    (R : Ready file similarity lists norms q h floats) where
  -- behind a move
  pub ready_moved : {place : Scoring → SinglePlace} {h' : Held} {r : Single} → MovedTo file lists q place h h' r → Ready file similarity lists norms q h' floats
  ready_moved M = record { norms-are = R.norms-are; rows = R.rows; kept = M.kept similarity.scoring norms floats R.kept }

  -- with the scores of its block
  pub ready_made : {places' : List (List ℕ)} {floats' : List (List Float)} → ScoresMade similarity.scoring file lists q h.places floats places' floats'
      → Ready file similarity lists norms q (held places' h.blocks) floats'
  ready_made M = record { norms-are = R.norms-are; rows = M.rows; kept = kept-made R.kept.slot-in R.kept.slot.sixteen.0 M q R.kept }

  -- with its block's bound
  pub ready-bounded : {places' : List (List ℕ)} {bounds : List Float} {b : Float} → Bounded similarity.scoring file lists q h.places (get_or floats 0 []) places' bounds b
      → Ready file similarity lists norms q (held places' h.blocks) (set floats 0 bounds)
  ready-bounded {bounds = bounds} B = record {
    norms-are = R.norms-are;
    rows = rows-set 0 bounds R.rows (omega arith) (B.long ∙ R.rows.row 0 (omega arith));
    kept = kept-bounded R.kept B R.rows;
  }
