-- A scan's places, by the route's, and its scorer's moves from one to the next.
use Rattle.std.specs.Prelude.{◌≡◌, Bool, true, false, cond, List, [], ℕ, min, ◌+◌, eqb, ltb, get_or, Float}
use Rattle.route.specs.F32.{f32}
use Rattle.route.specs.Postings.{Postings, TERMINATED, last_doc, start}
use Rattle.route.specs.Cursor.{Cursor, fresh}
use Rattle.route.specs.Route.{Route}
use Rattle.route.specs.Single as route
use Rattle.notefile.specs.Inner.Reads.{docs_of}
use Rattle.bm25.specs.declared.Scoring.{Scoring}
use Rattle.term_scorer.specs.Inner.Slots.{Held, cursor_at, held, list_at, SlotIn}
use Rattle.term_scorer.specs.Inner.Weights.{KeptSlot}
use Rattle.single_hunt.specs.declared.Phase.{Phase}
use Rattle.single_hunt.specs.declared.Phase.TheVariants.{Hunt, Walk, Called, Over as Done}
use Rattle.single_hunt.specs.declared.Single.{Single}

-- a phase as the route has it
abbrev pub phase_of : Phase → route.Phase
phase_of Hunt = route.hunt
phase_of Walk = route.walk
phase_of Called = route.called
phase_of Done = route.over

-- a scan's place is the route's: its scorer's cursor stands in the slot
abbrev pub place_of : Single → List (List ℕ) → route.SinglePlace
place_of x places = record { phase = phase_of x.phase; cur = cursor_at places x.slot; doc = x.doc }

-- the scan has returned
abbrev pub is_done : Phase → Bool
is_done x = route.is_over (phase_of x)

-- it is on a block that it walks, or was when it reported
abbrev pub on_walk : Phase → Bool
on_walk Hunt = false
on_walk Walk = true
on_walk Called = true
on_walk Done = false

-- `block_wand_single_scorer` over a slot's list, whatever its position in a query
abbrev pub single_route : Scoring → List ℕ → List (List ℕ) → ℕ → ℕ → Route Float
single_route scoring file lists q ord =
    route.block_wand_single_scorer 128 f32 (record { ord = ord; list = list_at scoring file lists q; cur = fresh })

-- behind a report the next posting is asked first
abbrev pub start_of : Phase → ℕ → ℕ
start_of Hunt cur = cur
start_of Walk cur = cur
start_of Called cur = cur + 1
start_of Done cur = cur

-- place i of the block decoded last
abbrev pub on_place : Cursor → ℕ → Cursor
on_place c i = record { blk = c.blk; loaded = c.loaded; dec = c.dec; at = start 128 c.dec + i }

-- past the skip reader's block; over where it is the last, at document d
abbrev pub skipped : Postings Float → Cursor → ℕ → route.SinglePlace
skipped l c d =
    let e = last_doc l 128 c.blk in
    cond (eqb e TERMINATED) (record { phase = route.over; cur = c; doc = d }) (route.leave 128 f32 l e c)

-- place i of a block of n postings, or out of it: past a full block, or the end
abbrev pub in_block : Postings Float → Cursor → List ℕ → ℕ → ℕ → route.SinglePlace
in_block l c docs n i =
    cond (ltb i n) (record { phase = route.walk; cur = on_place c i; doc = get_or docs i 0 })
    (skipped l (on_place c (min n 127)) TERMINATED)

-- slot q's scorer has moved, and the scan to a place of the route, whatever the scoring: what was kept of the slot still is
pub record MovedTo (file : List ℕ) (lists : List (List ℕ)) (q : ℕ) (to : Scoring → route.SinglePlace)
    (before after : Held) (r : Single) : Type 0 where
  pub slot_is : r.slot ≡ q
  pub place_is : (s : Scoring) → place_of r after.places ≡ to s
  pub kept : (s : Scoring) (norms floats : List (List Float)) → KeptSlot s file lists norms before floats q
      → KeptSlot s file lists norms after floats q

module _ (file : List ℕ) (lists : List (List ℕ)) (q : ℕ) where
  -- what `skip` leaves, whatever the slots have decoded
  pub record Skips (end : ℕ) (places places' : List (List ℕ)) (r : Single) : Type 0 where
    pub moved : (blocks : List (List (List ℕ))) → SlotIn file lists (held places blocks) q
        → MovedTo file lists q (λ s. skipped (list_at s file lists q) (cursor_at places q) end)
        (held places blocks) (held places' blocks) r
    pub off : on_walk r.phase ≡ false

  -- what `to_place` leaves
  pub record ToPlace (blocks : List (List (List ℕ))) (n i : ℕ) (places places' : List (List ℕ)) (r : Single) : Type 0 where
    pub moved : MovedTo file lists q (λ s. in_block (list_at s file lists q) (cursor_at places q) (docs_of (get_or blocks q [])) n i)
        (held places blocks) (held places' blocks) r
    pub same_block : on_walk r.phase ≡ true → (cursor_at places' q).dec ≡ (cursor_at places q).dec
