-- Where a scan stands, with all that it needs to go on, and what a turn of the hunt leaves.
use Rattle.std.specs.Prelude.{◌≡◌, true, List, ℕ, Float}
use Rattle.route.specs.F32.{f32}
use Rattle.route.specs.Cursor.{seek_in}
use Rattle.route.specs.Single.{hunt_turn, landed}
use Rattle.route.specs.Inner.Singles.{SingleKept}
use Rattle.notefile.specs.Header.{norm_reader}
use Rattle.term_scorer.specs.Inner.Slots.{Held, cursor_at, list_at}
use Rattle.term_scorer.specs.Inner.Weights.{FloatRows, KeptSlot, Scored}
use Rattle.term_scorer.specs.declared.score.Similarity.{Similarity}
use Rattle.single_hunt.specs.Inner.Places.{on_walk, phase_of, place_of}
use Rattle.single_hunt.specs.declared.Single.{Single}

module _ (file : List ℕ) (similarity : Similarity) (lists : List (List ℕ)) (norms : List (List Float)) where
  -- a scan has its tables, and all that is kept of slot q
  pub record Ready (q : ℕ) (h : Held) (floats : List (List Float)) : Type 0 where
    pub norms-are : similarity.norms ≡ norm_reader file
    pub rows : FloatRows floats
    pub kept : KeptSlot similarity.scoring file lists norms h floats q

  -- A scan stands at its place of the route: on a walk its slot's row has the scores of the block decoded last.
  pub record Stands (x : Single) (h : Held) (floats : List (List Float)) : Type 0 where
    pub ready : Ready x.slot h floats
    pub scores : on_walk x.phase ≡ true → Scored similarity.scoring file lists h.places floats x.slot
    pub kept : SingleKept 128 (list_at similarity.scoring file lists x.slot)
        (phase_of x.phase) (cursor_at h.places x.slot) x.doc

  -- what `enter` leaves: a posting, with the scores of its block, or the end
  pub record Entered (x : Single) (before : Held) (r : Single) (after : Held) (floats : List (List Float)) : Type 0 where
    pub slot_is : r.slot ≡ x.slot
    pub place_is : let l = list_at similarity.scoring file lists x.slot in
        place_of r after.places ≡ landed 128 f32 l (seek_in l 128 x.doc (cursor_at before.places x.slot))
    pub ready : Ready x.slot after floats
    pub scores : on_walk r.phase ≡ true → Scored similarity.scoring file lists after.places floats x.slot

  module _ (t : Float) where
    -- what `hunt` leaves: the route's next place
    pub record Hunted (x : Single) (before : Held) (r : Single) (after : Held) (floats : List (List Float)) : Type 0 where
      pub slot_is : r.slot ≡ x.slot
      pub stands : Stands r after floats
      pub next-is : let l = list_at similarity.scoring file lists x.slot in
          (hunt_turn 128 f32 l t (cursor_at before.places x.slot) x.doc).next ≡ place_of r after.places
