-- EACH SCORER OF THE ROUTE HAS ITS BLOCK, ITS PLACE AND WHETHER IT IS LOADED BY ITS SLOT'S CURSOR, wherever a run stands.
use mathlib.Core.Path.{refl}
use mathlib.Core.List.{List, [], ◌∷◌, map}
use Prim.Native.Nat.{ℕ}
use lib.ListN.{take}
use lib.Ieee.{Float}
use Rattle.arrays.specs.Every.{All}
use Rattle.reports.specs.Inner.Runs.{AtRest}
use Rattle.term_scorer.specs.Inner.Slots.{cursor_at}
use Rattle.term_scorer.specs.declared.score.Similarity.{Similarity}
use Rattle.union_moves.specs.Inner.Seats.{slot_scorer}
use Rattle.intersection_order.specs.Inner.Scorers.{query}
use Rattle.block_wand_intersection.proofs.Going as all
use Rattle.machine.specs.Inner.Places.{scorers_in}
use Rattle.machine.specs.Inner.Stands.{Tables, place_in}
use Rattle.machine.specs.declared.Machine.{Machine}
use Rattle.machine.specs.declared.Machine.TheVariants.{Intersection, Plain, Single, Union}

module _ (file : List ℕ) (similarity : Similarity) (lists : List (List ℕ)) (norms : List (List Float)) where
  in-slots : (places : List (List ℕ)) (qs : List ℕ) → All (AtRest (cursor_at places)) (map (slot_scorer file lists similarity.scoring places) qs)
  in-slots places [] = tt
  in-slots places (q ∷ qs) = (refl, in-slots places qs)

  pub at_rest : (h : Tables) (m : Machine) → All (AtRest (cursor_at h.held.places)) (scorers_in (place_in file similarity lists norms h m))
  at_rest h (Union u) = in-slots h.held.places (take u.len h.order)
  at_rest h (Single x) = (refl, tt)
  at_rest h (Intersection v) = all.at_rest (query similarity file lists norms v.len h.order) h.held.places
  at_rest h (Plain x) = tt
