-- A bound that has become known.
use mathlib.Core.List.{List, []}
use mathlib.Core.Path.{ap, refl, sym, ◌∙◌, ◌≡◌}
use Prim.Native.Nat.{ℕ, ◌<◌, ◌≤◌}
use native.Mathlib.Omega.{arith}
use lib.ListN.{get_or}
use lib.Ieee.{Float, nan}
use Rattle.route.specs.F32.{f32}
use Rattle.route.specs.Cursor.{Cursor, block_max}
use Rattle.slot_rows.specs.Inner.Rows.{PlaceIn}
use Rattle.term_scorer.specs.Inner.Slots.{Held, cursor_at, held, part_at}
use Rattle.term_scorer.specs.Inner.Weights.{BoundKept, FloatRow}
use Rattle.slot_bounds.specs.Inner.Bounds.{Bounded}
use Rattle.slot_bounds.proofs.Bounds.{bounded-kept, bounded-off, bounded-place, bounded-scores, bounded-sixteen, others-kept}
use Rattle.intersection_order.specs.Inner.Scorers.{Query, Ready, SlotsIn, StillScored, BoundsKept, list_in}
use Rattle.intersection_order.proofs.Seats.{Only, at_slot, seated-by, still-scored}

-- a bound that has become known moves nothing
module _ (x : Query) (few : x.len ≤ 16) {h : Held} (S : SlotsIn x h) {q : ℕ} (hq : q < x.len) {bounds : List Float} {places' : List (List ℕ)} {bounds' : List Float} {b : Float}
    (B : Bounded x.scoring x.file x.lists q h.places bounds places' bounds' b) where
  abbrev h' : Held
  h' = held places' h.blocks

  pub known_only : Only q h h'
  known_only r n = record { place = bounded-off B r n; block = refl }

  there : PlaceIn x.file (part_at x.lists q) (get_or places' q []) (get_or h.blocks q []) × (cursor_at places' q ≡ cursor_at h.places q)
  there = bounded-place B (omega arith) S.sixteen.0 (S.slot q hq).place

  pub known-cursor : cursor_at places' q ≡ cursor_at h.places q
  known-cursor = there.1

  known-seated : SlotsIn x h'
  known-seated = seated-by x S hq (bounded-sixteen B S.sixteen.0, S.sixteen.1) known_only there.0

  pub known-scored : StillScored x q h.places places'
  known-scored = still-scored x h.places places' q (λ k. (sym (bounded-scores B (omega arith) S.sixteen.0) ∙ k, ap (λ (c : Cursor). c.dec) known-cursor))

  pub known-bound : get_or bounds' q nan ≡ block_max 128 f32 (list_in x q) (cursor_at h.places q)
  known-bound = B.bound-there ∙ B.bound-is

  pub known-others : (r : ℕ) → r < x.len → (r ≡ q → ⊥) → get_or bounds' r nan ≡ get_or bounds r nan
  known-others r hr n = (B.others r (omega arith) n).bound

  pub known-ready : FloatRow bounds → BoundsKept x h.places bounds → Ready x h' bounds'
  known-ready long K = record {
    seated = known-seated;
    kept =
        at_slot (λ r. r < x.len → BoundKept x.scoring x.file x.lists places' bounds' r) q
        (λ _. bounded-kept B (omega arith) S.sixteen.0 (S.slot q hq).place)
        (λ r n hr. others-kept B (omega arith) S.sixteen.0 r (omega arith) n (K r hr));
    long = B.long ∙ long;
  }
