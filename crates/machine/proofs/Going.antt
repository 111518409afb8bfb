-- What each mode leaves is what the machine leaves.
use mathlib.Core.Path.{◌≡◌, ap, sym, subst, ◌∙◌}
use mathlib.Core.List.{List, []}
use Prim.Native.Nat.{ℕ}
use lib.Ieee.{Float}
use Rattle.route.specs.F32.{f32}
use Rattle.route.specs.Union.{union_turn}
use Rattle.reports.specs.Inner.Turns.{Went}
use Rattle.term_scorer.specs.Inner.Slots.{Held}
use Rattle.term_scorer.specs.declared.score.Similarity.{Similarity}
use Rattle.single_hunt.specs.Inner.Places as places
use Rattle.single_hunt.specs.declared.Single.{Single}
use Rattle.reports.specs.declared.Gone.{Gone}
use Rattle.block_wand_single.specs.Inner.Runs.{Goes}
use Rattle.union_moves.specs.Inner.Seats.{terms}
use Rattle.union_turn.specs.Inner.Runs as any
use Rattle.union_turn.specs.declared.Union.{Union}
use Rattle.intersection_order.specs.Inner.Scorers.{query}
use Rattle.intersection_turn.specs.Inner.Stands as stands
use Rattle.block_wand_intersection.specs.Inner.Runs as all
use Rattle.intersection_stage.specs.declared.Intersection.{Intersection}
use Rattle.plain_scan.specs.Inner.Turns.{hits_of, GoneOn}
use Rattle.plain_scan.specs.declared.Plain.{Plain}
use Rattle.machine.specs.Inner.Places.{intersection, over_in, single, turn_in}
use Rattle.machine.specs.Inner.Stands.{Tables, only_scorer}
use Rattle.machine.specs.Inner.Goes.{GoesOn}
use Rattle.reports.specs.declared.Event.{Event}
use Rattle.machine.specs.declared.Machine.{Machine}
use Rattle.machine.specs.declared.Machine.TheVariants as mode
use Rattle.machine.proofs.Embeds.{runs-intersection, runs-plain, runs-single, runs-union, went-in}

-- a state told as a machine, by its parts
pub as-machine : {r : Gone Machine} {m : Machine} {taken : ℕ} {event : Event} → r.to ≡ m → r.taken ≡ taken → r.event ≡ event → r ≡ record { to = m; taken = taken; event = event }
as-machine {r} {m} {taken} a b c =
    ap (λ (z : Machine). record { to = z; taken = r.taken; event = r.event }) a
    ∙ ap (λ (z : ℕ). record { to = m; taken = z; event = r.event }) b
    ∙ ap (λ (z : Event). record { to = m; taken = taken; event = z }) c

module _ (file : List ℕ) (similarity : Similarity) (lists : List (List ℕ)) (norms : List (List Float)) (t : Float) (turns : ℕ) where
  -- a union
  pub union-goes : (u : Union) (old : Tables) {order : List ℕ} {h : Held} {floats : List (List Float)} (r : Gone Union)
      → any.Stands file lists (terms similarity.scoring norms floats) r.to order h
      → Went (union_turn 128 f32) any.union_ended t (any.place_of file lists similarity.scoring u old.order old.held.places) turns r.taken
      (any.place_of file lists similarity.scoring r.to order h.places) r.event
      → GoesOn file similarity lists norms t turns old (mode.Union u) (record { order = order; held = h; floats = floats })
      (record { to = mode.Union r.to; taken = r.taken; event = r.event })
  union-goes u old r S w = record {
    stands = S;
    went = went-in (runs-union []) t (any.place_of file lists similarity.scoring u old.order old.held.places) r.event w;
  }

  -- a single scan stays in its slot
  pub single-goes : (x : Single) (old : Tables) (r : Gone Single) {h : Held} {floats : List (List Float)}
      → Goes file similarity lists norms t turns x old.held r h floats
      → GoesOn file similarity lists norms t turns old (mode.Single x) (record { order = old.order; held = h; floats = floats })
      (record { to = mode.Single r.to; taken = r.taken; event = r.event })
  single-goes x old r {h} G = record {
    stands = G.stands;
    went = subst (λ (q : ℕ). Went turn_in over_in t (single (only_scorer file similarity lists norms x.slot) (places.place_of x old.held.places)) turns r.taken
        (single (only_scorer file similarity lists norms q) (places.place_of r.to h.places)) r.event) (sym G.slot_is)
        (went-in (runs-single (only_scorer file similarity lists norms x.slot)) t (places.place_of x old.held.places) r.event (G.went x.slot));
  }

  -- an intersection keeps its query
  pub intersection-goes : (v : Intersection) (old : Tables) (r : Gone Intersection) {h : Held} {floats : List (List Float)}
      → all.Goes (query similarity file lists norms v.len old.order) t turns v old.held old.floats r h floats
      → GoesOn file similarity lists norms t turns old (mode.Intersection v) (record { order = old.order; held = h; floats = floats })
      (record { to = mode.Intersection r.to; taken = r.taken; event = r.event })
  intersection-goes v old r {h} {floats} G =
      let x = query similarity file lists norms v.len old.order in
      let p = stands.place_of x v old.held.places old.floats in
      let same : r.to.len ≡ v.len = G.stands.len_is in
      record {
        stands = subst (λ (n : ℕ). stands.Stands (query similarity file lists norms n old.order) r.to h floats) (sym same) G.stands;
        went = subst (λ (n : ℕ). Went turn_in over_in t (intersection p) turns r.taken
            (intersection (stands.place_of (query similarity file lists norms n old.order) r.to h.places floats)) r.event) (sym same)
            (went-in (runs-intersection p.leader p.secs) t p r.event G.went);
      }

  -- a plain scan keeps its matches
  pub plain-goes : (x : Plain) (old : Tables) (r : Gone Plain) {h : Held} → GoneOn similarity.scoring file lists norms t turns x h r
      → GoesOn file similarity lists norms t turns old (mode.Plain x) (record { order = old.order; held = h; floats = old.floats })
      (record { to = mode.Plain r.to; taken = r.taken; event = r.event })
  plain-goes x old r G =
      let hits = hits_of similarity.scoring file lists in
      record {
        stands = G.stands;
        went = rw (G.len_is, G.all-is) (went-in (runs-plain (hits x.len x.all)) t x.doc r.event G.went);
      }
