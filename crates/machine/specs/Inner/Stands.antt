-- Where a run stands: its place of the machine's route, by its struct and its tables, and that it can go on from there.
use Rattle.std.specs.Prelude.{List, [], ℕ, Float}
use Rattle.route.specs.Cursor.{fresh}
use Rattle.route.specs.Scorer.{Scorer}
use Rattle.term_scorer.specs.Inner.Slots.{Held, held, list_at}
use Rattle.term_scorer.specs.declared.score.Similarity.{Similarity}
use Rattle.single_hunt.specs.Inner.Places as one
use Rattle.single_hunt.specs.Inner.Stands as scan
use Rattle.union_moves.specs.Inner.Seats.{terms}
use Rattle.union_turn.specs.Inner.Runs as any
use Rattle.intersection_order.specs.Inner.Scorers.{query}
use Rattle.intersection_turn.specs.Inner.Stands as all
use Rattle.plain_scan.specs.Inner.Turns.{hits_of, PlainStands}
use Rattle.machine.specs.Inner.Places.{Place, union, single, intersection, plain}
use Rattle.machine.specs.declared.Machine.{Machine}
use Rattle.machine.specs.declared.Machine.TheVariants.{Intersection, Plain, Single, Union}

-- the tables that change as a run goes on
pub record Tables : Type 0 where
  pub order : List ℕ
  pub held : Held
  pub floats : List (List Float)

abbrev pub tables : List ℕ → List (List ℕ) → List (List (List ℕ)) → List (List Float) → Tables
tables order places blocks floats = record { order = order; held = held places blocks; floats = floats }

module _ (file : List ℕ) (similarity : Similarity) (lists : List (List ℕ)) (norms : List (List Float)) where
  -- the scorer of a slot, as a single scan begins with it
  abbrev pub only_scorer : ℕ → Scorer Float
  only_scorer q = record { ord = q; list = list_at similarity.scoring file lists q; cur = fresh }

  -- the place of the machine's route
  abbrev pub place_in : Tables → Machine → Place
  place_in h (Union u) = union (any.place_of file lists similarity.scoring u h.order h.held.places)
  place_in h (Single x) = single (only_scorer x.slot) (one.place_of x h.held.places)
  place_in h (Intersection v) =
      intersection (all.place_of (query similarity file lists norms v.len h.order) v h.held.places h.floats)
  place_in h (Plain x) = plain (hits_of similarity.scoring file lists x.len x.all) x.doc

  -- and its struct and tables are as the mode's functions ask
  abbrev pub StandsIn : Tables → Machine → Type 0
  StandsIn h (Union u) = any.Stands file lists (terms similarity.scoring norms h.floats) u h.order h.held
  StandsIn h (Single x) = scan.Stands file similarity lists norms x h.held h.floats
  StandsIn h (Intersection v) = all.Stands (query similarity file lists norms v.len h.order) v h.held h.floats
  StandsIn h (Plain x) = PlainStands similarity.scoring file lists norms h.held x
