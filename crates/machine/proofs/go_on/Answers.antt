-- `go_on` meets its contract: the machine's turns are its mode's.
use mathlib.Core.Path.{◌≡◌, sym, subst}
use borrow.Author.Rules.{rules}
use Rattle.term_scorer.specs.Inner.Slots.{held}
use Rattle.machine.specs.Inner.Stands.{tables, Tables, StandsIn}
use Rattle.machine.specs.Inner.Goes.{GoesOn}
use Rattle.reports.specs.declared.Gone.{Gone}
use Rattle.machine.specs.declared.Machine.{Machine}
use Rattle.machine.proofs.Going.{as-machine, intersection-goes, plain-goes, single-goes, union-goes}
use Rattle.machine.proofs.go_on.Goals as goal
use Rattle.machine.proofs.go_on.Goals.{Start}

-- the tables before
abbrev had : Start → Tables
had a = tables a.args.order.now a.args.places.now a.args.blocks.now a.args.floats.now

-- what stood, by the mode
stood : (a : Start) {m : Machine} → a.args.machine ≡ m → StandsIn a.args.file.now a.args.leg.similarity a.args.lists.now a.args.norms.now (had a) m
stood a e = subst (StandsIn a.args.file.now a.args.leg.similarity a.args.lists.now a.args.norms.now (had a)) e a.requires.1

from-mode : (a : Start) {m : Machine} → m ≡ a.args.machine → {new : Tables} {r : Gone Machine}
    → GoesOn a.args.file.now a.args.leg.similarity a.args.lists.now a.args.norms.now a.args.leg.threshold a.args.leg.turns (had a) m new r
    → GoesOn a.args.file.now a.args.leg.similarity a.args.lists.now a.args.norms.now a.args.leg.threshold a.args.leg.turns (had a) a.args.machine new r
from-mode a e {new} {r} G =
    subst (λ (m : Machine). GoesOn a.args.file.now a.args.leg.similarity a.args.lists.now a.args.norms.now a.args.leg.threshold a.args.leg.turns (had a) m new r) e G

-- In the answers l is what was lent, as the mode's function left it, from its first table on.

pub go-g-requires : goal.go-g-requires
go-g-requires c =
    (c.requires.0, stood (goal.at.go-g-requires c).Start c.in-Union.is)

pub go-g-requires-in-Single : goal.go-g-requires-in-Single
go-g-requires-in-Single c =
    stood (goal.at.go-g-requires-in-Single c).Start c.in-Single.is

pub go-g-requires-in-Intersection : goal.go-g-requires-in-Intersection
go-g-requires-in-Intersection c =
    stood (goal.at.go-g-requires-in-Intersection c).Start c.in-Intersection.is

pub go-g-requires-in-Plain : goal.go-g-requires-in-Plain
go-g-requires-in-Plain c =
    (c.requires.0, stood (goal.at.go-g-requires-in-Plain c).Start c.in-Plain.is)

pub returns-in-Union : goal.returns-in-Union
returns-in-Union c =
    rw (as-machine c.map.ensures.to c.map.ensures.taken c.map.ensures.event)
    (from-mode (goal.at.returns-in-Union c).Start (sym c.in-Union.is) (union-goes c.args.file.now c.args.leg.similarity c.args.lists.now c.args.norms.now c.args.leg.threshold c.args.leg.turns _ (had (goal.at.returns-in-Union c).Start) {order = c.go-g.new.order} {h = held c.go-g.new.places c.go-g.new.blocks} {floats = c.go-g.new.floats} c.go-g.result c.go-g.ensures.0 c.go-g.ensures.1))

pub returns-in-Single : goal.returns-in-Single
returns-in-Single c =
    rw (as-machine c.map-in-Single.ensures.to c.map-in-Single.ensures.taken c.map-in-Single.ensures.event)
    (from-mode (goal.at.returns-in-Single c).Start (sym c.in-Single.is) (single-goes c.args.file.now c.args.leg.similarity c.args.lists.now c.args.norms.now c.args.leg.threshold c.args.leg.turns _ (had (goal.at.returns-in-Single c).Start) c.go-g-in-Single.result {h = held c.go-g-in-Single.new.places c.go-g-in-Single.new.blocks} {floats = c.go-g-in-Single.new.floats} c.go-g-in-Single.ensures))

pub returns-in-Intersection : goal.returns-in-Intersection
returns-in-Intersection c =
    rw (as-machine c.map-in-Intersection.ensures.to c.map-in-Intersection.ensures.taken c.map-in-Intersection.ensures.event)
    (from-mode (goal.at.returns-in-Intersection c).Start (sym c.in-Intersection.is) (intersection-goes c.args.file.now c.args.leg.similarity c.args.lists.now c.args.norms.now c.args.leg.threshold c.args.leg.turns c.in-Intersection.v (had (goal.at.returns-in-Intersection c).Start) c.go-g-in-Intersection.result {h = held c.go-g-in-Intersection.new.places c.go-g-in-Intersection.new.blocks} {floats = c.go-g-in-Intersection.new.floats} c.go-g-in-Intersection.ensures))

pub returns-in-Plain : goal.returns-in-Plain
returns-in-Plain c =
    rw (as-machine c.map-in-Plain.ensures.to c.map-in-Plain.ensures.taken c.map-in-Plain.ensures.event)
    (from-mode (goal.at.returns-in-Plain c).Start (sym c.in-Plain.is) (plain-goes c.args.file.now c.args.leg.similarity c.args.lists.now c.args.norms.now c.args.leg.threshold c.args.leg.turns _ (had (goal.at.returns-in-Plain c).Start) c.go-g-in-Plain.result {h = held c.go-g-in-Plain.new.places c.go-g-in-Plain.new.blocks} c.go-g-in-Plain.ensures))
