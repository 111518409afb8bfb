-- `union_turn::look` meets its contract: the pivot's places are the route's, and with no pivot the loop ends.
use mathlib.Core.Path.{◌≡◌, sym, ◌∙◌}
use lib.ListN.{take}
use Rattle.ordering.specs.Inner.Pivots.{pivot_of}
use Rattle.union_turn.specs.declared.Stage.TheVariants.{Looking}
use Rattle.term_scorer.specs.Inner.Slots.{held, Held}
use Rattle.union_moves.specs.Inner.Seats.{terms_of}
use Rattle.union_turn.proofs.Standing.{place_is}
use Rattle.union_moves.proofs.Slots.{pivot-read, readables, tops-kept, tops-read}
use Rattle.union_turn.proofs.Steps.{nowhere, stands}
use Rattle.union_turn.proofs.look.Goals as goal
use Rattle.union_turn.proofs.look.Goals.{After-find_pivot_doc, Start}

abbrev now : Start → Held
now a = held a.args.places.now a.args.blocks.now

-- the scorers that were read are those of the slots
pivot-is : (p : After-find_pivot_doc) → (p.find_pivot_doc.result ≡ pivot_of p.args.leg.threshold (terms_of p.args.file.now p.args.lists.now p.args.leg.similarity.scoring p.args.places.now (take p.args.n p.args.order.now)))
pivot-is p =
    pivot-read p.args.file.now p.args.lists.now p.args.leg.threshold p.args.leg.similarity.scoring (now p.before.before.before) p.args.n p.args.order.now (stands p.requires.1.seated) (tops-kept (take p.args.n p.args.order.now) p.requires.1.seated) p.find_pivot_doc.ensures

pub find_pivot_doc-requires : goal.find_pivot_doc-requires
find_pivot_doc-requires c =
    let S = c.requires.1 in
    (S.few, tops-read (take c.args.n c.args.order.now) S.seated, readables c.args.file.now c.args.lists.now c.args.leg.similarity.scoring (now (goal.at.find_pivot_doc-requires c).Start) (take c.args.n c.args.order.now) (stands S.seated))

pub to_pivot-requires : goal.to_pivot-requires
to_pivot-requires c =
    let S = c.requires.1 in
    (c.requires.0, record { few = S.few; long = S.room; found = sym c.in-Some.is ∙ pivot-is (goal.at.to_pivot-requires c).After-find_pivot_doc; seated = S.seated; kept = rw (place_is c.args.file.now c.args.lists.now c.args.leg.similarity.scoring c.args.places.now (record { len = c.args.n; stage = Looking }) c.args.order.now) S.kept })

pub returns-in_default : goal.returns-in_default
returns-in_default c =
    let S = c.requires.1 in
    rw c.quiet.ensures (nowhere c.args.leg.threshold c.args.order.now c.args.n S.room S.seated (sym c.in_default.is ∙ pivot-is (goal.at.returns-in_default c).After-find_pivot_doc))

pub returns : goal.returns
returns c = c.to_pivot.ensures
