-- `union_turn::turn` meets its contract: at each stage the turn is the route's.
use lib.ListN.{take}
use Rattle.term_scorer.specs.Inner.Slots.{held, Held}
use Rattle.union_turn.proofs.Standing.{kept_at, stands_at}
use Rattle.union_moves.proofs.Slots.{lined}
use Rattle.union_turn.proofs.Steps.{goes_on, on-report, stands, stays}
use Rattle.union_turn.proofs.turn.Goals as goal
use Rattle.union_turn.proofs.turn.Goals.{Start}

abbrev now : Start → Held
now a = held a.args.places.now a.args.blocks.now

pub look-requires : goal.look-requires
look-requires c =
    (c.requires.0, stands_at c.requires.1 c.in-Looking.is)

pub advance_all_scorers_on_pivot-len-requires : goal.advance_all_scorers_on_pivot-len-requires
advance_all_scorers_on_pivot-len-requires c =
    let S = c.requires.1 in
    let R = on-report c.args.file.now c.args.lists.now c.args.leg.similarity.scoring (now (goal.at.advance_all_scorers_on_pivot-len-requires c).Start) c.args.order.now c.args.union.len (kept_at S c.in-Called.is) in
    (R.0, S.few, lined c.args.file.now c.args.lists.now c.args.leg.similarity.scoring (now (goal.at.advance_all_scorers_on_pivot-len-requires c).Start) (take c.args.union.len c.args.order.now) (stands S.seated) S.seated.apart, R.1)

pub returns-in-Looking : goal.returns-in-Looking
returns-in-Looking c =
    rw c.in-Looking.is c.look.ensures

pub returns-in-Called : goal.returns-in-Called
returns-in-Called c =
    let S = c.requires.1 in
    rw (c.in-Called.is, c.quiet.ensures) (goes_on c.args.leg.threshold c.args.order.now c.args.union.len S.room S.seated {h' = held c.advance_all_scorers_on_pivot-len.new.places c.advance_all_scorers_on_pivot-len.new.blocks} {order' = c.advance_all_scorers_on_pivot-len.new.order} c.advance_all_scorers_on_pivot-len.ensures)

pub returns-in-Over : goal.returns-in-Over
returns-in-Over c =
    let S = c.requires.1 in
    rw (c.in-Over.is, c.quiet-in-Over.ensures) (stays c.args.leg.threshold c.args.order.now c.args.union.len S.room S.seated)
