-- `turn` meets its contract, by the stage.
use Rattle.intersection_turn.proofs.Turning.{ends-windows, exits-called, exits-early, stays-over}
use Rattle.intersection_turn.proofs.turn.Goals as goal

pub returns-then-v-ge-TERMINATED : goal.returns-then-v-ge-TERMINATED
returns-then-v-ge-TERMINATED c =
    ends-windows _ c.args.leg.threshold c.requires c.in-Window.is c.if-v-ge-TERMINATED.true c.quiet.ensures

pub returns-in-Early : goal.returns-in-Early
returns-in-Early c =
    exits-early _ c.args.leg.threshold c.requires c.in-Early.is c.exit.ensures

pub returns-in-Called : goal.returns-in-Called
returns-in-Called c =
    exits-called _ c.args.leg.threshold c.requires _ c.in-Called.is c.exit-in-Called.ensures

pub returns-in-Over : goal.returns-in-Over
returns-in-Over c =
    stays-over _ c.args.leg.threshold c.requires c.in-Over.is c.quiet-in-Over.ensures
