-- `scan::stride` meets its contract: a turn of the hunt, or a walk, by the phase.
use mathlib.Core.Path.{refl, sym, ◌∙◌}
use Rattle.term_scorer.specs.Inner.Slots.{held}
use Rattle.block_wand_single.proofs.Going.{hunt-strides, is-hunt}
use Rattle.block_wand_single.proofs.scan.stride.Goals as goal

pub walk-requires : goal.walk-requires
walk-requires c = (
  record {
    similarity = c.args.leg.similarity;
    norms = c.args.norms.now;
    floats = c.args.floats.now;
    tables = record { walking = sym c.walks.ensures ∙ c.if-walks.true; row_is = refl; stands = c.requires.0 };
  },
  c.requires.2,
)

pub returns-then-walks : goal.returns-then-walks
returns-then-walks c =
    c.walk.ensures.steps c.args.leg.similarity c.args.norms.now c.args.floats.now
    (record { walking = sym c.walks.ensures ∙ c.if-walks.true; row_is = refl; stands = c.requires.0 })

pub hunt-single-requires : goal.hunt-single-requires
hunt-single-requires c =
    (c.requires.0, is-hunt _ (sym c.walks.ensures ∙ c.if-walks.false) c.requires.1)

pub returns : goal.returns
returns c =
    rw c.new.ensures (hunt-strides {lists = c.args.lists.now} {norms = c.args.norms.now} {h = held c.args.places.now c.args.blocks.now} {h' = held c.hunt-single.new.places c.hunt-single.new.blocks} {floats = c.hunt-single.new.floats} (is-hunt _ (sym c.walks.ensures ∙ c.if-walks.false) c.requires.1) c.requires.2 c.hunt-single.ensures)
