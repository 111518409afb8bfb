-- `ready_bound` meets its contract: the bound stood ready, or it is the first of those that are worked out.
use mathlib.Core.Path.{sym, subst}
use borrow.Author.Rules.{rules}
use Rattle.notefile.specs.Inner.Given.{WeightIn}
use Rattle.notefile.specs.declared.part.Part.{Part}
use Rattle.slot_rows.proofs.Rows.{list-for}
use lib.ListN.{get_or}
use mathlib.Core.List.{[]}
use Rattle.slot_bounds.proofs.Bounds.{ready-known, ready-new}
use Rattle.slot_bounds.proofs.ready_bound.Goals as goal

pub returns-then-end-block : goal.returns-then-end-block
returns-then-end-block c =
    ready-known c.args.scoring c.args.file.now c.args.lists.now c.args.q c.args.places.now c.args.bounds.now
    c.requires.4 c.requires.5 c.requires.3 c.if-block-end.true c.if-end-block.true

pub bounds_ahead-requires : goal.bounds_ahead-requires
bounds_ahead-requires c =
    let e = c.part_of-x.ensures in (
      list-for c.args.file.now (get_or c.args.lists.now c.args.q []) e c.requires.1.list,
      subst (λ (z : Part). WeightIn z c.weight_in-w.result) (sym e) c.weight_in-w.ensures,
      rw e (search rules),
      search rules,
    )

pub returns : goal.returns
returns c =
    ready-new c.args.scoring c.args.file.now c.args.lists.now c.args.q c.args.places.now c.args.bounds.now
    c.requires.4 c.requires.5 c.part_of-x.ensures c.bounds_ahead.ensures
