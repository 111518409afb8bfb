-- `tail_bound` meets its contract: the bound is that of the row's place, and lasts where it is loaded.
use mathlib.Core.Path.{sym, subst}
use Rattle.notefile.specs.Inner.Given.{WeightIn}
use Rattle.notefile.specs.declared.part.Part.{Part}
use Rattle.slot_rows.proofs.Rows.{list-for, standing-for, placed-for}
use Rattle.slot_bounds.proofs.Bounds.{tail-found}
use Rattle.slot_bounds.proofs.tail_bound.Goals as goal

pub postings_of-p-requires : goal.postings_of-p-requires
postings_of-p-requires c =
    let file = c.args.file.now in
    let list = c.args.list.now in
    ((list-for file list c.part_of-x.ensures c.requires.2).blocks, standing-for file list c.part_of-x.ensures c.args.place.now c.requires.3.standing)

pub block_max_score-requires : goal.block_max_score-requires
block_max_score-requires c =
    let file = c.args.file.now in
    let list = c.args.list.now in (
      list-for file list c.part_of-x.ensures c.requires.2,
      c.requires.0,
      subst (λ (z : Part). WeightIn z c.weight_of-w.result) (sym c.part_of-x.ensures) c.weight_of-w.ensures,
      placed-for file list c.args.place.now (λ l k. k) c.part_of-x.ensures c.postings_of-p.ensures c.requires.3,
    )

pub returns : goal.returns
returns c =
    tail-found c.args.similarity.scoring c.args.file.now c.args.list.now c.args.place.now c.part_of-x.ensures c.postings_of-p.ensures c.block_max_score.ensures
