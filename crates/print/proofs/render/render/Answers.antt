-- `render` meets its contract: the run's outcome is the answer over all lists, and its rows are the plain scan's.
use mathlib.Core.Path.{refl, sym}
use lib.Seq.{length-take-le}
use lib.ListN.{replicate}
use lib.Ieee.{binary32, of_bits, round}
use borrow.Author.Rules.{rules}
use Rattle.floats.specs.Step.{grid_f}
use Rattle.reports.specs.Rows.{Rows, rows}
use Rattle.print.proofs.Rendered.{drawn, whole}
use Rattle.print.proofs.render.render.Goals as goal
use Rattle.print.proofs.render.render.Goals.{After-run-outcome}

-- the rows before the run, and as it leaves them
abbrev lent : Rows
lent = rows (replicate 4096 0) (replicate 4096 (of_bits binary32 0))

abbrev left_by : After-run-outcome → Rows
left_by r = rows r.run-outcome.new.documents r.run-outcome.new.scores

pub slice_bounds-run-end : goal.slice_bounds-run-end
slice_bounds-run-end c = sym (length-take-le c.lists_of-lists.result _ c.lists_of-lists.ensures.0)

pub put_ranking-requires : goal.put_ranking-requires
unfolding of_bits grid_f round
put_ranking-requires c =
    let d =
    drawn c.args.file.now (λ i. (c.type_inv.file i).fits) c.lists_of-lists.result c.lists_of-lists.ensures.0 c.lists_of-lists.ensures.1 refl {old = lent} {new = left_by (goal.at.put_ranking-requires c).After-run-outcome} refl
    c.run-outcome.ensures c.number.ensures c.count.ensures in
    record { in_bounds = search rules; count_bound = d.fits; ready = d.ready }

pub returns : goal.returns
unfolding of_bits grid_f round
returns c =
    let d =
    drawn c.args.file.now (λ i. (c.type_inv.file i).fits) c.lists_of-lists.result c.lists_of-lists.ensures.0 c.lists_of-lists.ensures.1 refl {old = lent} {new = left_by (goal.at.returns c).After-run-outcome} refl
    c.run-outcome.ensures c.number.ensures c.count.ensures in
    whole c.args.file.now d.text-is c.put_ranking.ensures
