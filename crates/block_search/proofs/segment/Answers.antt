-- `block_search::segment` meets its contract: one test for each segment's end.
use borrow.Author.Rules.{rules}
use Rattle.block_search.proofs.Segments.{seven-ends}
use Rattle.block_search.proofs.segment.Goals as goal

pub returns : goal.returns
returns c =
    let a = c.args in (
      seven-ends a.values.now a.base a.step a.target c.below.ensures.0 c.below-2.ensures.0 c.below-3.ensures.0 c.below-4.ensures.0
          c.below-5.ensures.0 c.below-6.ensures.0 c.below-7.ensures.0,
      search rules,
    )
