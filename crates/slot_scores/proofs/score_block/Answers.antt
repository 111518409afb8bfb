-- `score_block` meets its contract: the scores of decoded documents and frequencies, by the list's struct, are the route's.
use mathlib.Core.List.{[]}
use native.Mathlib.Omega.{arith}
use lib.ListN.{get_or}
use Rattle.skip_reader.specs.Inner.Decoded.{Decoded}
use Rattle.skip_reader.proofs.Blocks.{decoded-below, decoded-small}
use Rattle.slot_rows.specs.Inner.Rows.{postings_in}
use Rattle.term_scorer.specs.Inner.Slots.{part_at}
use Rattle.slot_scores.proofs.Scores.{block-scores, narrow_exact}
use Rattle.slot_scores.proofs.score_block.Goals as goal
use Rattle.slot_scores.proofs.score_block.Goals.{Start}

-- the block that the slot decoded last
holds : (c : Start) → let a = c.args in
    Decoded a.file.now (part_at a.lists.now a.q) (get_or (get_or a.places.now a.q []) 5 0) (get_or a.blocks.now a.q [])
unfolding postings_in
holds c = c.requires.2.place.placed.holds

pub overflow_add-limit : goal.overflow_add-limit
overflow_add-limit c = omega (arith, decoded-small c.requires.2.list (holds (goal.at.overflow_add-limit c).Start) 127 (omega arith))

pub score_block-requires : goal.score_block-requires
score_block-requires c =
    (decoded-below c.requires.2.list (holds (goal.at.score_block-requires c).Start), narrow_exact (holds (goal.at.score_block-requires c).Start) c.narrow-small.ensures)

pub returns : goal.returns
returns c =
    let x = part_at c.args.lists.now c.args.q in (
      block-scores c.args.file.now x c.weight_in-w.result c.weight_in-w.ensures c.args.similarity.scoring
          (λ k. (c.shared_slice_known-1.given k).fits) c.requires.1 c.requires.2.place c.score_block.ensures,
      c.score_block.ensures.long,
    )
