-- `slot::has_remaining_docs` meets its contract: the block's first place is compared with the list's length.
use mathlib.Core.Path.{refl}
use Rattle.route.specs.Postings.{start}
use Rattle.slot_rows.specs.Inner.Rows.{cursor_in, part_in}
use Rattle.term_scorer.proofs.slot.has_remaining_docs.Goals as goal

pub returns : goal.returns
unfolding start cursor_in part_in
returns c = refl
