-- `tail_block_max` meets its contract: the bound stands in the row, and is known once the tail is loaded.
use borrow.Author.Tests.{eq-eqb, ne_eqb}
use Rattle.slot_rows.specs.Inner.Rows.{cursor_in}
use Rattle.slot_bounds.proofs.Bounds.{bound-lasting, bound-passing}
use Rattle.slot_bounds.proofs.tail_block_max.Goals as goal

pub returns-then-lasts : goal.returns-then-lasts
unfolding cursor_in
returns-then-lasts c =
    bound-lasting c.args.similarity.scoring c.args.file.now c.args.lists.now c.args.q c.args.places.now c.args.bounds.now
    c.requires.0 c.told-bounds c.requires.4 c.requires.5 c.tail_bound-score.ensures (eq-eqb _ _ c.if-lasts.true)

pub returns-else-lasts : goal.returns-else-lasts
unfolding cursor_in
returns-else-lasts c =
    bound-passing c.args.similarity.scoring c.args.file.now c.args.lists.now c.args.q c.args.places.now c.args.bounds.now
    c.requires.0 c.told-bounds c.requires.4 c.requires.5 c.tail_bound-score.ensures (ne_eqb _ _ c.if-lasts.false)
