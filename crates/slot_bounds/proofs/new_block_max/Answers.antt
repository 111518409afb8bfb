-- `new_block_max` meets its contract: a full block's bound stands ready, a tail's is worked out.
use mathlib.Core.Path.{refl}
use Rattle.slot_rows.specs.Inner.Rows.{cursor_in, part_in}
use Rattle.slot_bounds.proofs.Bounds.{bound-full}
use Rattle.term_scorer.proofs.Slots.{standing-in}
use Rattle.slot_bounds.proofs.new_block_max.Goals as goal

pub tail_block_max-requires : goal.tail_block_max-requires
unfolding cursor_in part_in
tail_block_max-requires c =
    (c.requires.0, c.requires.1, c.requires.2, c.requires.3, c.requires.4, c.if-lists-q.true)

pub returns-then-lists-q : goal.returns-then-lists-q
returns-then-lists-q c = c.tail_block_max.ensures

pub ready_bound-bound-requires : goal.ready_bound-bound-requires
unfolding cursor_in part_in
ready_bound-bound-requires c =
    (c.requires.0, standing-in c.requires.2, c.requires.3, c.requires.4, refl, c.if-lists-q.false)

pub returns : goal.returns
unfolding cursor_in part_in
returns c =
    let l = c.ready_bound-bound.new in
    bound-full c.args.similarity.scoring c.args.file.now c.args.lists.now c.args.q c.args.places.now c.args.bounds.now
    refl c.if-lists-q.false c.requires.0 c.requires.2.sixteen.0 c.told-bounds {places₁ = l.places} {bounds₁ = l.bounds} c.ready_bound-bound.ensures
