-- `in_steps` meets its contract: the product of what is above 0 is a whole number, and nothing is cut off.
use Rattle.std.proofs.Common.{ap, ◌∙◌}
use lib.Ieee.{of_bits, to_unsigned}
use Rattle.print_text.proofs.InSteps.{product_is, whole_back, whole-between, low-steps}
use Rattle.print_text.proofs.rows.in_steps.Goals as goal

pub truncating_f32_to_u64-requires : goal.truncating_f32_to_u64-requires
unfolding of_bits
truncating_f32_to_u64-requires c =
    let p = product_is c.args.score c.requires c.if-score.true in
    let w = whole-between _ p.1 in
    rw p.0 (record { lower_bound = w.0; upper_bound = w.1 })

pub returns-then-score : goal.returns-then-score
unfolding of_bits
returns-then-score c =
    let p = product_is c.args.score c.requires c.if-score.true in
    c.truncating_f32_to_u64.ensures ∙ ap (to_unsigned 64) p.0 ∙ whole_back _ p.1

pub returns : goal.returns
unfolding of_bits
returns c = low-steps c.args.score c.if-score.false
