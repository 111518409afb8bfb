-- `put_number` meets its contract: the digits are the fewest that hold the number, which are its decimal.
use Rattle.std.proofs.Common.{◌∙◌, arith}
use Rattle.print_text.proofs.Decimals.{decimal-is, digits-few}
use Rattle.print_text.proofs.Putting.{put_as, put-wider}
use Rattle.print_text.proofs.text.put_number.Goals as goal

pub put-requires : goal.put-requires
put-requires c =
    omega (arith, c.decimal-count.ensures.in_bounds.1, digits-few _ _ c.ranges.n.fits c.decimal-count.ensures.len)

pub returns : goal.returns
returns c =
    put_as (put-wider c.put.ensures 20 (omega (arith, c.decimal-count.ensures.in_bounds.1, digits-few _ _ c.ranges.n.fits c.decimal-count.ensures.len)))
    (c.decimal-count.ensures.digits ∙ decimal-is _ _ c.decimal-count.ensures.len)
