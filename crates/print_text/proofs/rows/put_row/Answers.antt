-- `put_row` meets its contract: the four parts one behind another.
use Rattle.std.proofs.Common.{ap}
use Rattle.print_text.specs.Text.{decimal}
use Rattle.print_text.proofs.Putting.{put_as, put_then}
use Rattle.print_text.proofs.rows.put_row.Goals as goal

pub returns : goal.returns
returns c =
    put_then c.put_number-a.ensures (put_then c.put-b.ensures (put_then (put_as c.put_number-c.ensures (ap decimal c.in_steps-steps.ensures)) c.put.ensures))
