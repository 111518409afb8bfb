-- `put_first` meets its contract: the word, the number and the line's end one behind another.
use Rattle.std.proofs.Common.{rules}
use Rattle.print_text.proofs.Putting.{put_then, put-wider}
use Rattle.print_text.proofs.run.put_first.Goals as goal

pub returns : goal.returns
returns c =
    put-wider (put_then c.put-a.ensures (put_then c.put_number-b.ensures c.put.ensures)) 29 (search rules)
