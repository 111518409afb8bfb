-- `put_rows` meets its contract: a row a turn.
use Rattle.std.proofs.Common.{rules}
use Rattle.print_text.proofs.Lines.{lines-begin, line-put, lines_end}
use Rattle.print_text.proofs.rows.put_rows.Goals as goal

pub loop-i-init : goal.loop-i-init
loop-i-init c = lines-begin _ _ _ _ _ (search rules)

pub put_row-end-requires : goal.put_row-end-requires
put_row-end-requires c =
    record { at_in_bounds = search rules; t = c.requires.ready.stepped c.loop-i.i (search rules) }

pub loop-i-preserved : goal.loop-i-preserved
loop-i-preserved c =
    line-put _ _ _ _ _ c.loop-i.i c.loop-i.end c.put_row-end.result c.loop-i.out _ (search rules) c.requires.ready.in-documents c.requires.ready.in-scores c.loop-i.invariant
    c.put_row-end.ensures

pub returns : goal.returns
returns c = lines_end _ _ _ _ _ c.loop-i.i c.loop-i.end c.loop-i.out (search rules) c.loop-i.invariant
