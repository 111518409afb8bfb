-- `put_rows` meets its contract: a row a turn.
use Rattle.print_text.proofs.Lines.{Lining}
use Rattle.print_text.proofs.rows.put_rows.Given as goal

abbrev pub invariant-loop-i : goal.invariant-loop-i
invariant-loop-i l = Lining l.documents l.scores l.count l.at l.initial.out l.i l.end l.out
