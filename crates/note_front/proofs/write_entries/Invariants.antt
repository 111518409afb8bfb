-- `note_front::write_entries` meets its contract. The loop's invariant (`Entering`): l entries stand behind the header.
use Rattle.note_front.proofs.Entries.{Entering}
use Rattle.note_front.proofs.write_entries.Given as goal

abbrev pub invariant-loop-l : goal.invariant-loop-l
invariant-loop-l l = Entering l.weights l.counts l.postings l.initial.out l.l l.out
