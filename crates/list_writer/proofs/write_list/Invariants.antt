-- `write_list` meets its contract. The loop's invariant (`Writing`): b blocks are written with their entries, and the next comes to p.
use Prim.Native.Nat.{◌/◌}
use Rattle.list_writer.specs.Inner.Skips.{numbers_from}
use Rattle.list_writer.proofs.Listing.{Writing}
use Rattle.list_writer.proofs.write_list.Given as goal

abbrev pub invariant-loop-b : goal.invariant-loop-b
invariant-loop-b l =
    Writing l.norms l.reader (numbers_from l.docs l.from) (numbers_from l.freqs l.from) l.tops l.start (l.n / 128) l.initial.out l.place l.out l.p l.b
