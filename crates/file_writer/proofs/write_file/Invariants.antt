-- `write_file` meets its contract. The loop's invariant (`Filing`): l lists are written behind
-- the front.
use Rattle.contents.specs.Inner.Handed.{contents_in}
use Rattle.file_writer.proofs.Filing.{Filing}
use Rattle.file_writer.proofs.write_file.Given as goal

abbrev pub invariant-loop-l : goal.invariant-loop-l
invariant-loop-l l =
    Filing (contents_in l.c) l.initial.out l.out l.place l.from l.start l.l
