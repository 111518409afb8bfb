-- `single_walk::first_asked` meets its contract: its test is the definition's.
use Rattle.single_walk.proofs.first_asked.Goals as goal

pub returns-in-Called : goal.returns-in-Called
returns-in-Called c = rw c.in-Called.is
