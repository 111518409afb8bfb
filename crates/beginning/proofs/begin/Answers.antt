-- `begin` meets its contract: the query's lists are opened, and the task has the machine of the run that is asked for.
use mathlib.Core.Path.{refl}
use native.Mathlib.Omega.{arith}
use Rattle.beginning.proofs.Queries.{header_of_lem}
use Rattle.beginning.proofs.begin.Goals as goal

pub read_header-h-requires : goal.read_header-h-requires
read_header-h-requires c =
    omega (arith, (header_of_lem c.args.file.now c.requires.0.accepted refl).entries)

pub norm_reader-reader-requires : goal.norm_reader-reader-requires
norm_reader-reader-requires c = header_of_lem c.args.file.now c.requires.0.accepted c.read_header-h.ensures

pub open_lists-scorers-requires : goal.open_lists-scorers-requires
open_lists-scorers-requires c =
    let R = c.requires.0 in
    (R.accepted, c.read_header-h.ensures, R.few, R.named, c.requires.1)

pub begin_machine-machine-requires : goal.begin_machine-machine-requires
begin_machine-machine-requires c =
    (c.norm_reader-reader.ensures, c.requires.0, c.open_lists-scorers.ensures.0)

pub returns : goal.returns
returns c =
    record { norms-are = c.norm_reader-reader.ensures; scoring-is = refl; rule-is = refl; began = c.begin_machine-machine.ensures }
