-- `begin_machine` meets its contract: by its way and its mode the machine stands at the first place of the run that is asked for.
use native.Mathlib.Omega.{arith}
use borrow.Author.Rules.{rules}
use Rattle.notefile.proofs.Accepted.{header-right}
use Rattle.notefile.proofs.Headers.{few-documents}
use Rattle.query.specs.Inner.Openings as opening
use Rattle.beginning.proofs.Beginning.{fresh-slots, intersection-begun, one_number, plain-begun, union-begun}
use Rattle.beginning.proofs.Queries as lengths
use Rattle.beginning.proofs.Queries.{all-ok}
use Rattle.beginning.proofs.begin_machine.Goals as goal
use Rattle.beginning.proofs.begin_machine.Goals.{Start}

-- the tables that were opened
abbrev opened : Start → opening.Tables
opened a = opening.tables a.args.lists.now a.args.norms.now a.args.places.now a.args.blocks.now

pub begin_union-requires : goal.begin_union-requires
begin_union-requires c = c.requires.1.few

pub begin-begun-requires : goal.begin-begun-requires
begin-begun-requires c =
    fresh-slots c.args.similarity c.args.file.now c.args.query.now c.requires.0 c.requires.1.few (opened (goal.at.begin-begun-requires c).Start) c.args.scorers c.requires.2
    (lengths.two-numbers c.in-Intersection.is c.requires.1.takes) c.told-order

pub bounds-scorers-0 : goal.bounds-scorers-0
bounds-scorers-0 c = omega (arith, c.requires.2.long)

pub returns-in-Union : goal.returns-in-Union
returns-in-Union c floats rows =
    rw (c.in-Skipping.is, c.in-Union.is)
    (union-begun c.args.similarity c.args.file.now c.args.query.now c.requires.0 c.requires.1.few (opened (goal.at.returns-in-Union c).Start) c.args.scorers c.requires.2 _ floats rows c.begin_union.result c.begin_union.ensures)

pub returns-in-Intersection : goal.returns-in-Intersection
returns-in-Intersection c floats rows =
    let R = c.requires.1 in
    rw (c.in-Skipping.is, c.in-Intersection.is)
    (intersection-begun c.args.similarity c.args.file.now c.args.query.now c.requires.0 R.few (opened (goal.at.returns-in-Intersection c).Start) c.args.scorers c.requires.2 _ floats rows
    (all-ok c.args.similarity.scoring c.args.file.now R.accepted c.args.query.now R.named) c.begin-begun.ensures)

pub returns-in-Single : goal.returns-in-Single
returns-in-Single c floats rows =
    rw (c.in-Skipping.is, c.in-Single.is, c.begin_single.ensures)
    (one_number c.args.similarity c.args.file.now c.args.query.now c.requires.0 c.requires.1.few (opened (goal.at.returns-in-Single c).Start) c.args.scorers c.requires.2 _ floats rows
    (lengths.one_number c.in-Single.is c.requires.1.takes))

pub returns-in-Plain : goal.returns-in-Plain
returns-in-Plain c floats rows =
    let R = c.requires.1 in
    rw (c.in-Plain.is, c.begin_plain.ensures)
    (plain-begun c.args.similarity c.args.file.now c.args.query.now c.requires.0 R.few (opened (goal.at.returns-in-Plain c).Start) c.args.scorers c.requires.2 _ floats rows
    (omega (arith, few-documents c.args.file.now (header-right c.args.file.now R.accepted))) c.args.settings.mode)
