-- `open_list` meets its contract: the list's part is read, its weight made, and its first block loaded.
use mathlib.Core.Path.{sym, subst}
use Rattle.term_scorer.specs.Inner.Slots.{held}
use Rattle.bm25.proofs.Numbers.{weight-number, average-number}
use Rattle.notefile.specs.Inner.Given.{HeaderIn, Limits}
use Rattle.notefile.proofs.Accepted.{header-inside, list-limits}
use Rattle.skip_reader.specs.Inner.Decoded.{ListIn}
use Rattle.skip_reader.proofs.AcceptedList.{list-in}
use Rattle.query.proofs.Opening.{listed, max-number, one-opened}
use Rattle.query.proofs.open_list.Goals as goal
use Rattle.query.proofs.open_list.Goals.{After-read_part-x}

pub read_part-x-requires : goal.read_part-x-requires
read_part-x-requires c =
    (subst (HeaderIn c.args.file.now) (sym c.requires.1) (header-inside c.args.file.now c.requires.0), listed c.args.file.now c.args.h c.requires.1 c.args.l c.requires.2)

limits_of : (c : After-read_part-x) → Limits c.read_part-x.result
limits_of c = subst Limits (sym c.read_part-x.ensures) (list-limits c.args.file.now c.requires.0 c.args.l c.requires.2)

list_of : (c : After-read_part-x) → ListIn c.args.file.now c.read_part-x.result
list_of c = subst (ListIn c.args.file.now) (sym c.read_part-x.ensures) (list-in c.args.file.now c.requires.0 c.args.l c.requires.2)

pub float_from_bits-x : goal.float_from_bits-x
float_from_bits-x c = weight-number c.read_part-x.result.weight (limits_of (goal.at.float_from_bits-x c).After-read_part-x).weight

pub float_from_bits-x-2 : goal.float_from_bits-x-2
float_from_bits-x-2 c = average-number c.read_part-x.result.average (limits_of (goal.at.float_from_bits-x-2 c).After-read_part-x).average

pub float_to_bits-top : goal.float_to_bits-top
float_to_bits-top c =
    max-number c.args.scoring (limits_of (goal.at.float_to_bits-top c).After-read_part-x) c.new-w.ensures c.max_score-max_score.ensures

pub open-doc-requires : goal.open-doc-requires
open-doc-requires c =
    let R = c.requires.4 in
    (c.requires.3, list_of (goal.at.open-doc-requires c).After-read_part-x, R.lists, R.places, R.blocks)

pub returns : goal.returns
returns c =
    one-opened c.args.scoring c.args.file.now c.args.l c.args.q c.requires.3 c.read_part-x.ensures (list_of (goal.at.returns c).After-read_part-x) (limits_of (goal.at.returns c).After-read_part-x) c.new-w.ensures c.max_score-max_score.ensures _ c.requires.4 {held' = held c.open-doc.new.places c.open-doc.new.blocks} c.open-doc.ensures
