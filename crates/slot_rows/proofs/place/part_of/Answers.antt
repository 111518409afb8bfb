-- `place::part_of` meets its contract: each field is read off the row.
use borrow.Author.Rules.{rules}
use Rattle.slot_rows.specs.Inner.Rows.{part_in}
use Rattle.slot_rows.proofs.place.part_of.Goals as goal

pub returns : goal.returns
unfolding part_in
returns c = search rules
