-- `packing::num_bits` meets its contract. The loop's invariant (`Gathering`): a width holds the bits gathered if and only if it
-- holds the values passed.
use mathlib.Core.Path.{refl}
use borrow.Author.Rules.{rules}
use Rattle.packing.proofs.Widths.{goes_on, width_is}
use Rattle.packing.proofs.num_bits.Goals as goal

pub loop-value-preserved : goal.loop-value-preserved
loop-value-preserved c = goes_on c.loop-value.invariant c.loop-value-test.true refl (search rules)

pub returns : goal.returns
returns c = width_is c.loop-value.invariant c.loop-value-test.false
