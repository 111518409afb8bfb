-- `entry::entry_right` meets its contract: weight and count are cut out of the entry's first seven bytes.
use mathlib.Core.Path.{ap}
use Prim.Native.Nat.{◌+◌, ◌*◌}
use borrow.Author.Rules.{rules}
use Rattle.codec.proofs.BitFields.{bits-lt}
use Rattle.notefile.specs.Inner.Structs.{header_of}
use Rattle.notefile.specs.declared.header.Header.{Header}
use Rattle.headcheck.proofs.Entries.{weight-fits, weight-wrong}
use Rattle.headcheck.proofs.entry.entry_right.Goals as goal

pub overflow_cast-weight : goal.overflow_cast-weight
overflow_cast-weight c = rw c.read_be-weight.ensures (record { fits = bits-lt c.args.file.now (8 * (9 + 13 * c.args.l)) 32 })

pub returns-then-weight_ok : goal.returns-then-weight_ok
unfolding header_of
returns-then-weight_ok c =
    weight-fits c.args.file.now c.args.l _ _ c.args.h.documents c.read_be-weight.ensures c.read_be.ensures (ap (λ (z : Header). z.documents) c.requires.0.same) _ c.weight_ok.ensures c.if-weight_ok.true

pub returns : goal.returns
unfolding header_of
returns c =
    weight-wrong c.args.file.now c.args.l _ _ c.args.h.documents c.read_be-weight.ensures c.read_be.ensures (ap (λ (z : Header). z.documents) c.requires.0.same) _ c.weight_ok.ensures c.if-weight_ok.false
