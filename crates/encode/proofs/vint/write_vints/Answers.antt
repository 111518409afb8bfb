-- `encode::vint::write_vints` meets its contract. The loop's invariant (`RowWriting`): i VInts are written, and the next comes to p.
use mathlib.Core.Path.{refl}
use lib.ListN.{get_or}
use Rattle.encode.proofs.VIntRows.{begun, room, goes_on, all-written}
use Rattle.encode.proofs.vint.write_vints.Goals as goal

pub loop-i-init : goal.loop-i-init
loop-i-init c = let a = c.args in begun (λ k. get_or a.values.now k 0) a.out.now a.at a.n

pub write_vint-p-requires : goal.write_vint-p-requires
write_vint-p-requires c =
    room c.loop-i.invariant c.loop-i-test.true c.requires.2 refl

pub loop-i-preserved : goal.loop-i-preserved
loop-i-preserved c =
    goes_on c.loop-i.invariant c.loop-i-test.true refl c.write_vint-p.ensures.0 c.write_vint-p.ensures.1

pub returns : goal.returns
returns c = all-written c.loop-i.invariant c.loop-i-test.false
