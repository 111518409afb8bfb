-- `codec::vint::read_vints` meets its contract. The loop's invariant (`Reading`): i whole VInts are read, and the next stands at p.
use Rattle.codec.proofs.VIntRow.{begun, all_read, one-broken, one-read}
use Rattle.codec.proofs.vint.read_vints.Goals as goal

pub loop-i-init : goal.loop-i-init
loop-i-init c = begun c.args.s.now c.args.end c.args.at c.args.n c.requires.2

pub returns-in_err-x : goal.returns-in_err-x
returns-in_err-x c = rw c.from_residual.ensures (one-broken c.loop-i.invariant c.loop-i-test.true c.read_vint.ensures c.in_err-x.was)

pub loop-i-preserved : goal.loop-i-preserved
loop-i-preserved c =
    one-read c.loop-i.invariant c.loop-i-test.true c.read_vint.ensures c.requires.1 c.in_ok-x.was

pub returns : goal.returns
returns c = all_read c.loop-i.invariant c.loop-i-test.false
