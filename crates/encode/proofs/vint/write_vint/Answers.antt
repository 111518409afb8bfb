-- `encode::vint::write_vint` meets its contract. The loop's invariant (`Writing`): n bytes are written, and those of the rest follow them.
-- The measure is how many of five bytes are left.
use native.Mathlib.Omega.{arith}
use Rattle.encode.proofs.ShortVInts.{begun, room, goes_on, all-long, all-written}
use Rattle.encode.proofs.vint.write_vint.Goals as goal

pub loop-rest-init : goal.loop-rest-init
loop-rest-init c = begun c.args.out.now c.args.at c.args.v (omega arith)

pub bounds-out-at : goal.bounds-out-at
bounds-out-at c = omega (arith, room c.loop-rest.invariant, c.loop-rest.invariant.place.long, c.loop-rest.invariant.top)

pub loop-rest-preserved : goal.loop-rest-preserved
loop-rest-preserved c = goes_on c.loop-rest.invariant c.loop-rest-test.true c.requires

pub bounds-out-at-2 : goal.bounds-out-at-2
bounds-out-at-2 c = omega (arith, room c.loop-rest.invariant, c.loop-rest.invariant.place.long)

pub returns : goal.returns
returns c =
    let v = c.loop-rest.invariant in
    (omega (arith, all-long v c.loop-rest-test.false), all-written v c.loop-rest-test.false c.requires)
