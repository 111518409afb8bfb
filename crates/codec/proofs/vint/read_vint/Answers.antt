-- `codec::vint::read_vint` meets its contract. The loop's invariant (`Reading`): v is the number of the n bytes read, and the VInt is that
-- with what follows above it..
use Prim.Native.Nat.{ℕ, ◌+◌, ◌*◌}
use mathlib.Core.Path.{◌≡◌}
use native.Mathlib.Omega.{arith}
use Rattle.codec.proofs.OneVInt.{begun, at-end, at_five, last_fits, last-over, goes_on}
use Rattle.codec.proofs.vint.read_vint.Goals as goal

pub loop-n-init : goal.loop-n-init
loop-n-init c = begun c.args.s.now c.args.end c.args.at

pub returns-then-p-end : goal.returns-then-p-end
returns-then-p-end c = at-end c.loop-n.invariant c.if-p-end.true

pub returns-then-whole-gt4294967295 : goal.returns-then-whole-gt4294967295
returns-then-whole-gt4294967295 c = last-over c.loop-n.invariant c.if-p-end.false (omega arith) c.from-b.ensures (omega (arith, c.type_inv.s c.loop-n.p)) c.if-b-ge128.true c.if-whole-gt4294967295.true

pub returns-then-b-ge128 : goal.returns-then-b-ge128
returns-then-b-ge128 c = last_fits c.loop-n.invariant c.if-p-end.false (omega arith) c.from-b.ensures (omega (arith, c.type_inv.s c.loop-n.p)) c.if-b-ge128.true c.if-whole-gt4294967295.false

next : (n : ℕ) → 7 * (n + 1) ≡ 7 * n + 7
next n = omega arith

pub loop-n-preserved : goal.loop-n-preserved
loop-n-preserved c = rw (next c.loop-n.n) (goes_on c.loop-n.invariant c.if-p-end.false (omega arith) c.from-b.ensures (omega (arith, c.type_inv.s c.loop-n.p)) c.if-b-ge128.false)

pub returns : goal.returns
returns c = at_five c.loop-n.invariant (omega arith)
