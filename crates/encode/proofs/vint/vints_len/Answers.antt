-- `encode::vint::vints_len` meets its contract. The loop's invariant (`Summing`): the lengths of i VInts are summed.
use mathlib.Core.Path.{refl}
use lib.ListN.{get_or}
use Rattle.encode.proofs.ShortVInts.{vint-most}
use Rattle.encode.proofs.VIntRows.{sum-begun, sum_low, sum_more}
use native.Mathlib.Omega.{arith}
use Rattle.encode.proofs.vint.vints_len.Goals as goal

pub loop-i-init : goal.loop-i-init
loop-i-init c = sum-begun (λ k. get_or c.args.values.now k 0) c.args.n

pub overflow_add-sum : goal.overflow_add-sum
overflow_add-sum c =
    let l = c.loop-i in
    omega (arith, sum_low l.invariant c.requires.0, vint-most (get_or c.args.values.now l.i 0), c.vint_len-sum.ensures)

pub loop-i-preserved : goal.loop-i-preserved
loop-i-preserved c = sum_more c.loop-i.invariant c.loop-i-test.true refl c.vint_len-sum.ensures
