-- `freq_or` meets its contract. The loop's invariant (`Joining`): the bits of the first i frequencies less 1 are joined.
use Rattle.std.proofs.Common.{ℕ, ◌+◌, get_or}
use Rattle.block_look.specs.Inner.Joint.{less_one}
use Rattle.block_look.proofs.Joins.{none-joined, next-joined, joined}
use Rattle.block_look.proofs.Steps.{less-one}
use Rattle.block_look.proofs.freq_or.Goals as goal
use Rattle.block_look.proofs.freq_or.Goals.{Start}

abbrev less-of : Start → ℕ → ℕ
less-of s = less_one (λ k. get_or s.args.freqs.now (s.args.at + k) 0)

pub loop-i-init : goal.loop-i-init
loop-i-init c = none-joined (less-of (goal.at.loop-i-init c).Start)

pub loop-i-preserved : goal.loop-i-preserved
loop-i-preserved c =
    let e = less-one c.args.freqs.now c.args.at c.loop-i.i c.wrapping_sub_u32-all.type_inv c.wrapping_sub_u32-all.ensures.value in
    next-joined (less-of (goal.at.loop-i-preserved c).Start) c.loop-i.invariant c.loop-i-test.true e c.wrapping_sub_u32-all.type_inv

pub returns : goal.returns
returns c = joined (less-of (goal.at.returns c).Start) c.loop-i.invariant c.loop-i-test.false
