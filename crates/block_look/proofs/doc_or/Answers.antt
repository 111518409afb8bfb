-- `doc_or` meets its contract. The loop's invariant (`Joining`): the bits of the first i steps are joined.
use Rattle.std.proofs.Common.{ℕ, ◌+◌, ◌-◌, ◌<◌, get_or, arith}
use Rattle.block_look.specs.Inner.Joint.{steps}
use Rattle.block_look.proofs.Joins.{first-joined, next-joined, joined}
use Rattle.block_look.proofs.Steps.{first_step, next-step}
use Rattle.block_look.proofs.doc_or.Goals as goal
use Rattle.block_look.proofs.doc_or.Goals.{Start}

abbrev steps_of : Start → ℕ → ℕ
steps_of s = steps (λ k. get_or s.args.docs.now (s.args.at + k) 0) s.args.base

pub loop-i-init : goal.loop-i-init
loop-i-init c =
    let a = c.args in
    (omega arith, first-joined (steps_of (goal.at.loop-i-init c).Start) (first_step a.docs.now a.at a.base c.requires.1 c.wrapping_sub_u32-all.type_inv c.wrapping_sub_u32-all.ensures.value) c.wrapping_sub_u32-all.type_inv)

pub loop-i-preserved : goal.loop-i-preserved
loop-i-preserved c =
    let a = c.args in
    let p = a.at + c.loop-i.i - 1 in
    let low : get_or a.docs.now p 0 < 4294967296 = omega (arith, c.type_inv.docs p) in
    let e = next-step a.docs.now a.at a.base c.loop-i.i c.loop-i.invariant.0 low c.wrapping_sub_u32-all-in-loop-i.type_inv c.wrapping_sub_u32.ensures.value c.wrapping_sub_u32-all-in-loop-i.ensures.value in
    (omega arith, next-joined (steps_of (goal.at.loop-i-preserved c).Start) c.loop-i.invariant.1 c.loop-i-test.true e c.wrapping_sub_u32-all-in-loop-i.type_inv)

pub returns : goal.returns
returns c = joined (steps_of (goal.at.returns c).Start) c.loop-i.invariant.1 c.loop-i-test.false
