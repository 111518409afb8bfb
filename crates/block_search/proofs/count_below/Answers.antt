-- `block_search::count_below` meets its contract. The count lies in a segment of 16, then in one of 2 of these, and the last two
-- tests are segments of one value.
use Prim.Native.Nat.{◌+◌, ◌*◌}
use native.Mathlib.Omega.{arith}
use Rattle.block_search.specs.Search.{count_below}
use Rattle.block_search.proofs.Segments.{Segment, at_most, ends-are, first-end, next-end, last-two}
use Rattle.block_search.proofs.count_below.Goals as goal
use Rattle.block_search.proofs.count_below.Goals.{After-segment, After-segment-far}

-- the count lies in the segment of 16, and then in the one of 2
in-far : (c : After-segment-far) → Segment (count_below 128 c.args.values.now c.args.target) 0 16 c.segment-far.result
in-far c =
    let xs = c.args.values.now in
    ends-are xs c.requires c.args.target 0 16 (omega arith) (omega arith) (omega arith) (at_most xs c.requires c.args.target) c.segment-far.ensures.0

in_near : (c : After-segment) → Segment (count_below 128 c.args.values.now c.args.target) (16 * c.segment-far.result) 2 c.segment.result
in_near c =
    let s = in-far c.before in
    ends-are c.args.values.now c.requires c.args.target _ 2 (omega arith) (omega (arith, s.few)) (omega (arith, s.low)) (omega (arith, s.high)) c.segment.ensures.0

pub returns : goal.returns
returns c =
    let near = 16 * c.segment-far.result + 2 * c.segment.result in
    let t = in_near (goal.at.returns c).After-segment in
    let p1 = first-end c.args.values.now c.requires c.args.target near 1 near (omega (arith, t.low)) (omega arith) (omega (arith, c.segment-far.ensures.1, t.few)) c.below.ensures.0 in
    let p2 = next-end c.args.values.now c.requires c.args.target (near + 1) p1 (omega arith) (omega (arith, c.segment-far.ensures.1, t.few)) c.below-2.ensures.0 in
    last-two c.below.result c.below-2.result p2 (omega (arith, t.high))
