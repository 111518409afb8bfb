-- `union_turn::on_pivot` meets its contract: a miss leaves the route's scorers, and scorers that all came to the pivot are on a document, so that they can be scored and go on.
use mathlib.Core.List.{List}
use Prim.Native.Nat.{ℕ, ◌≤◌, ◌<◌}
use native.Mathlib.Omega.{arith}
use lib.ListN.{length-map, length-take, take}
use lib.Seq.{take-take}
use Rattle.union_moves.specs.Inner.Seats.{term_at, terms_of}
use Rattle.union_moves.specs.Inner.Moves.{OnPivot}
use Rattle.union_turn.proofs.OnPivots.{came-to, miss, on-document, on-hit, pivot-low, stands_at, went-past}
use Rattle.union_moves.proofs.Seats.{still-seated}
use Rattle.union_moves.proofs.Slots.{lined}
use Rattle.term_scorer.specs.Inner.Slots.{held, Held}
use Rattle.union_turn.proofs.on_pivot.Goals as goal
use Rattle.union_turn.proofs.on_pivot.Goals.{After-align_scorers-alignment, Start, Then-alignment}

abbrev now : Start → Held
now a = held a.args.places.now a.args.blocks.now

-- the slots, and their order, that the alignment left
abbrev aligned : After-align_scorers-alignment → Held
aligned b = held b.align_scorers-alignment.new.places b.align_scorers-alignment.new.blocks

abbrev order' : After-align_scorers-alignment → List ℕ
order' b = b.align_scorers-alignment.new.order

-- all came to the pivot
came : (t : Then-alignment) → (OnPivot t.args.file.now t.args.lists.now t.args.span.pivot.pivot_doc (now t.before.before.before.before.before.before.before) (terms_of t.args.file.now t.args.lists.now t.args.leg.similarity.scoring t.args.places.now (take t.args.span.len t.args.order.now)) t.args.span.pivot.before_pivot_len
    (held t.align_scorers-alignment.new.places t.align_scorers-alignment.new.blocks) (terms_of t.args.file.now t.args.lists.now t.args.leg.similarity.scoring (held t.align_scorers-alignment.new.places t.align_scorers-alignment.new.blocks).places (take t.args.span.len t.align_scorers-alignment.new.order)))
came t =
    came-to {h = now t.before.before.before.before.before.before.before} {h' = held t.align_scorers-alignment.new.places t.align_scorers-alignment.new.blocks} {order = t.args.order.now} {order' = t.align_scorers-alignment.new.order} t.align_scorers-alignment.ensures t.args.leg.similarity.scoring t.if-alignment.true

at_len : (a : Start) → (a.args.span.pivot.before_pivot_len < a.args.span.len) × (a.args.span.pivot.pivot_len ≤ a.args.span.len)
at_len a =
    let q = a.requires.2.found in
    let n = length-take a.args.span.len a.args.order.now in
    let m = length-map (take a.args.span.len a.args.order.now) (term_at a.args.file.now a.args.lists.now a.args.leg.similarity.scoring a.args.places.now) in
    (omega (arith, q.first, q.inside), omega (arith, q.inside))

pub align_scorers-alignment-requires : goal.align_scorers-alignment-requires
align_scorers-alignment-requires c =
    let A = c.requires.2 in
    let low = pivot-low c.args.order.now c.args.span.len A in
    ((at_len (goal.at.align_scorers-alignment-requires c).Start).0, c.requires.0, omega arith, lined c.args.file.now c.args.lists.now c.args.leg.similarity.scoring (now (goal.at.align_scorers-alignment-requires c).Start) (take c.args.span.len c.args.order.now) (stands_at c.args.order.now c.args.span.len A) A.seated.apart)

pub hit-requires : goal.hit-requires
hit-requires c =
    let A = c.requires.2 in
    let E = c.align_scorers-alignment.ensures in
    ((at_len (goal.at.hit-requires c).Start).1, c.requires.0, c.requires.1, still-seated c.args.file.now c.args.lists.now {h' = aligned (goal.at.hit-requires c).After-align_scorers-alignment} A.seated (came (goal.at.hit-requires c).Then-alignment).carried, rw (take-take c.args.span.pivot.pivot_len c.args.span.len (order' (goal.at.hit-requires c).After-align_scorers-alignment) (at_len (goal.at.hit-requires c).Start).1) at (on-document c.args.order.now c.args.span.len A {h' = aligned (goal.at.hit-requires c).After-align_scorers-alignment} (order' (goal.at.hit-requires c).After-align_scorers-alignment) (came (goal.at.hit-requires c).Then-alignment) (at_len (goal.at.hit-requires c).Start).1))

pub returns-then-alignment : goal.returns-then-alignment
returns-then-alignment c =
    on-hit c.args.order.now c.args.span.len c.requires.2 {h' = aligned (goal.at.returns-then-alignment c).After-align_scorers-alignment} (order' (goal.at.returns-then-alignment c).After-align_scorers-alignment) (came (goal.at.returns-then-alignment c).Then-alignment) {h'' = held c.hit.new.places c.hit.new.blocks} {order'' = c.hit.new.order} {floats'' = c.hit.new.floats} c.hit.ensures

pub returns : goal.returns
returns c =
    let E = c.align_scorers-alignment.ensures in
    rw c.quiet.ensures (miss c.args.order.now c.args.span.len c.requires.2 c.args.leg.threshold {h' = aligned (goal.at.returns c).After-align_scorers-alignment} {order' = order' (goal.at.returns c).After-align_scorers-alignment} c.align_scorers-alignment.result.len (went-past {h = now (goal.at.returns c).Start} {h' = aligned (goal.at.returns c).After-align_scorers-alignment} {order = c.args.order.now} {order' = order' (goal.at.returns c).After-align_scorers-alignment} E c.args.leg.similarity.scoring c.if-alignment.false) E.few E.long)
