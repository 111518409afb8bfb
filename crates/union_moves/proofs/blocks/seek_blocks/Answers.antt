-- `blocks::seek_blocks` meets its contract: each turn one skip reader seeks the pivot in its slot, which leaves every other scorer, and its block's bound is added.
use mathlib.Core.List.{List}
use mathlib.Core.Path.{◌≡◌, ap, ◌∙◌}
use Prim.Native.Nat.{ℕ, ◌<◌, ◌≤◌}
use native.Mathlib.Omega.{arith}
use lib.Ieee.{of_bits}
use lib.ListN.{get_or, length, length-map, length-take, take}
use lib.Seq.{get_or-take}
use Rattle.route.specs.Cursor.{seek_block_in}
use Rattle.ordering.specs.Inner.Scorers.{no_scorer}
use Rattle.term_scorer.specs.declared.TermScorer.{TermScorer}
use Rattle.term_scorer.specs.Inner.Slots.{cursor_at, held, list_at}
use Rattle.ordering.proofs.Rows.{map_at}
use Rattle.union_moves.specs.Inner.Seats.{Seat, term_at, terms, terms_of}
use Rattle.union_moves.proofs.BlockBounds.{Bounding, bounded, bounding, bounds-next, seat-at}
use Rattle.union_moves.proofs.Seats.{seat-stand, shallow-seat, standing-in}
use Rattle.union_moves.proofs.blocks.seek_blocks.Goals as goal
use Rattle.union_moves.proofs.blocks.seek_blocks.Goals.{In-loop-i, Start}

abbrev scorers : Start → ℕ → List TermScorer
scorers a n = terms_of a.args.file.now a.args.lists.now a.args.similarity.scoring a.args.places.now (take n a.args.order.now)

in-scorers : (b : In-loop-i) (n : ℕ) → b.args.pivot_len ≤ n → b.loop-i.i < length (scorers b.before.before.before.before n)
in-scorers b n k =
    omega (arith, length-map (take n b.args.order.now) (term_at b.args.file.now b.args.lists.now b.args.similarity.scoring b.args.places.now), length-take n b.args.order.now, b.told-order)

-- the scorer at place i
here : (b : In-loop-i) (n : ℕ) → b.args.pivot_len ≤ n → (get_or (scorers b.before.before.before.before n) b.loop-i.i no_scorer ≡ term_at b.args.file.now b.args.lists.now b.args.similarity.scoring b.args.places.now (get_or b.args.order.now b.loop-i.i 0))
here b n k =
    let term = term_at b.args.file.now b.args.lists.now b.args.similarity.scoring b.args.places.now in
    map_at term (take n b.args.order.now) b.loop-i.i 0 no_scorer (omega (arith, length-take n b.args.order.now, b.told-order))
    ∙ ap term (get_or-take n b.args.order.now b.loop-i.i 0 (omega arith))

-- of the first scorers alone
own : (b : In-loop-i) → (Bounding b.args.file.now b.args.lists.now (terms b.args.similarity.scoring b.args.norms.now b.args.floats.now) b.args.places.now b.args.blocks.now b.args.pivot_doc
    (scorers b.before.before.before.before b.args.pivot_len) b.loop-i.i b.loop-i.places b.loop-i.floats b.loop-i.sum)
own b = b.loop-i.invariant.1 b.args.pivot_len (omega arith) b.requires.2

seat-in : (b : In-loop-i) → (Seat b.args.file.now b.args.lists.now (terms b.args.similarity.scoring b.args.norms.now b.loop-i.floats) (held b.loop-i.places b.args.blocks.now)
    (term_at b.args.file.now b.args.lists.now b.args.similarity.scoring b.args.places.now (get_or b.args.order.now b.loop-i.i 0)))
seat-in b =
    rw (here b b.args.pivot_len (omega arith)) at (seat-at b.args.file.now b.args.lists.now _ _ _ b.args.pivot_doc _ (own b) (in-scorers b b.args.pivot_len (omega arith)))

pub loop-i-init : goal.loop-i-init
unfolding of_bits
loop-i-init c = (omega arith, λ n k S. bounding _ _ _ _ _ _ _ S.seats S.rows)

pub shallow_seek-requires : goal.shallow_seek-requires
shallow_seek-requires c = let S = seat-in (goal.at.shallow_seek-requires c).In-loop-i in (S.kept.slot-in, standing-in _ _ _ _ (seat-stand _ _ S))

pub block_max-sum-requires : goal.block_max-sum-requires
block_max-sum-requires c =
    let S = seat-in (goal.at.block_max-sum-requires c).In-loop-i in
    let q = get_or c.args.order.now c.loop-i.i 0 in
    let T = terms c.args.similarity.scoring c.args.norms.now c.loop-i.floats in
    let x = term_at c.args.file.now c.args.lists.now c.args.similarity.scoring c.args.places.now q in
    let Z = shallow-seat c.args.file.now c.args.lists.now x c.args.blocks.now {to = λ k. seek_block_in (list_at k c.args.file.now c.args.lists.now q) 128 c.args.pivot_doc (cursor_at c.loop-i.places q)} c.shallow_seek.ensures T S in
    (S.kept.slot-in, c.requires.1, Z.kept.slot, Z.kept.weighed, Z.kept.bound)

pub loop-i-preserved : goal.loop-i-preserved
loop-i-preserved c = (
  omega arith,
  λ n k S.
      bounds-next c.args.file.now c.args.lists.now _ _ c.args.blocks.now c.args.pivot_doc (scorers (goal.at.loop-i-preserved c).Start n) (c.loop-i.invariant.1 n k S) (in-scorers (goal.at.loop-i-preserved c).In-loop-i n k) S.apart
      (get_or c.args.order.now c.loop-i.i 0) (ap (λ (t : TermScorer). t.slot) (here (goal.at.loop-i-preserved c).In-loop-i n k)) {places₂ = c.block_max-sum.new.places} {bounds₂ = c.block_max-sum.new.bounds} c.shallow_seek.ensures c.block_max-sum.ensures,
)

pub returns : goal.returns
returns c = λ n k S. bounded _ _ _ _ _ _ _ (c.loop-i.invariant.1 n k S) _ (omega arith)
