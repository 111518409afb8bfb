-- `low::block_max_was_too_low_advance_one_scorer` meets its contract: the document sought and the scorer that seeks are the route's, and the order is restored from its place.
use mathlib.Core.List.{List, map}
use mathlib.Core.Path.{◌≡◌, ap, ◌∙◌}
use Prim.Native.Nat.{ℕ, ◌<◌, ◌≤◌}
use native.Mathlib.Omega.{arith}
use lib.ListN.{drop, get_or, length, length-map, length-take, take}
use lib.Seq.{get_or-take}
use Rattle.arrays.specs.Every.{All}
use Rattle.route.proofs.Union.Pivot.{behind-is}
use Rattle.bm25.specs.declared.Scoring.TheVariants.{Unstepped}
use Rattle.ordering.specs.Inner.Scorers.{slot_of}
use Rattle.term_scorer.specs.declared.TermScorer.{TermScorer}
use Rattle.ordering.proofs.Places.{all_first}
use Rattle.term_scorer.specs.Inner.Slots.{held, Held}
use Rattle.term_scorer.specs.Inner.Weights.{TopRead}
use Rattle.ordering.specs.Inner.Rows.{Readable}
use Rattle.slot_pivot.specs.Inner.Terms.{term_in}
use Rattle.union_moves.specs.Inner.Seats.{Stand, term_at}
use Rattle.union_moves.specs.Inner.Moves.{LastRead}
use Rattle.union_moves.proofs.Lowest.{last-reads, least-low, least-read, lowest-low, moved-readable, one_on, place_read, seeks-inside}
use Rattle.union_moves.proofs.Slots.{all-unmap, doc-known, first-of, readables}
use Rattle.union_moves.proofs.low.block_max_was_too_low_advance_one_scorer.Goals as goal
use Rattle.union_moves.proofs.low.block_max_was_too_low_advance_one_scorer.Goals.{After-least_doc-target, After-scorer_to_seek-at, After-seek, Start}

abbrev now : Start → Held
now a = held a.args.places.now a.args.blocks.now

-- the slots that the seek left
abbrev sought : After-seek → Held
sought k = held k.seek.new.places k.seek.new.blocks

abbrev slots : Start → List ℕ
slots a = take a.args.n a.args.order.now

abbrev terms-in : Start → List TermScorer
terms-in a = map (term_in a.args.lists.now a.args.places.now a.args.blocks.now) a.args.order.now

whole : (a : Start) → length (slots a) ≡ a.args.n
whole a = omega (arith, length-take a.args.n a.args.order.now, a.told-order)

read : (a : Start) → All (Readable a.args.places.now) (slots a)
read a = readables a.args.file.now a.args.lists.now Unstepped (now a) (slots a) (a.requires.3.stands Unstepped)

-- the scorer to seek is one of the first
at_in : (f : After-scorer_to_seek-at) → f.scorer_to_seek-at.result < f.args.pivot_len
at_in f =
    seeks-inside (terms-in f.before.before.before.before.before.before) f.args.pivot_len f.scorer_to_seek-at.result (f.scorer_to_seek-at.ensures f.args.places.now f.args.blocks.now) f.requires.0
    (omega (arith, length-map f.args.order.now (term_in f.args.lists.now f.args.places.now f.args.blocks.now), f.told-order))

in-slots : (f : After-scorer_to_seek-at) → f.scorer_to_seek-at.result < length (slots f.before.before.before.before.before.before)
in-slots f = omega (arith, at_in f, whole f.before.before.before.before.before.before)

here : (f : After-scorer_to_seek-at) → get_or (slots f.before.before.before.before.before.before) f.scorer_to_seek-at.result 0 ≡ get_or f.args.order.now f.scorer_to_seek-at.result 0
here f = get_or-take f.args.n f.args.order.now f.scorer_to_seek-at.result 0 (omega (arith, at_in f))

stand-in : (f : After-scorer_to_seek-at) → (Stand f.args.file.now f.args.lists.now (now f.before.before.before.before.before.before) (term_at f.args.file.now f.args.lists.now Unstepped f.args.places.now (get_or f.args.order.now f.scorer_to_seek-at.result 0)))
stand-in f =
    let term = term_at f.args.file.now f.args.lists.now Unstepped f.args.places.now in
    all_first (λ q. Stand f.args.file.now f.args.lists.now (now f.before.before.before.before.before.before) (term q)) f.args.order.now f.args.n f.scorer_to_seek-at.result 0 (omega (arith, at_in f)) (omega (arith, f.told-order))
    (all-unmap (Stand f.args.file.now f.args.lists.now (now f.before.before.before.before.before.before)) term (slots f.before.before.before.before.before.before) (f.requires.3.stands Unstepped))

target-low : (e : After-least_doc-target) → e.least_doc-target.result ≤ 2147483647
target-low e =
    let low = lowest-low e.args.places.now 2147483647 (take e.args.pivot_len e.args.order.now) in
    let last : e.least_last_doc-doc_to_seek_after.result ≤ 2147483647 = omega (arith, e.least_last_doc-doc_to_seek_after.ensures, low) in
    omega (arith, e.least_doc-target.ensures e.args.lists.now, e.behind.ensures, (behind-is e.least_last_doc-doc_to_seek_after.result last).0, least-low e.behind.result (drop e.args.pivot_len (take e.args.n (terms-in e.before.before.before.before.before))))

pub least_last_doc-doc_to_seek_after-requires : goal.least_last_doc-doc_to_seek_after-requires
least_last_doc-doc_to_seek_after-requires c =
    (omega arith, first-of (LastRead c.args.places.now) c.args.n c.args.pivot_len c.args.order.now c.requires.1 (last-reads _ _ (now (goal.at.least_last_doc-doc_to_seek_after-requires c).Start) _ c.requires.3))

pub behind-requires : goal.behind-requires
behind-requires c =
    omega (arith, c.least_last_doc-doc_to_seek_after.ensures, lowest-low c.args.places.now 2147483647 (take c.args.pivot_len c.args.order.now))

pub least_doc-target-requires : goal.least_doc-target-requires
least_doc-target-requires c =
    (c.requires.1, c.requires.2, read (goal.at.least_doc-target-requires c).Start)

pub scorer_to_seek-at-requires : goal.scorer_to_seek-at-requires
scorer_to_seek-at-requires c =
    (c.requires.0, omega arith, first-of (TopRead c.args.lists.now) c.args.n c.args.pivot_len c.args.order.now c.requires.1 c.requires.4)

pub offset_bounds-order-at : goal.offset_bounds-order-at
offset_bounds-order-at c = omega (arith, at_in c)

pub bounds-order-at : goal.bounds-order-at
bounds-order-at c = omega (arith, at_in (goal.at.bounds-order-at c).After-scorer_to_seek-at, c.told-order)

pub doc-doc-requires : goal.doc-doc-requires
doc-doc-requires c =
    let R = all_first (Readable c.args.places.now) c.args.order.now c.args.n c.scorer_to_seek-at.result 0 (omega (arith, at_in (goal.at.doc-doc-requires c).After-scorer_to_seek-at)) (omega (arith, c.told-order)) (read (goal.at.doc-doc-requires c).Start) in
    (R.slot-in, R.inside)

pub seek-requires : goal.seek-requires
seek-requires c =
    let S = stand-in (goal.at.seek-requires c).After-scorer_to_seek-at in
    (S.slot-in, S.slot, doc-known _ _ Unstepped (now (goal.at.seek-requires c).Start) _ S c.doc-doc.ensures, target-low (goal.at.seek-requires c).After-least_doc-target)

pub in_order-scorers-requires : goal.in_order-scorers-requires
in_order-scorers-requires c =
    (c.requires.2, c.requires.4, moved-readable _ _ Unstepped (slots (goal.at.in_order-scorers-requires c).Start) c.scorer_to_seek-at.result _ _ {h' = sought c} c.requires.3 (in-slots (goal.at.in_order-scorers-requires c).After-scorer_to_seek-at) _ (here (goal.at.in_order-scorers-requires c).After-scorer_to_seek-at) c.seek.ensures.moved)

pub restored-moved-requires : goal.restored-moved-requires
restored-moved-requires c =
    let e = c.in_order-scorers.ensures.0 in
    (omega (arith, at_in (goal.at.restored-moved-requires c).After-scorer_to_seek-at), omega arith)

pub keep_order-requires : goal.keep_order-requires
keep_order-requires c =
    omega (arith, c.restored-moved.ensures.0, c.in_order-scorers.ensures.0)

pub returns : goal.returns
returns c =
    let R = c.restored-moved.ensures in
    let n : c.restored-moved.result.len ≡ c.args.n = R.0 ∙ c.in_order-scorers.ensures.0 in
    let m : c.in_order-scorers.result.len ≡ c.args.n = c.in_order-scorers.ensures.0 in
    record {
      one = λ s T.
          let L = c.requires.3.stands s in
          one_on _ _ s (slots (goal.at.returns c).Start) c.scorer_to_seek-at.result _ _ {h' = sought (goal.at.returns c).After-seek} c.requires.3 (in-slots (goal.at.returns c).After-scorer_to_seek-at) _ (here (goal.at.returns c).After-scorer_to_seek-at) c.seek.ensures.moved c.args.pivot_len c.requires.0 (omega (arith, whole (goal.at.returns c).Start))
          (place_read c.args.file.now c.args.lists.now s (now (goal.at.returns c).Start) c.args.order.now c.requires.1 L T (c.scorer_to_seek-at.ensures c.args.places.now c.args.blocks.now))
          (least-read c.args.file.now c.args.lists.now s (now (goal.at.returns c).Start) c.args.order.now c.requires.1 L T (c.least_doc-target.ensures c.args.lists.now) c.behind.ensures c.least_last_doc-doc_to_seek_after.ensures)
          T c.in_order-scorers.ensures.1 (rw n at c.keep_order.ensures.are ∙ ap (map slot_of) (rw m at R.1.first.are));
      long = c.keep_order.ensures.long;
    }
