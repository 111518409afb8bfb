-- `union_pivot::advance_all_scorers_on_pivot` meets its contract: each turn one scorer advances in its slot, and the sweep and the sort are the route's.
use mathlib.Core.List.{List}
use mathlib.Core.Path.{◌≡◌}
use Prim.Native.Nat.{ℕ, ◌<◌}
use native.Mathlib.Omega.{arith}
use lib.ListN.{get_or, length, length-take, take}
use lib.Seq.{get_or-take}
use Rattle.arrays.specs.Every.{All}
use Rattle.bm25.specs.declared.Scoring.TheVariants.{Unstepped}
use Rattle.ordering.proofs.Kept.{kept-all, sweep-kept}
use Rattle.ordering.proofs.Places.{all_first}
use Rattle.term_scorer.specs.Inner.Slots.{held, Held}
use Rattle.ordering.specs.Inner.Rows.{Readable, doc_at}
use Rattle.union_moves.specs.Inner.Seats.{Inside}
use Rattle.union_pivot.proofs.Advances.{advanced, advances, advancing, inside-at, stand-at, swept-sorted}
use Rattle.union_moves.proofs.Slots.{readables}
use Rattle.union_pivot.proofs.advance_all_scorers_on_pivot.Goals as goal
use Rattle.union_pivot.proofs.advance_all_scorers_on_pivot.Goals.{At-loop-i, In-loop-i, Start}

abbrev first : Start → Held
first a = held a.args.places.now a.args.blocks.now

abbrev slots : Start → List ℕ
slots a = take a.args.n a.args.order.now

abbrev key : At-loop-i → ℕ → ℕ
key l = doc_at l.loop-i.places l.loop-i.blocks

whole : (a : Start) → length (slots a) ≡ a.args.n
whole a = omega (arith, length-take a.args.n a.args.order.now, a.told-order)

in-slots : (b : In-loop-i) → b.loop-i.i < length (slots b.before.before.before.before)
in-slots b = omega (arith, whole b.before.before.before.before)

-- the slot at place i
here : (b : In-loop-i) → (get_or (slots b.before.before.before.before) b.loop-i.i 0 ≡ get_or b.args.order.now b.loop-i.i 0)
here b = get_or-take b.args.n b.args.order.now b.loop-i.i 0 (omega arith)

inside : (b : In-loop-i) → (Inside b.args.lists.now (first b.before.before.before.before) (get_or b.args.order.now b.loop-i.i 0))
inside b =
    all_first (Inside b.args.lists.now (first b.before.before.before.before)) b.args.order.now b.args.pivot_len b.loop-i.i 0 (omega arith) (omega (arith, b.told-order)) b.requires.3

read : (l : At-loop-i) → All (Readable l.loop-i.places) (slots l.before.before.before)
read l = readables l.args.file.now l.args.lists.now Unstepped (held l.loop-i.places l.loop-i.blocks) (slots l.before.before.before) (l.loop-i.invariant.1 Unstepped).carried.stands

pub loop-i-init : goal.loop-i-init
loop-i-init c = (omega arith, λ s. advancing _ _ s _ _ c.requires.2)

pub step-requires : goal.step-requires
step-requires c =
    let S = c.loop-i.invariant.1 Unstepped in
    let X = rw (here (goal.at.step-requires c).In-loop-i) at (stand-at _ _ Unstepped (first (goal.at.step-requires c).Start) (slots (goal.at.step-requires c).Start) c.requires.2 S (in-slots (goal.at.step-requires c).In-loop-i)) in
    (X.slot-in, X.slot, rw (here (goal.at.step-requires c).In-loop-i) at (inside-at _ _ Unstepped (first (goal.at.step-requires c).Start) (slots (goal.at.step-requires c).Start) c.requires.2 S (in-slots (goal.at.step-requires c).In-loop-i) (rw (here (goal.at.step-requires c).In-loop-i) (inside (goal.at.step-requires c).In-loop-i))))

pub loop-i-preserved : goal.loop-i-preserved
loop-i-preserved c =
    (omega arith, λ s. advances _ _ s (first (goal.at.loop-i-preserved c).Start) (slots (goal.at.loop-i-preserved c).Start) c.requires.2 (c.loop-i.invariant.1 s) (in-slots (goal.at.loop-i-preserved c).In-loop-i) {h'' = held c.step.new.places c.step.new.blocks} _ (here (goal.at.loop-i-preserved c).In-loop-i) c.step.ensures)

pub sweep-len-requires : goal.sweep-len-requires
sweep-len-requires c =
    (c.requires.1, read (goal.at.sweep-len-requires c).At-loop-i)

pub sort_by_doc-requires : goal.sort_by_doc-requires
sort_by_doc-requires c =
    let D = c.sweep-len.ensures in
    (omega (arith, D.few), rw D.are (kept-all (Readable c.loop-i.places) (sweep-kept (key (goal.at.sort_by_doc-requires c).At-loop-i) c.args.n (slots (goal.at.sort_by_doc-requires c).Start)) (read (goal.at.sort_by_doc-requires c).At-loop-i)))

pub returns : goal.returns
returns c =
    let D = c.sweep-len.ensures in
    let E = c.sort_by_doc.ensures in
    record {
      on = λ s. advanced _ _ s (first (goal.at.returns c).Start) (slots (goal.at.returns c).Start) c.requires.2 (c.loop-i.invariant.1 s) c.args.n c.args.pivot_len (whole (goal.at.returns c).Start) (omega arith) _ (swept-sorted (key (goal.at.returns c).At-loop-i) c.args.n (slots (goal.at.returns c).Start) {left = take c.sweep-len.result c.sweep-len.new.order} E.are D.are);
      few = D.few;
      long = E.long;
    }
