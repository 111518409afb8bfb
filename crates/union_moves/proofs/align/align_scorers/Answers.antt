-- `align::align_scorers` meets its contract: each turn one scorer seeks the pivot in its slot, which is one step of the route's alignment; a miss is put back.
use mathlib.Core.Bool.{true≢false}
use mathlib.Core.List.{List}
use mathlib.Core.Path.{◌≡◌, ap, refl, subst, sym}
use Prim.Native.Nat.{ℕ, ◌-◌, ◌<◌}
use native.Mathlib.Omega.{arith}
use lib.ListN.{get_or, length, length-take, take}
use lib.Seq.{get_or-take}
use Rattle.bm25.specs.declared.Scoring.TheVariants.{Unstepped}
use Rattle.postings.proofs.Answers.{off-target, on-target}
use Rattle.term_scorer.specs.Inner.Slots.{held, Held, Sixteen}
use Rattle.union_moves.specs.Inner.Seats.{Lined, Stand, term_at}
use Rattle.union_moves.proofs.Alignments.{all-on, goes-past, seeking, seeks, stand-before, still-readable}
use Rattle.union_moves.proofs.Slots.{doc-known, readable}
use Rattle.union_moves.proofs.align.align_scorers.Goals as goal
use Rattle.union_moves.proofs.align.align_scorers.Goals.{After-seek-found, In-loop-i, Start}

abbrev first : Start → Held
first a = held a.args.places.now a.args.blocks.now

abbrev slots : In-loop-i → List ℕ
slots l = take l.args.n l.loop-i.order

abbrev now : In-loop-i → Held
now b = held b.loop-i.places b.loop-i.blocks

-- the slots that a seek left
abbrev sought : After-seek-found → Held
sought k = held k.seek-found.new.places k.seek-found.new.blocks

sixteen : (l : In-loop-i) → Sixteen l.loop-i.order
sixteen l = subst Sixteen (sym l.loop-i.invariant.1) l.told-order

lined : (l : In-loop-i) → Lined l.args.file.now l.args.lists.now (first l.before.before.before.before) (slots l)
lined l = subst (λ (z : List ℕ). Lined l.args.file.now l.args.lists.now (first l.before.before.before.before) (take l.args.n z)) (sym l.loop-i.invariant.1) l.requires.3

inside : (l : In-loop-i) → l.args.before_pivot_len < length (slots l)
inside l = omega (arith, sixteen l, length-take l.args.n l.loop-i.order)

-- the slot before place i
here : (b : In-loop-i) → get_or (slots b) (b.loop-i.i - 1) 0 ≡ get_or b.loop-i.order (b.loop-i.i - 1) 0
here b = get_or-take b.args.n b.loop-i.order (b.loop-i.i - 1) 0 (omega arith)

stand-in : (b : In-loop-i) → (Stand b.args.file.now b.args.lists.now (now b) (term_at b.args.file.now b.args.lists.now Unstepped b.loop-i.places (get_or b.loop-i.order (b.loop-i.i - 1) 0)))
stand-in b =
    rw (here b) at (stand-before _ _ _ Unstepped (first b.before.before.before.before) (slots b) _ (lined b) (inside b) (b.loop-i.invariant.2 Unstepped) (omega arith))

pub loop-i-init : goal.loop-i-init
loop-i-init c = (omega arith, refl, λ s. seeking _ _ _ s _ _ _ c.requires.3)

pub bounds-order-i : goal.bounds-order-i
bounds-order-i c = omega (arith, sixteen (goal.at.bounds-order-i c).In-loop-i)

pub doc-at-requires : goal.doc-at-requires
doc-at-requires c =
    let R = readable _ _ Unstepped (now (goal.at.doc-at-requires c).In-loop-i) _ (stand-in (goal.at.doc-at-requires c).In-loop-i) in (R.slot-in, R.inside)

pub seek-found-requires : goal.seek-found-requires
seek-found-requires c =
    let S = stand-in (goal.at.seek-found-requires c).In-loop-i in
    (S.slot-in, S.slot, doc-known _ _ Unstepped (now (goal.at.seek-found-requires c).In-loop-i) _ S c.doc-at.ensures, omega (arith, c.requires.2))

pub put_back-len-requires : goal.put_back-len-requires
put_back-len-requires c =
    (omega arith, c.requires.1, still-readable _ _ _ Unstepped (first (goal.at.put_back-len-requires c).Start) (slots (goal.at.put_back-len-requires c).In-loop-i) _ (lined (goal.at.put_back-len-requires c).In-loop-i) (inside (goal.at.put_back-len-requires c).In-loop-i) (c.loop-i.invariant.2 Unstepped) (omega arith) {h'' = sought (goal.at.put_back-len-requires c).After-seek-found} _ (here (goal.at.put_back-len-requires c).In-loop-i) c.seek-found.ensures.moved)

pub returns-in-Err : goal.returns-in-Err
returns-in-Err c =
    let D = c.put_back-len.ensures in
    record {
      by = λ s. goes-past _ _ _ s (first (goal.at.returns-in-Err c).Start) (slots (goal.at.returns-in-Err c).In-loop-i) _ (lined (goal.at.returns-in-Err c).In-loop-i) (inside (goal.at.returns-in-Err c).In-loop-i) (c.loop-i.invariant.2 s) (omega arith) {h'' = sought (goal.at.returns-in-Err c).After-seek-found} _ (here (goal.at.returns-in-Err c).In-loop-i) c.seek-found.ensures.moved (off-target _ _ _ c.seek-found.ensures.answer-is c.requires.2 c.in-Err.is) _ D.are (ap (take c.args.n) c.loop-i.invariant.1);
      few = D.few;
      all = λ e. absurd (true≢false (sym e));
      long = D.long;
    }

pub loop-i-preserved : goal.loop-i-preserved
loop-i-preserved c =
    (omega arith, c.loop-i.invariant.1, λ s. seeks _ _ _ s (first (goal.at.loop-i-preserved c).Start) (slots (goal.at.loop-i-preserved c).In-loop-i) _ (lined (goal.at.loop-i-preserved c).In-loop-i) (inside (goal.at.loop-i-preserved c).In-loop-i) (c.loop-i.invariant.2 s) (omega arith) {h'' = sought (goal.at.loop-i-preserved c).After-seek-found} _ (here (goal.at.loop-i-preserved c).In-loop-i) c.seek-found.ensures.moved (on-target _ _ _ c.seek-found.ensures.answer-is c.in-Ok.is))

pub returns : goal.returns
returns c =
    record { by = λ s. all-on _ _ _ s (first (goal.at.returns c).Start) (take c.args.n c.loop-i.order) _ (c.loop-i.invariant.2 s) (omega arith) (ap (take c.args.n) c.loop-i.invariant.1); few = omega arith; all = λ _. refl; long = subst Sixteen (sym c.loop-i.invariant.1) c.told-order }
