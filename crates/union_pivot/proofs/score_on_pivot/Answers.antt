-- `union_pivot::score_on_pivot` meets its contract: each turn adds the next scorer's score, and the scorers stay.
use mathlib.Core.List.{map}
use mathlib.Core.Path.{ap, refl, ◌∙◌, ◌≡◌}
use Prim.Native.Nat.{ℕ}
use native.Mathlib.Omega.{arith}
use lib.Ieee.{of_bits}
use lib.ListN.{get_or, take}
use Rattle.route.specs.Cursor.{Cursor}
use Rattle.route.specs.F32.{f32}
use Rattle.route.specs.Score.{sum}
use Rattle.route.specs.Scorer.{score_here}
use Rattle.ordering.proofs.Places.{all_first}
use Rattle.skip_reader.specs.Inner.Decoded.{doc_in}
use Rattle.term_scorer.specs.Inner.Slots.{cursor_at, held, list_at, part_at}
use Rattle.union_moves.specs.Inner.Seats.{OnDocument, Seat, Terms, slot_scorer, term_at, terms}
use Rattle.union_pivot.proofs.Advances.{scored-next}
use Rattle.union_pivot.proofs.Unmoved.{unmoved, unmoved-refl, unmoved-trans}
use Rattle.union_pivot.proofs.score_on_pivot.Goals as goal
use Rattle.union_pivot.proofs.score_on_pivot.Goals.{In-loop-i, Start}

abbrev slot : In-loop-i → ℕ
slot b = get_or b.args.order.now b.loop-i.i 0

abbrev terms₀ : Start → Terms
terms₀ a = terms a.args.leg.similarity.scoring a.args.norms.now a.args.floats.now

on-document : (b : In-loop-i) → (OnDocument b.args.file.now b.args.lists.now (terms₀ b.before.before.before.before.before) (held b.args.places.now b.args.blocks.now) (slot b))
on-document b =
    all_first (OnDocument b.args.file.now b.args.lists.now (terms₀ b.before.before.before.before.before) (held b.args.places.now b.args.blocks.now)) b.args.order.now b.args.span.pivot.pivot_len b.loop-i.i 0 (omega arith) (omega (arith, b.told-order)) b.requires.3

-- the scorer at place i, as it is seated now
seat-in : (b : In-loop-i) → (Seat b.args.file.now b.args.lists.now (terms b.args.leg.similarity.scoring b.args.norms.now b.loop-i.floats) (held b.loop-i.places b.args.blocks.now)
    (term_at b.args.file.now b.args.lists.now b.args.leg.similarity.scoring b.args.places.now (slot b)))
seat-in b = b.loop-i.invariant.2.seats _ (on-document b).seat

pub loop-i-init : goal.loop-i-init
unfolding of_bits
loop-i-init c = (omega arith, refl, unmoved-refl c.requires.2)

pub kept_score-score-requires : goal.kept_score-score-requires
kept_score-score-requires c =
    let S = seat-in (goal.at.kept_score-score-requires c).In-loop-i in
    let U = c.loop-i.invariant.2 in
    let x = part_at c.args.lists.now (slot (goal.at.kept_score-score-requires c).In-loop-i) in
    (S.kept.slot-in, c.requires.1, S.kept.slot, S.kept.weighed, U.rows, S.kept.scores, rw (ap (λ (z : Cursor). doc_in c.args.file.now x z.at) (U.cursor-is (slot (goal.at.kept_score-score-requires c).In-loop-i))) (on-document (goal.at.kept_score-score-requires c).In-loop-i).live)

pub loop-i-preserved : goal.loop-i-preserved
loop-i-preserved c =
    let S = seat-in (goal.at.loop-i-preserved c).In-loop-i in
    let U = c.loop-i.invariant.2 in
    let E = c.kept_score-score.ensures in
    let list = list_at c.args.leg.similarity.scoring c.args.file.now c.args.lists.now (slot (goal.at.loop-i-preserved c).In-loop-i) in (
      omega arith,
      scored-next (slot_scorer c.args.file.now c.args.lists.now c.args.leg.similarity.scoring c.args.places.now) c.args.order.now c.loop-i.i (omega (arith, c.told-order)) c.loop-i.invariant.1
          (◌∙◌ {b = list.score (cursor_at c.loop-i.places (slot (goal.at.loop-i-preserved c).In-loop-i)).at} E.0 (ap (λ (k : Cursor). list.score k.at) (U.cursor-is (slot (goal.at.loop-i-preserved c).In-loop-i)))),
      unmoved-trans {floats'' = c.kept_score-score.new.floats} {h'' = held c.kept_score-score.new.places c.args.blocks.now} U (unmoved c.args.file.now c.args.lists.now c.args.leg.similarity.scoring c.args.norms.now {floats = c.loop-i.floats} {floats' = c.kept_score-score.new.floats} S.kept.slot-in {places = c.loop-i.places} {places' = c.kept_score-score.new.places} c.args.blocks.now S.kept.slot.sixteen.0 E.1),
    )

pub returns : goal.returns
returns c =
    let f = slot_scorer c.args.file.now c.args.lists.now c.args.leg.similarity.scoring c.args.places.now in
    let e : c.loop-i.i ≡ c.args.span.pivot.pivot_len = omega arith in
    (c.loop-i.invariant.1 ∙ ap (λ (k : ℕ). sum f32 (map score_here (map f (take k c.args.order.now)))) e, c.loop-i.invariant.2)
