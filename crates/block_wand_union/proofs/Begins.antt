-- How a union's run begins: scorers that were just opened stand at the first place of the route.
use mathlib.Core.List.{List, map}
use mathlib.Core.Path.{ap, subst, sym, ◌∙◌, ◌≡◌}
use Prim.Native.Nat.{ℕ, ◌≤◌}
use native.Mathlib.Omega.{arith}
use lib.Ieee.{Float}
use Rattle.arrays.specs.Every.{All}
use Rattle.route.specs.F32.{f32}
use Rattle.route.specs.Cursor.{fresh}
use Rattle.route.specs.Ordering.{sort_by}
use Rattle.route.specs.Scorer.{Scorer, doc_of}
use Rattle.route.specs.Union.{go_on, pivot_route}
use Rattle.route.specs.Inner.Unions.{Safe, SafeS, UnionKept}
use Rattle.route.proofs.Lists.{all-imp, all_map, all-perm}
use Rattle.route.proofs.Ordering.{sort-perm, sort_sorted}
use Rattle.route.proofs.Cursor.{fresh-is}
use Rattle.ordering.specs.Inner.Scorers.{Apart, by_doc}
use Rattle.term_scorer.specs.declared.TermScorer.{TermScorer}
use Rattle.ordering.proofs.Kept.{kept-all, kept-apart, sort-kept}
use Rattle.ordering.proofs.OnRoute.{SameDoc, sorted-on-route}
use Rattle.notefile.specs.Header.{documents}
use Rattle.decoded.proofs.AcceptedLists.{list-ok}
use Rattle.term_scorer.specs.Inner.Slots.{Held, list_at, part_at}
use Rattle.term_scorer.specs.Inner.Weights.{FloatRows, FreshSlot}
use Rattle.union_moves.specs.Inner.Seats.{Seat, Seated, Terms, on_route, scorer_at, term_at}
use Rattle.union_turn.specs.Inner.Turns.{place_in}
use Rattle.term_scorer.proofs.Kept.{kept_fresh}
use Rattle.block_wand_union.specs.Inner.Runs.{Begins}
use Rattle.union_turn.specs.Inner.Runs.{Stands, place_of}
use Rattle.union_turn.specs.declared.Stage.TheVariants.{Looking}
use Rattle.union_turn.specs.declared.Union.{Union}
use Rattle.union_moves.proofs.Seats.{same-doc, seat-stand}
use Rattle.union_turn.proofs.Standing.{place_kept, stands-kept}

module _ (file : List ℕ) (lists : List (List ℕ)) (T : Terms) (h : Held) where
  -- a scorer as its slot was opened
  pub record Fresh (s : TermScorer) : Type 0 where
    pub opened : FreshSlot T.scoring file lists T.norms h s.slot
    pub scorer-is : s ≡ term_at file lists T.scoring h.places s.slot

  abbrev f : TermScorer → Scorer Float
  f = scorer_at file lists T.scoring h.places

  fresh-seat : (s : TermScorer) → Fresh s → Seat file lists T h s
  fresh-seat s F = record {
    kept = kept_fresh F.opened;
    doc-is = ap (λ (z : TermScorer). z.doc) F.scorer-is;
    max-is = sym (ap (λ (z : TermScorer). z.max_score) F.scorer-is);
  }

  fresh-safe : (s : TermScorer) → Fresh s → SafeS 128 (documents file) (f s)
  fresh-safe s F =
      let l = list_at T.scoring file lists s.slot in
      let ok = list-ok T.scoring file (part_at lists s.slot) F.opened.slot.list.right F.opened.slot.list.few in
      let w = (fresh-is 128 (documents file) l ok).0 in
      let safe : Safe 128 (documents file) l fresh = record { lo = w.lo; hi = w.hi; order = w.order; in_list = omega (arith, w.in_list); edge = λ z. absurd (omega arith) } in
      record { ok = ok; safe = subst (Safe 128 (documents file) l) (sym F.opened.first) safe }

  module _ (l : List TermScorer) (a : All Fresh l) (apart : Apart l) (rows : FloatRows T.floats) where
    seats : All (Seat file lists T h) l
    seats = all-imp Fresh (Seat file lists T h) l fresh-seat a

    in_order : Seated file lists T h (sort_by by_doc l)
    in_order = record { seats = kept-all (Seat file lists T h) (sort-kept by_doc l) seats; apart = kept-apart (sort-kept by_doc l) apart; rows = rows }

    -- the order is the route's
    first-is : place_in file lists T.scoring h.places Looking (sort_by by_doc l) ≡ (pivot_route 128 f32 (on_route file lists T.scoring h l)).first
    first-is = ap (λ ss. go_on ss) (sorted-on-route f l (all-imp (Seat file lists T h) (SameDoc f) l (λ s S. same-doc file lists T.scoring h s (seat-stand _ _ S)) seats))

    first-kept : UnionKept 128 (documents file) f32 (pivot_route 128 f32 (on_route file lists T.scoring h l)).first
    first-kept =
        let safe = all_map Fresh (SafeS 128 (documents file)) f l fresh-safe a in
        record { scs = all-perm (SafeS 128 (documents file)) (sort-perm doc_of (map f l)) safe; order = sort_sorted doc_of (map f l); stands = tt }

    -- what `begin` leaves is the first place of the route over these scorers, and a run can go on from it
    pub begins : {n : ℕ} {u : Union} {order : List ℕ} → n ≤ 16 → Begins l n u order
        → Stands file lists T u order h × (place_of file lists T.scoring u order h.places ≡ (pivot_route 128 f32 (on_route file lists T.scoring h l)).first)
    begins {n} {u} {order} few B =
        rw B.union-is (
          stands-kept in_order Looking n order B.order_is few B.room (rw first-is first-kept),
          sym (place_kept in_order Looking n order B.order_is) ∙ first-is,
        )
