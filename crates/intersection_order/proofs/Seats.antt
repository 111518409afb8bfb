-- One scorer moves in its slot: the others stay, and all are seated as before.
use mathlib.Core.List.{List, []}
use mathlib.Core.Path.{ap, refl, subst, sym, ◌∙◌, ◌≡◌}
use Prim.Native.Nat.{ℕ, ◌+◌, ◌<◌, ◌≤◌}
use native.Mathlib.Omega.{arith}
use lib.Dec.{eqb}
use lib.ListN.{get_or, length, length-set, set}
use lib.Seq.{get_or-set_other, set-get_or}
use borrow.Author.Tests.{eqb-false, eqb-true}
use Rattle.route.specs.Cursor.{Cursor}
use Rattle.route.specs.Scorer.{last_doc_in_block}
use Rattle.route.specs.Inner.Lists.{ListOk}
use Rattle.route.proofs.Cases.{on_test}
use Rattle.route.proofs.Places.{last-cap}
use Rattle.bm25.specs.declared.Scoring.{Scoring}
use Rattle.notefile.specs.Header.{documents}
use Rattle.notefile.specs.Inner.Reads.{docs_of}
use Rattle.decoded.proofs.AcceptedLists.{list-ok}
use Rattle.skip_reader.specs.Inner.Decoded.{doc_in}
use Rattle.skip_reader.proofs.Readers.{end_is}
use Rattle.slot_rows.specs.Inner.Rows.{PlaceIn, cursor_in}
use Rattle.slot_rows.proofs.Rows.{cur-inside, doc-in-array, last-is, last-small}
use Rattle.term_scorer.specs.Inner.Slots.{Held, MovedSlot, SameRows, Shallowed, Sixteen, SlotIn, cursor_at, held, last_at, part_at}
use Rattle.term_scorer.specs.Inner.Weights.{BlockScores, BoundKept}
use Rattle.term_scorer.proofs.Kept.{kept-moved}
use Rattle.intersection_order.specs.Inner.Scorers.{InOrder, Query, SlotsIn, StillKept, StillScored, list_in, scorer_at, scorers_between, slot_at}
use Rattle.intersection_order.proofs.Parts.{part_same}

-- what holds of slot q, and of every other
pub at_slot : (P : ℕ → Type 0) (q : ℕ) → P q → ((r : ℕ) → (r ≡ q → ⊥) → P r) → (r : ℕ) → P r
at_slot P q p o r = on_test (eqb r q) (λ t. subst P (sym (eqb-true r q t)) p) (λ t. o r (eqb-false r q t))

-- only slot q has changed
abbrev pub Only : ℕ → Held → Held → Type 0
Only q h h' = (r : ℕ) → (r ≡ q → ⊥) → SameRows h h' r

pub unmoved : (q : ℕ) (h : Held) → SameRows h h q
unmoved q h = record { place = refl; block = refl }

pub unmoved-trans : {q : ℕ} {h h' h'' : Held} → SameRows h h' q → SameRows h' h'' q → SameRows h h'' q
unmoved-trans u v = record { place = v.place ∙ u.place; block = v.block ∙ u.block }

other : {A : Type 0} (xss yss : List (List A)) (q r : ℕ) (row : List A) → yss ≡ set xss q row → (r ≡ q → ⊥) → get_or yss r [] ≡ get_or xss r []
other xss yss q r row e n = ap (λ (z : List (List _)). get_or z r []) e ∙ get_or-set_other xss q r row [] n

-- a skip reader that moves alone moves its scorer
pub shallow-moves : {file : List ℕ} {lists : List (List ℕ)} {q : ℕ} {to : Scoring → Cursor} {h : Held} {places' : List (List ℕ)} → SlotIn file lists h q
    → Shallowed file lists q to h.places places' → MovedSlot file lists q to h (held places' h.blocks) (doc_in file (part_at lists q) (cursor_at h.places q).at)
shallow-moves {q = q} {h = h} S M = record {
  places-only = M.only;
  blocks-only = sym (set-get_or h.blocks q []);
  moved = M.moved (get_or h.blocks q []) S.place;
}

-- scores that are made afterwards were made before, of the same decoded block
pub still-scored : (x : Query) (places places' : List (List ℕ)) (q : ℕ)
    → (get_or (get_or places' q []) 8 0 ≡ 1 → (get_or (get_or places q []) 8 0 ≡ 1) × ((cursor_at places' q).dec ≡ (cursor_at places q).dec)) → StillScored x q places places'
still-scored x places places' q e floats K k =
    let (made, same) = e k in
    subst (λ (b : ℕ). BlockScores (list_in x q) b (get_or floats (2 + q) [])) (sym same) (K made)

pub row-scored : (x : Query) (places places' : List (List ℕ)) (q : ℕ) → get_or places' q [] ≡ get_or places q [] → StillScored x q places places'
row-scored x places places' q e floats K = rw e K

module _ (x : Query) {h h' : Held} (S : SlotsIn x h) {q : ℕ} (hq : q < x.len) where
  pub seated-by : Sixteen h'.places × Sixteen h'.blocks → Only q h h'
      → PlaceIn x.file (part_at x.lists q) (get_or h'.places q []) (get_or h'.blocks q []) → SlotsIn x h'
  seated-by s o p = record {
    sixteen = s;
    slot =
        at_slot (λ r. r < x.len → SlotIn x.file x.lists h' r) q
        (λ _. record { sixteen = s; part-row = (S.slot q hq).part-row; list = (S.slot q hq).list; place = p })
        (λ r n hr.
        let u = o r n in
        let k = S.slot r hr in
        let up = u.place in
        let ub = u.block in
        record { sixteen = s; part-row = k.part-row; list = k.list; place = rw (up, ub) k.place });
  }

  module _ {to : Scoring → Cursor} {doc : ℕ} (M : MovedSlot x.file x.lists q to h h' doc) where
    pub moved-only : Only q h h'
    moved-only r n = record {
      place = other h.places h'.places q r _ M.places-only n;
      block = other h.blocks h'.blocks q r _ M.blocks-only n;
    }

    pub still-seated : SlotsIn x h'
    still-seated =
        let (p, b) = S.sixteen in
        seated-by
        (ap length M.places-only ∙ length-set h.places q _ ∙ p, ap length M.blocks-only ∙ length-set h.blocks q _ ∙ b)
        moved-only M.moved.place

    pub still_kept : StillKept x h.places h'.places
    still_kept bounds B =
        at_slot (λ r. r < x.len → BoundKept x.scoring x.file x.lists h'.places bounds r) q
        (λ _. kept-moved (list_in x q) q M.moved.bound-is M.moved.ahead-is (B q hq))
        (λ r n hr. let u = (moved-only r n).place in rw u (B r hr))

    pub moved-scored : StillScored x q h.places h'.places
    moved-scored = still-scored x h.places h'.places q M.moved.scores-is

    -- the moved scorer is the route's
    pub scorer-is : scorer_at x h'.places q ≡ record { ord = q; list = list_in x q; cur = to x.scoring }
    scorer-is = ap (λ (k : Cursor). record { ord = q; list = list_in x q; cur = k }) (M.moved.cursor-is x.scoring)

-- the scorers at other places of the order stay
module _ (x : Query) (O : InOrder x) {i : ℕ} (hi : i < x.len) {h h' : Held} (o : Only (slot_at x i) h h') where
  pub others-stay : (a b : ℕ) → b ≤ x.len → ((k : ℕ) → a ≤ k → k < b → k ≡ i → ⊥) → scorers_between x h'.places a b ≡ scorers_between x h.places a b
  others-stay a b hb n =
      part_same x.order (scorer_at x h.places) (scorer_at x h'.places) a b (let e = O.long in let f = O.few in omega arith)
      (λ k u v. let w = (o (slot_at x k) (λ e. n k u v (O.apart k i (omega arith) hi e))).place in rw w)

  pub leader-stays : 1 ≤ i → SameRows h h' (slot_at x 0)
  leader-stays l = o (slot_at x 0) (λ e. absurd (let z = O.apart 0 i O.leader hi e in omega arith))

-- what functions by slot ask of the scorer at place i
pub slot_small : {x : Query} → InOrder x → {i : ℕ} → i < x.len → slot_at x i < 16
slot_small O {i} h = let b = O.below i h in let f = O.few in omega arith

module _ {x : Query} {h : Held} (S : SlotsIn x h) {q : ℕ} (hq : q < x.len) where
  pub cur-small : get_or (get_or h.places q []) 6 0 < 128
  cur-small = cur-inside x.file (get_or x.lists q []) (get_or h.places q []) (S.slot q hq).list (S.slot q hq).place

  pub doc-here : {doc : ℕ} → doc ≡ get_or (docs_of (get_or h.blocks q [])) (get_or (get_or h.places q []) 6 0) 0 → doc ≡ doc_in x.file (part_at x.lists q) (cursor_at h.places q).at
  doc-here e = e ∙ sym (doc-in-array x.file (get_or x.lists q []) (get_or h.places q []) (S.slot q hq).list (S.slot q hq).place)

  pub list_right : ListOk 128 (documents x.file) (list_in x q)
  list_right = list-ok x.scoring x.file (part_at x.lists q) (S.slot q hq).list.right (S.slot q hq).list.few

  pub last_fits : last_at h.places q < 4294967296
  last_fits = last-small x.file (part_at x.lists q) (get_or h.places q []) (S.slot q hq).place.standing

  -- the last document of the skip reader's block is the route's
  pub last-here : last_doc_in_block 128 (scorer_at x h.places q) ≡ last_at h.places q
  unfolding cursor_in
  last-here =
      end_is x.file (part_at x.lists q) (S.slot q hq).list x.scoring (get_or (get_or h.places q []) 0 0)
      ∙ sym (last-is x.file (part_at x.lists q) (get_or h.places q []) (S.slot q hq).place.standing)

  pub last-low : last_at h.places q ≤ 2147483647
  last-low = subst (λ (z : ℕ). z ≤ 2147483647) last-here (last-cap 128 (documents x.file) (list_in x q) list_right (cursor_at h.places q).blk)
