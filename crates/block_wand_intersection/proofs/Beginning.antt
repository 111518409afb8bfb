-- Where a run begins: the order by size is one of the slots, each once, and its first place is that of the query's route.
use mathlib.Core.List.{List, map, [], ◌∷◌}
use mathlib.Core.Path.{ap, refl, subst, sym, ◌∙◌, ◌≡◌}
use Prim.Native.Nat.{suc, zero, ℕ, ◌+◌, ◌<◌, ◌≤◌}
use native.Mathlib.Numerals.{add-one}
use native.Mathlib.Omega.{arith}
use lib.ListN.{drop, get_or, length, length-take, take}
use lib.Seq.{get_or-take}
use lib.Ieee.{Float}
use Rattle.route.specs.F32.{f32}
use Rattle.arrays.specs.Every.{All}
use Rattle.route.specs.Ordering.{sort_by}
use Rattle.route.specs.Score.{sum, sum_from}
use Rattle.route.specs.Cursor.{Cursor, fresh}
use Rattle.route.specs.Scorer.{Scorer, doc_of, scorers_from, size_hint}
use Rattle.route.specs.Intersection.{early, leader_route}
use Rattle.route.specs.Plain.{intersection}
use Rattle.route.specs.Skipping.{of_two, route}
use Rattle.route.proofs.Lists.{Perm, all-imp, all-perm, p-cons, p-nil, p-swap, p-trans}
use Rattle.route.proofs.Ordering.{sort-perm}
use Rattle.ordering.proofs.Carried.{sort-map}
use Rattle.ordering.proofs.Places.{all-at, all_drop, all_first}
use Rattle.notefile.specs.Inner.Reads.{docs_of}
use Rattle.decoded.specs.Lists.{list_of}
use Rattle.skip_reader.specs.Inner.Decoded.{doc-is}
use Rattle.slot_rows.specs.Inner.Rows.{part_in}
use Rattle.term_scorer.proofs.Kept.{kept-none}
use Rattle.term_scorer.specs.Inner.Slots.{Held, cursor_at, lists_from, part_at, slots_from}
use Rattle.term_scorer.specs.Inner.Weights.{TopKept, top_at, TopRead}
use Rattle.intersection_order.specs.Inner.Scorers.{InOrder, Query, SlotsIn, leader_in, list_in, place_at, scorer_at, secondaries_in, slot_at}
use Rattle.intersection_order.specs.Inner.Sizes.{BySize, size_in}
use Rattle.intersection_order.proofs.Parts.{part-first, part_none}
use Rattle.intersection_order.proofs.Seats.{doc-here}
use Rattle.intersection_turn.specs.Inner.Stands.{max_sum}
use Rattle.block_wand_intersection.specs.Inner.Beginnings.{Begins, FreshSlots, top_sum}
use Rattle.intersection_stage.specs.declared.Intersection.{Intersection}
use Rattle.intersection_stage.specs.declared.Stage.TheVariants.{Early}

-- ---- the list bounds

module _ (lists : List (List ℕ)) (n : ℕ) (order : List ℕ) where
  -- those before place i are summed
  pub record Adding (i : ℕ) (total : Float) : Type 0 where
    pub low : 1 ≤ i
    pub high : i ≤ n
    pub whole : sum f32 (map (top_at lists) (drop 1 (take n order))) ≡ sum_from f32 total (map (top_at lists) (drop i (take n order)))

  pub adding : 0 < n → Adding 1 f32.nil
  adding h = record { low = omega arith; high = omega arith; whole = refl }

  module _ {i : ℕ} {total : Float} (A : Adding i total) where
    pub adds : n ≤ length order → i < n → {m : Float} → m ≡ top_at lists (get_or order i 0) → Adding (i + 1) (f32.add total m)
    adds long h e = record {
      low = omega arith;
      high = omega arith;
      whole = A.whole ∙ ap (sum_from f32 total) (part-first order (top_at lists) i n h long) ∙ ap (λ (z : Float). sum_from f32 (f32.add total z) (map (top_at lists) (drop (suc i) (take n order)))) (sym e) ∙ rw add-one;
    }

    pub added : n ≤ i → {m : Float} → m ≡ top_at lists (get_or order 0 0) → f32.add m total ≡ top_sum lists n order
    added h e =
        let z = part_none order (top_at lists) i n h in
        ap (λ (m : Float). f32.add m total) e ∙ ap (f32.add (top_at lists (get_or order 0 0))) (sym (A.whole ∙ rw z))

same_map : {A B : Type 0} (f g : A → B) (l : List A) → All (λ x. f x ≡ g x) l → map f l ≡ map g l
same_map f g [] a = refl
same_map f g (x ∷ l) a = rw (a.0, same_map f g l a.1)

-- ---- the order

-- no slot twice
Distinct : List ℕ → Type 0
Distinct [] = Unit {0}
Distinct (q ∷ l) = All (λ r. r ≡ q → ⊥) l × Distinct l

distinct-perm : {l m : List ℕ} → Perm l m → Distinct l → Distinct m
unfolding Distinct
distinct-perm p-nil a = tt
distinct-perm (p-cons q p) a = (all-perm (λ r. r ≡ q → ⊥) p a.0, distinct-perm p a.1)
distinct-perm (p-swap q r l) a = (((λ e. a.0.0 (sym e)), a.1.0), (a.0.1, a.1.1))
distinct-perm (p-trans p q) a = distinct-perm q (distinct-perm p a)

distinct-at : (l : List ℕ) → Distinct l → (i j : ℕ) → i < length l → j < length l → get_or l i 0 ≡ get_or l j 0 → i ≡ j
unfolding Distinct
distinct-at [] a i j hi hj e = absurd (omega arith)
distinct-at (q ∷ l) a zero zero hi hj e = refl
distinct-at (q ∷ l) a zero (suc j) hi hj e = absurd (all-at (λ r. r ≡ q → ⊥) l j 0 (omega arith) a.0 (sym e))
distinct-at (q ∷ l) a (suc i) zero hi hj e = absurd (all-at (λ r. r ≡ q → ⊥) l i 0 (omega arith) a.0 e)
distinct-at (q ∷ l) a (suc i) (suc j) hi hj e = ap suc (distinct-at l a.1 i j (omega arith) (omega arith) e)

-- slots from a on are a at least, and below the end
slots-high : (b a m : ℕ) → b < a → All (λ r. r ≡ b → ⊥) (slots_from a m)
slots-high b a zero h = tt
slots-high b a (suc m) h = ((λ e. omega arith), slots-high b (suc a) m (omega arith))

slots-below : (n a m : ℕ) → a + m ≤ n → All (λ r. r < n) (slots_from a m)
slots-below n a zero h = tt
slots-below n a (suc m) h = (omega arith, slots-below n (suc a) m (omega arith))

slots-distinct : (a m : ℕ) → Distinct (slots_from a m)
unfolding Distinct
slots-distinct a zero = tt
slots-distinct a (suc m) = (slots-high a (suc a) m (omega arith), slots-distinct (suc a) m)

-- the query with the order that was made
abbrev pub ordered : Query → List ℕ → Query
ordered x order = record {
  reader = x.reader;
  scoring = x.scoring;
  file = x.file;
  lists = x.lists;
  norms = x.norms;
  len = x.len;
  order = order;
}

module _ {x₀ : Query} {h : Held} (F : FreshSlots x₀ h) {order : List ℕ} (S : BySize x₀.lists x₀.len order) where
  abbrev x : Query
  x = ordered x₀ order

  abbrev n : ℕ
  n = x₀.len

  perm : Perm (slots_from 0 n) (take n order)
  perm = subst (Perm (slots_from 0 n)) (sym S.sorted) (sort-perm (size_in x₀.lists) (slots_from 0 n))

  taken-long : length (take n order) ≡ n
  taken-long = let a = F.few in let b = S.long in omega (arith, length-take n order)

  pub in_order : InOrder x
  in_order = record {
    long = S.long;
    few = F.few;
    leader = let t = F.two in omega arith;
    below = λ i hi. all_first (λ r. r < n) order n i 0 hi (let a = F.few in let b = S.long in omega arith) (all-perm (λ r. r < n) perm (slots-below n 0 n (omega arith)));
    apart = λ i j hi hj e.
        distinct-at (take n order) (distinct-perm perm (slots-distinct 0 n)) i j (omega (arith, taken-long)) (omega (arith, taken-long))
        (get_or-take n order i 0 hi ∙ e ∙ sym (get_or-take n order j 0 hj));
    norms-are = F.norms-are;
    weighed = λ q hq. (F.each q hq).weighed;
  }

  kept : All (TopKept x₀.scoring x₀.file x₀.lists) (take n order)
  kept = all-imp (λ r. r < n) (TopKept x₀.scoring x₀.file x₀.lists) (take n order) (λ q hq. (F.each q hq).top) (all-perm (λ r. r < n) perm (slots-below n 0 n (omega arith)))

  pub tops-read : All (TopRead x₀.lists) (take n order)
  tops-read = all-imp (TopKept x₀.scoring x₀.file x₀.lists) (TopRead x₀.lists) (take n order) (λ _ k. k.read) kept

  -- their sum is the lists'
  sum_is : top_sum x₀.lists n order ≡ max_sum x
  sum_is =
      let Same : ℕ → Type 0 = λ q. top_at x₀.lists q ≡ (list_in x q).top in
      let same : All Same (take n order) = all-imp (TopKept x₀.scoring x₀.file x₀.lists) Same (take n order) (λ _ k. k.top-is) kept in
      let first = all_first Same order n 0 0 (let t = F.two in omega arith) (let a = F.few in let b = S.long in omega arith) same in
      rw (first, same_map (top_at x₀.lists) (λ q. (list_in x q).top) (drop 1 (take n order)) (all_drop Same 1 (take n order) same))

  pub seated : SlotsIn x h
  seated = record { sixteen = F.sixteen; slot = λ q hq. (F.each q hq).slot }

  -- ---- the scorers

  fresh-scorers : (a m : ℕ) → a + m ≤ n → map (scorer_at x h.places) (slots_from a m) ≡ scorers_from a (map (list_in x) (slots_from a m))
  fresh-scorers a zero k = refl
  fresh-scorers a (suc m) k =
      ap (λ (c : Cursor). record { ord = a; list = list_in x a; cur = c } ∷ map (scorer_at x h.places) (slots_from (suc a) m)) (F.each a (omega arith)).first
      ∙ ap (λ (z : List (Scorer Float)). record { ord = a; list = list_in x a; cur = fresh } ∷ z) (fresh-scorers (suc a) m (omega arith))

  same-sizes : (l : List ℕ) → All (λ q. size_hint (scorer_at x h.places q) ≡ size_in x₀.lists q) l
  unfolding list_of part_in
  same-sizes [] = tt
  same-sizes (q ∷ l) = (refl, same-sizes l)

  order-long : n ≤ length order
  order-long = let a = F.few in let b = S.long in omega arith

  sorted-is : sort_by size_hint (scorers_from 0 (lists_from x₀.scoring x₀.file x₀.lists 0 n)) ≡ leader_in x h.places ∷ secondaries_in x h.places
  sorted-is =
      sym
      (ap (map (scorer_at x h.places)) S.sorted ∙ sort-map (size_in x₀.lists) size_hint (scorer_at x h.places) (slots_from 0 n) (same-sizes (slots_from 0 n))
      ∙ ap (sort_by size_hint) (fresh-scorers 0 n (omega arith)))
      ∙ part-first order (scorer_at x h.places) 0 n (let t = F.two in omega arith) order-long

  module _ {doc : ℕ} (ed : doc ≡ get_or (docs_of (get_or h.blocks (slot_at x 0) [])) (get_or (get_or h.places (slot_at x 0) []) 6 0) 0) {total : Float} (em : total ≡ top_sum x₀.lists n order) where
    abbrev v : Intersection
    v = record { len = n; doc = doc; max_sum = total; stage = Early }

    doc-of : doc ≡ doc_of (leader_in x h.places)
    doc-of =
        doc-here seated (in_order.below 0 in_order.leader) ed
        ∙ sym (doc-is x₀.file (part_at x₀.lists (slot_at x 0)) x₀.scoring (cursor_at h.places (slot_at x 0)).at)

    pub begins : Begins x h v
    begins = record {
      len_is = refl;
      stands = λ floats R. record {
        order = in_order;
        ready = record { seated = seated; kept = λ q hq. kept-none (list_in x q) q (F.each q hq).unkept; long = R.row 0 (omega arith) };
        rows = R;
        scores = λ k. absurd (omega (arith, k, (F.each (slot_at x 0) (in_order.below 0 in_order.leader)).unkept.scores));
        len_is = refl;
        max-is = em ∙ sum_is;
        stage = tt;
      };
      first-is = λ floats. ap (place_at x h.places early) doc-of;
      secs-are = part-first order (scorer_at x h.places) 1 n F.two order-long;
      sorted-is = sorted-is;
    }

-- ---- the route

-- A run that has begun follows the route of its query.
pub route-is : {x : Query} {h : Held} {v : Intersection} → Begins x h v
    → route 128 f32 intersection (lists_from x.scoring x.file x.lists 0 x.len) ≡ leader_route 128 f32 (leader_in x h.places) (secondaries_in x h.places)
route-is {x} {h} B =
    let ld = leader_in x h.places in
    ap (of_two 128 f32) (B.sorted-is ∙ ap (λ (z : List (Scorer Float)). ld ∷ z) B.secs-are) ∙ ap (λ (z : List (Scorer Float)). leader_route 128 f32 ld z) (sym B.secs-are)
