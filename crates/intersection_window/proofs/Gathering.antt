-- `gather`'s loop: the skip readers before place i have gone on, and those from it on stand where they stood.
use mathlib.Core.Bool.{Bool, false, true}
use mathlib.Core.List.{List, map, [], ◌∷◌}
use mathlib.Core.Logic.{inl, inr}
use mathlib.Core.Path.{ap, refl, sym, ◌∙◌, ◌≡◌}
use Prim.Native.Nat.{min, suc, zero, ℕ, ◌+◌, ◌-◌, ◌<◌, ◌≤◌}
use native.Mathlib.Numerals.{add-one}
use native.Mathlib.Omega.{arith}
use lib.Dec.{ltb}
use lib.ListN.{drop, get_or, length, take}
use lib.Ieee.{Float, nan}
use Rattle.arrays.proofs.Order.{lt-or-ge}
use Rattle.route.specs.F32.{f32}
use Rattle.route.specs.Score.{sum_from}
use Rattle.route.specs.Postings.{start}
use Rattle.route.specs.Cursor.{Cursor, seek_block_in}
use Rattle.route.specs.Scorer.{Scorer, block_max_score, last_doc_in_block, seek_block}
use Rattle.route.specs.Union.{least_last_doc}
use Rattle.route.specs.Intersection.{all_remain, has_remaining_docs, seek_block_all}
use Rattle.decoded.specs.Lists.{list_of}
use Rattle.bm25.specs.declared.Scoring.{Scoring}
use Rattle.skip_reader.specs.Inner.Decoded.{doc_in}
use Rattle.slot_rows.specs.Inner.Rows.{cursor_in}
use Rattle.term_scorer.specs.Inner.Slots.{Held, MovedSlot, Shallowed, cursor_at, held, last_at, list_at, part_at}
use Rattle.slot_bounds.specs.Inner.Bounds.{Bounded}
use Rattle.intersection_order.specs.Inner.Scorers.{BoundsKept, InOrder, Query, Ready, SlotsIn, list_in, scorer_at, scorers_between, secondaries_in, slot_at}
use Rattle.std.specs.Prelude.{Some, None}
use Rattle.intersection_window.specs.Inner.Windows.{Gathers, RunOut, bounds_of}
use Rattle.intersection_order.proofs.Parts.{part-first, part_none, part_same}
use Rattle.intersection_order.proofs.Seats.{last-here, moved-only, scorer-is, shallow-moves, still_kept, still-seated}
use Rattle.intersection_window.proofs.Known.{known-bound, known-cursor, known_only, known-others, known-ready}

pub map-map : {A B C : Type 0} (g : B → C) (f : A → B) (l : List A) → map g (map f l) ≡ map (λ a. g (f a)) l
map-map g f [] = refl
map-map g f (a ∷ l) = ap (λ z. g (f a) ∷ z) (map-map g f l)

-- the least of e and a list's members
abbrev least_of : ℕ → List ℕ → ℕ
least_of e [] = e
least_of e (a ∷ l) = least_of (min e a) l

least-min : (a b : ℕ) (l : List ℕ) → min a (least_of b l) ≡ least_of (min a b) l
least-min a b [] = refl
least-min a b (c ∷ l) = let m : min a (min b c) ≡ min (min a b) c = omega arith in least-min a (min b c) l ∙ ap (λ (z : ℕ). least_of z l) m

least-is : (s : Scorer Float) (ss : List (Scorer Float)) → least_last_doc 128 s ss ≡ least_of (last_doc_in_block 128 s) (map (last_doc_in_block 128) ss)
least-is s [] = refl
least-is s (y ∷ ss) = ap (min (last_doc_in_block 128 s)) (least-is y ss) ∙ least-min (last_doc_in_block 128 s) (last_doc_in_block 128 y) (map (last_doc_in_block 128) ss)

-- below i or at it
below-or-at : {k i : ℕ} → k < i + 1 → {P : Type 0} → (k < i → P) → (k ≡ i → P) → P
below-or-at {k} {i} h f g = elim (lt-or-ge k i) [
  | inl u ↦ f u
  | inr u ↦ g (omega arith)
]

module _ (x : Query) (d leader_end : ℕ) (h₀ : Held) where
  -- the scorer in slot q, with its skip reader on the block that may hold d
  abbrev sought : ℕ → Scorer Float
  sought q = seek_block 128 d (scorer_at x h₀.places q)

  abbrev sought_last : ℕ → ℕ
  sought_last q = last_doc_in_block 128 (sought q)

  abbrev sought_bound : ℕ → Float
  sought_bound q = block_max_score 128 f32 (sought q)

  -- the slots from place i of the order on
  abbrev slots : ℕ → List ℕ
  slots i = drop i (take x.len x.order)

  pub record Gathering (i end : ℕ) (total : Float) (places : List (List ℕ)) (bounds : List Float) : Type 0 where
    pub ready : Ready x (held places h₀.blocks) bounds
    pub low : 1 ≤ i
    pub high : i ≤ x.len
    pub leader : get_or places (slot_at x 0) [] ≡ get_or h₀.places (slot_at x 0) []
    pub done : (k : ℕ) → 1 ≤ k → k < i → scorer_at x places (slot_at x k) ≡ sought (slot_at x k)
    pub rest : (k : ℕ) → i ≤ k → k < x.len → get_or places (slot_at x k) [] ≡ get_or h₀.places (slot_at x k) []
    pub known : (k : ℕ) → 1 ≤ k → k < i → get_or bounds (slot_at x k) nan ≡ sought_bound (slot_at x k)
    pub has : (k : ℕ) → 1 ≤ k → k < i → has_remaining_docs 128 (sought (slot_at x k)) ≡ true
    pub remain : all_remain 128 d (secondaries_in x h₀.places) ≡ all_remain 128 d (scorers_between x h₀.places i x.len)
    pub ends : least_of leader_end (map sought_last (slots 1)) ≡ least_of end (map sought_last (slots i))
    pub sums : sum_from f32 f32.nil (map sought_bound (slots 1)) ≡ sum_from f32 total (map sought_bound (slots i))
    pub small : end ≤ leader_end

  module _ (O : InOrder x) where
    long : x.len ≤ length x.order
    long = let e = O.long in let f = O.few in omega arith

    pub begun : {bounds : List Float} → Ready x h₀ bounds → Gathering 1 leader_end f32.nil h₀.places bounds
    begun R = record {
      ready = R;
      low = omega arith;
      high = O.leader;
      leader = refl;
      done = λ k u v. absurd (omega arith);
      rest = λ k u v. refl;
      known = λ k u v. absurd (omega arith);
      has = λ k u v. absurd (omega arith);
      remain = refl;
      ends = refl;
      sums = refl;
      small = omega arith;
    }

    module _ {i end : ℕ} {total : Float} {places : List (List ℕ)} {bounds : List Float} (G : Gathering i end total places bounds) where
      -- all have gone on
      pub ended : x.len ≤ i → Gathers x d leader_end h₀ places bounds (Some (record { window_end = end; block_max_sum = total }))
      ended e =
          let at-end : i ≡ x.len = let g = G.high in omega arith in
          let same : secondaries_in x places ≡ map sought (slots 1) =
          part_same x.order sought (scorer_at x places) 1 x.len long (λ k u v. G.done k u (omega arith)) in
          let bs : bounds_of x bounds ≡ map (block_max_score 128 f32) (secondaries_in x places) =
          part_same x.order sought_bound (λ q. get_or bounds q nan) 1 x.len long (λ k u v. G.known k u (omega arith))
          ∙ sym (ap (map (block_max_score 128 f32)) same ∙ map-map (block_max_score 128 f32) sought (slots 1)) in
          let nr = part_none x.order (scorer_at x h₀.places) i x.len e in
          let nl = part_none x.order sought_last i x.len e in
          let nb = part_none x.order sought_bound i x.len e in
          record {
            by = (
              G.remain ∙ rw nr,
              record {
                ready = G.ready;
                leader = G.leader;
                secs-are = same ∙ sym (map-map (seek_block 128 d) (scorer_at x h₀.places) (slots 1));
                end_is = λ s es.
                    sym (least-is s (secondaries_in x places) ∙ ap (λ (z : ℕ). least_of z (map (last_doc_in_block 128) (secondaries_in x places))) es
                    ∙ ap (λ (z : List (Scorer Float)). least_of leader_end (map (last_doc_in_block 128) z)) same ∙ ap (least_of leader_end) (map-map (last_doc_in_block 128) sought (slots 1))
                    ∙ G.ends ∙ rw nl);
                bounds-are = bs;
                sum_is =
                    sym (ap (sum_from f32 f32.nil) (bs ∙ ap (map (block_max_score 128 f32)) same ∙ map-map (block_max_score 128 f32) sought (slots 1)) ∙ G.sums ∙ rw nb);
                small = G.small;
              },
            );
          }

      module _ (hi : i < x.len) where
        abbrev q : ℕ
        q = slot_at x i

        abbrev h : Held
        h = held places h₀.blocks

        hq : q < x.len
        hq = O.below i hi

        apart : (k : ℕ) → k < x.len → (k ≡ i → ⊥) → slot_at x k ≡ q → ⊥
        apart k hk n e = n (O.apart k i hk hi e)

        abbrev to : Scoring → Cursor
        to k = seek_block_in (list_at k x.file x.lists q) 128 d (cursor_at places q)

        module _ {places₁ : List (List ℕ)} (W : Shallowed x.file x.lists q to places places₁) where
          M : MovedSlot x.file x.lists q to h (held places₁ h₀.blocks) (doc_in x.file (part_at x.lists q) (cursor_at places q).at)
          M = shallow-moves (G.ready.seated.slot q hq) W

          pub seated-there : SlotsIn x (held places₁ h₀.blocks)
          seated-there = still-seated x G.ready.seated hq M

          pub kept_there : BoundsKept x places₁ bounds
          kept_there = still_kept x G.ready.seated hq M bounds G.ready.kept

          row-there : (k : ℕ) → k < x.len → (k ≡ i → ⊥) → get_or places₁ (slot_at x k) [] ≡ get_or places (slot_at x k) []
          row-there k hk n = (moved-only x G.ready.seated hq M (slot_at x k) (apart k hk n)).place

          sought-is : scorer_at x places₁ q ≡ sought q
          sought-is = scorer-is x G.ready.seated hq M ∙ (let e = G.rest i (omega arith) hi in rw e)

          has-is : has_remaining_docs 128 (sought q) ≡ ltb (start 128 (cursor_at places₁ q).blk) (part_at x.lists q).count
          unfolding list_of
          has-is = ap (has_remaining_docs 128) (sym sought-is)

          here : scorers_between x h₀.places i x.len ≡ scorer_at x h₀.places q ∷ scorers_between x h₀.places (suc i) x.len
          here = part-first x.order (scorer_at x h₀.places) i x.len hi long

          module _ {more : Bool} (em : more ≡ ltb (start 128 (cursor_at places₁ q).blk) (part_at x.lists q).count) where
            test-is : has_remaining_docs 128 (sought q) ≡ more
            test-is = has-is ∙ sym em

            -- those before place i have gone on, the one there has and is out of documents, those behind it stand where they stood
            module _ (out : has_remaining_docs 128 (sought q) ≡ false) where
              scorer-by-row : (places' : List (List ℕ)) (k : ℕ) → get_or places₁ (slot_at x k) [] ≡ get_or places' (slot_at x k) [] → scorer_at x places₁ (slot_at x k) ≡ scorer_at x places' (slot_at x k)
              scorer-by-row places' k e = ap (λ (row : List ℕ). record { ord = slot_at x k; list = list_in x (slot_at x k); cur = cursor_in row }) e

              behind : scorers_between x places₁ (suc i) x.len ≡ scorers_between x h₀.places (suc i) x.len
              behind =
                  part_same x.order (scorer_at x h₀.places) (scorer_at x places₁) (suc i) x.len long
                  (λ k u v. scorer-by-row h₀.places k (row-there k v (λ z. omega arith) ∙ G.rest k (omega arith) v))

              from_place : (m k : ℕ) → k + m ≡ i → 1 ≤ k → scorers_between x places₁ k x.len ≡ seek_block_all 128 d (scorers_between x h₀.places k x.len)
              from_place zero k e l =
                  let ki : k ≡ i = omega arith in
                  rw ki
                  (part-first x.order (scorer_at x places₁) i x.len hi long ∙ ap (λ (z : Scorer Float). z ∷ scorers_between x places₁ (suc i) x.len) sought-is
                  ∙ ap (λ (z : List (Scorer Float)). sought q ∷ z) behind ∙ sym (ap (seek_block_all 128 d) here ∙ rw out))
              from_place (suc m) k e l =
                  part-first x.order (scorer_at x places₁) k x.len (omega arith) long
                  ∙ ap (λ (z : Scorer Float). z ∷ scorers_between x places₁ (suc k) x.len) (scorer-by-row places k (row-there k (omega arith) (λ z. omega arith)) ∙ G.done k l (omega arith))
                  ∙ ap (λ (z : List (Scorer Float)). sought (slot_at x k) ∷ z) (from_place m (suc k) (omega arith) (omega arith))
                  ∙ sym (ap (seek_block_all 128 d) (part-first x.order (scorer_at x h₀.places) k x.len (omega arith) long) ∙ (let t = G.has k l (omega arith) in rw t))

              ran_out : RunOut x d h₀ places₁ bounds
              ran_out =
                  let l = G.low in
                  record { ready = record { seated = seated-there; kept = kept_there; long = G.ready.long }; leader = row-there 0 O.leader (λ z. omega arith) ∙ G.leader; secs-are = from_place (i - 1) 1 (omega arith) (omega arith) }

            pub runs-out : more ≡ false → Gathers x d leader_end h₀ places₁ bounds None
            runs-out e =
                let t = test-is ∙ e in
                record { by = (G.remain ∙ ap (all_remain 128 d) here ∙ rw t, ran_out t) }

            module _ (e : more ≡ true) {last end' : ℕ} (el : last ≡ last_at places₁ q) (ee : end' ≡ min end last)
                {places₂ : List (List ℕ)} {bounds₂ : List Float} {b : Float} (B : Bounded x.scoring x.file x.lists q places₁ bounds places₂ bounds₂ b) where
              last-is : sought_last q ≡ last
              last-is = ap (last_doc_in_block 128) (sym sought-is) ∙ last-here seated-there hq ∙ sym el

              bound-is : b ≡ sought_bound q
              bound-is = B.bound-is ∙ ap (block_max_score 128 f32) sought-is

              row_stays : (k : ℕ) → k < x.len → (k ≡ i → ⊥) → get_or places₂ (slot_at x k) [] ≡ get_or places (slot_at x k) []
              row_stays k hk n =
                  (known_only x O.few seated-there hq B (slot_at x k) (apart k hk n)).place ∙ row-there k hk n

              scorer-there : scorer_at x places₂ q ≡ sought q
              scorer-there = ap (λ (c : Cursor). record { ord = q; list = list_in x q; cur = c }) (known-cursor x O.few seated-there hq B) ∙ sought-is

              pub goes_on : Gathering (i + 1) end' (f32.add total b) places₂ bounds₂
              goes_on =
                  let t = test-is ∙ e in
                  record {
                    ready = known-ready x O.few seated-there hq B G.ready.long kept_there;
                    low = omega arith;
                    high = omega arith;
                    leader = row_stays 0 O.leader (λ z. let l = G.low in omega arith) ∙ G.leader;
                    done = λ k u v.
                        below-or-at v
                        (λ w. (let r = row_stays k (omega arith) (λ z. omega arith) in ap (λ (c : List ℕ). record { ord = slot_at x k; list = list_in x (slot_at x k); cur = cursor_in c }) r) ∙ G.done k u w)
                        (λ w. rw w scorer-there);
                    rest = λ k u v. row_stays k v (λ z. omega arith) ∙ G.rest k (omega arith) v;
                    known = λ k u v.
                        below-or-at v
                        (λ w. known-others x O.few seated-there hq B (slot_at x k) (O.below k (omega arith)) (apart k (omega arith) (λ z. omega arith)) ∙ G.known k u w)
                        (λ w. rw w (known-bound x O.few seated-there hq B ∙ ap (block_max_score 128 f32) sought-is));
                    has = λ k u v. below-or-at v (λ w. G.has k u w) (λ w. rw w t);
                    remain = G.remain ∙ ap (all_remain 128 d) here ∙ rw (t, add-one);
                    ends =
                        G.ends ∙ ap (least_of end) (part-first x.order sought_last i x.len hi long)
                        ∙ ap (λ (z : ℕ). least_of (min end z) (map sought_last (slots (suc i)))) last-is ∙ (rw (add-one, ee));
                    sums =
                        G.sums ∙ ap (sum_from f32 total) (part-first x.order sought_bound i x.len hi long)
                        ∙ ap (λ (z : Float). sum_from f32 (f32.add total z) (map sought_bound (slots (suc i)))) (sym bound-is) ∙ (rw add-one);
                    small = let g = G.small in omega arith;
                  }
