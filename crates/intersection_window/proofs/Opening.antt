-- `window` is one turn of the route: the leader's skip reader goes on, then the secondaries', and the bounds decide.
use mathlib.Core.Bool.{false, true}
use mathlib.Core.List.{List, map, [], ◌∷◌}
use mathlib.Core.Path.{ap, refl, sym, ◌∙◌, ◌≡◌}
use Prim.Native.Nat.{suc, ℕ, ◌<◌, ◌≤◌}
use native.Mathlib.Omega.{arith}
use lib.ListN.{get_or}
use lib.Ieee.{Float}
use borrow.Author.Tests.{lt-ltb}
use Rattle.route.specs.F32.{f32}
use Rattle.route.specs.Score.{sum}
use Rattle.route.specs.Postings.{TERMINATED}
use Rattle.route.specs.Cursor.{Cursor, seek_block_in}
use Rattle.route.specs.Scorer.{Scorer, block_max_score, last_doc_in_block, seek_block}
use Rattle.route.specs.Union.{least_last_doc}
use Rattle.route.specs.Intersection.{InterPlace, Stage, all_remain, candidates_in, has_remaining_docs, load_leader, over, seek_block_all, window, window_turn, within}
use Rattle.route.proofs.Cases.{on_test}
use Rattle.bm25.specs.declared.Scoring.{Scoring}
use Rattle.skip_reader.specs.Inner.Decoded.{doc_in}
use Rattle.slot_rows.specs.Inner.Rows.{cursor_in, first_of}
use Rattle.term_scorer.specs.Inner.Slots.{Held, MovedSlot, Shallowed, cursor_at, held, last_at, list_at, part_at}
use Rattle.slot_bounds.specs.Inner.Bounds.{Bounded}
use Rattle.intersection_order.specs.Inner.Scorers.{BoundsKept, InOrder, Query, Ready, SlotsIn, StillScored, leader_in, list_in, scorer_at, secondaries_in, slot_at}
use Rattle.std.specs.Prelude.{Some, None}
use Rattle.intersection_window.specs.Inner.Windows.{Gathered, Gathers, Turns, bounds_of}
use Rattle.intersection_window.specs.declared.window.Secondaries.{Secondaries}
use Rattle.intersection_window.specs.declared.window.Window.TheVariants.{Low, Open, Over}
use Rattle.intersection_order.proofs.Seats.{last-here, last-low, moved-only, moved-scored, others-stay, row-scored, scorer-is, shallow-moves, still_kept, still-seated}
use Rattle.intersection_window.proofs.Known.{known-cursor, known_only, known-ready, known-scored}

all-sought : (d : ℕ) (ss : List (Scorer Float)) → all_remain 128 d ss ≡ true → seek_block_all 128 d ss ≡ map (seek_block 128 d) ss
all-sought d [] e = refl
all-sought d (s ∷ ss) e =
    on_test (has_remaining_docs 128 (seek_block 128 d s))
    (λ t. rw t (ap (λ (z : List (Scorer Float)). seek_block 128 d s ∷ z) (all-sought d ss (rw t at e))))
    (λ t. let z : false ≡ true = rw t at e in absurd (let w : ◌≡◌ {A = ℕ} 0 1 = cc in omega arith))

-- the route's turn, by what its tests show
module _ (t : Float) (d : ℕ) (ld : Scorer Float) (ss : List (Scorer Float)) (live : d < TERMINATED) where
  turn-over : all_remain 128 d ss ≡ false → window_turn 128 f32 t d ld ss ≡ record { stage = over; doc = d; leader = seek_block 128 d ld; secs = seek_block_all 128 d ss }
  turn-over e = let l = lt-ltb d TERMINATED live in rw (l, e)

  module _ (all : all_remain 128 d ss ≡ true) {ss' : List (Scorer Float)} (es : seek_block_all 128 d ss ≡ ss') {e : ℕ} (ee : least_last_doc 128 (seek_block 128 d ld) ss' ≡ e)
      {total : Float} (et : sum f32 (map (block_max_score 128 f32) ss') ≡ total) where
    turn_low : f32.above (f32.add (block_max_score 128 f32 (seek_block 128 d ld)) total) t ≡ false
        → window_turn 128 f32 t d ld ss ≡ record { stage = window; doc = suc e; leader = seek_block 128 d ld; secs = ss' }
    turn_low b = let l = lt-ltb d TERMINATED live in rw (l, all, es, ee, et, b)

    turn-open : f32.above (f32.add (block_max_score 128 f32 (seek_block 128 d ld)) total) t ≡ true
        → window_turn 128 f32 t d ld ss
        ≡ record {
          stage = within (candidates_in 128 f32 ld.list (f32.sub t total) (seek_block 128 d ld).cur.blk d e) e (map (block_max_score 128 f32) ss');
          doc = d;
          leader = load_leader 128 (seek_block 128 d ld);
          secs = ss';
        }
    turn-open b = let l = lt-ltb d TERMINATED live in rw (l, all, es, ee, et, b)

module _ (x : Query) (O : InOrder x) (t : Float) (d : ℕ) (live : d < 2147483647) {h : Held} {bounds : List Float} (R : Ready x h bounds) where
  abbrev q : ℕ
  q = slot_at x 0

  hq : q < x.len
  hq = O.below 0 O.leader

  abbrev ld : Scorer Float
  ld = leader_in x h.places

  abbrev ss : List (Scorer Float)
  ss = secondaries_in x h.places

  abbrev to : Scoring → Cursor
  to k = seek_block_in (list_at k x.file x.lists q) 128 d (cursor_at h.places q)

  module _ {places₁ : List (List ℕ)} (W : Shallowed x.file x.lists q to h.places places₁) where
    M : MovedSlot x.file x.lists q to h (held places₁ h.blocks) (doc_in x.file (part_at x.lists q) (cursor_at h.places q).at)
    M = shallow-moves (R.seated.slot q hq) W

    pub leader-seated : SlotsIn x (held places₁ h.blocks)
    leader-seated = still-seated x R.seated hq M

    pub leader-kept : BoundsKept x places₁ bounds
    leader-kept = still_kept x R.seated hq M bounds R.kept

    leader-is : scorer_at x places₁ q ≡ seek_block 128 d ld
    leader-is = scorer-is x R.seated hq M

    module _ {places₂ : List (List ℕ)} {bounds₂ : List Float} {b : Float} (B : Bounded x.scoring x.file x.lists q places₁ bounds places₂ bounds₂ b) where
      pub ready-there : Ready x (held places₂ h.blocks) bounds₂
      ready-there = known-ready x O.few leader-seated hq B R.long leader-kept

      leader-there : leader_in x places₂ ≡ seek_block 128 d ld
      leader-there = ap (λ (c : Cursor). record { ord = q; list = list_in x q; cur = c }) (known-cursor x O.few leader-seated hq B) ∙ leader-is

      bound-is : block_max_score 128 f32 (seek_block 128 d ld) ≡ b
      bound-is = sym (B.bound-is ∙ ap (block_max_score 128 f32) leader-is)

      -- the secondaries have not moved yet
      secs-stay : secondaries_in x places₂ ≡ ss
      secs-stay =
          others-stay x O O.leader (known_only x O.few leader-seated hq B) 1 x.len (omega arith) (λ k u v e. omega arith)
          ∙ others-stay x O O.leader (moved-only x R.seated hq M) 1 x.len (omega arith) (λ k u v e. omega arith)

      leader-still : (places₃ : List (List ℕ)) → get_or places₃ q [] ≡ get_or places₂ q [] → leader_in x places₃ ≡ seek_block 128 d ld
      leader-still places₃ e = ap (λ (row : List ℕ). record { ord = q; list = list_in x q; cur = cursor_in row }) e ∙ leader-there

      scores-still : (places₃ : List (List ℕ)) → get_or places₃ q [] ≡ get_or places₂ q [] → StillScored x q h.places places₃
      scores-still places₃ e floats K =
          row-scored x places₂ places₃ q e floats (known-scored x O.few leader-seated hq B floats (moved-scored x R.seated hq M floats K))

      module _ {last : ℕ} (el : last ≡ last_at places₂ q) {places₃ : List (List ℕ)} {bounds₃ : List Float} where
        pub window-over : Gathers x d last (held places₂ h.blocks) places₃ bounds₃ None → Turns x t d h Over (held places₃ h.blocks) bounds₃
        window-over G =
            let U = G.by.1 in
            record {
              ready = U.ready;
              scores = scores-still places₃ U.leader;
              turned =
                  turn-over t d ld ss live (sym (ap (all_remain 128 d) secs-stay) ∙ G.by.0)
                  ∙ ap (λ (z : Scorer Float). record { stage = over; doc = d; leader = z; secs = seek_block_all 128 d ss }) (sym (leader-still places₃ U.leader))
                  ∙ ap (λ (z : List (Scorer Float)). record { stage = over; doc = d; leader = leader_in x places₃; secs = z }) (sym (U.secs-are ∙ ap (seek_block_all 128 d) secs-stay));
            }

        module _ {r : Secondaries} (G : Gathers x d last (held places₂ h.blocks) places₃ bounds₃ (Some r)) where
          pub gathered : Gathered x d last (held places₂ h.blocks) places₃ bounds₃ r
          gathered = G.by.1

          abbrev end : ℕ
          end = r.window_end

          abbrev total : Float
          total = r.block_max_sum

          all : all_remain 128 d ss ≡ true
          all = sym (ap (all_remain 128 d) secs-stay) ∙ G.by.0

          secs-are : seek_block_all 128 d ss ≡ secondaries_in x places₃
          secs-are = all-sought d ss all ∙ sym (gathered.secs-are ∙ ap (map (seek_block 128 d)) secs-stay)

          leader-then : leader_in x places₃ ≡ seek_block 128 d ld
          leader-then = leader-still places₃ gathered.leader

          last-is : last_doc_in_block 128 (seek_block 128 d ld) ≡ last
          last-is = ap (last_doc_in_block 128) (sym leader-there) ∙ last-here ready-there.seated hq ∙ sym el

          ends : least_last_doc 128 (seek_block 128 d ld) (secondaries_in x places₃) ≡ end
          ends = sym (gathered.end_is (seek_block 128 d ld) last-is)

          sums : sum f32 (map (block_max_score 128 f32) (secondaries_in x places₃)) ≡ total
          sums = sym (gathered.sum_is ∙ ap (sum f32) gathered.bounds-are)

          test-is : f32.above (f32.add (block_max_score 128 f32 (seek_block 128 d ld)) total) t ≡ f32.above (f32.add b total) t
          test-is = ap (λ (z : Float). f32.above (f32.add z total) t) bound-is

          small : end ≤ 2147483647
          small = omega (arith, gathered.small, el, last-low ready-there.seated hq)

          pub window-low : f32.above (f32.add b total) t ≡ false → Turns x t d h (Low end) (held places₃ h.blocks) bounds₃
          window-low a = record {
            ready = gathered.ready;
            scores = scores-still places₃ gathered.leader;
            turned = (
              turn_low t d ld ss live all secs-are ends sums (test-is ∙ a)
                  ∙ ap (λ (z : Scorer Float). record { stage = window; doc = suc end; leader = z; secs = secondaries_in x places₃ }) (sym leader-then),
              small,
            );
          }

          module _ (a : f32.above (f32.add b total) t ≡ true) {h' : Held} {first : ℕ}
              (L : MovedSlot x.file x.lists q (λ _. first_of (cursor_at places₃ q)) (held places₃ h.blocks) h' first) where
            abbrev S : SlotsIn x (held places₃ h.blocks)
            S = gathered.ready.seated

            cursor-is : cursor_at h'.places q ≡ first_of (cursor_at places₃ q)
            cursor-is = L.moved.cursor-is x.scoring

            block-is : (seek_block 128 d ld).cur.blk ≡ (cursor_at h'.places q).dec
            block-is = ap (λ (z : Scorer Float). z.cur.blk) (sym leader-then) ∙ sym (ap (λ (c : Cursor). c.dec) cursor-is)

            loaded-is : load_leader 128 (seek_block 128 d ld) ≡ leader_in x h'.places
            loaded-is = ap (load_leader 128) (sym leader-then) ∙ sym (scorer-is x S hq L)

            secs-then : secondaries_in x places₃ ≡ secondaries_in x h'.places
            secs-then = sym (others-stay x O O.leader (moved-only x S hq L) 1 x.len (omega arith) (λ k u v e. omega arith))

            abbrev stage_of : ℕ → List Float → Stage Float
            stage_of blk bs = within (candidates_in 128 f32 (list_in x q) (f32.sub t total) blk d end) end bs

            abbrev place_of : Stage Float → Scorer Float → List (Scorer Float) → InterPlace Float
            place_of stage leader secs = record { stage = stage; doc = d; leader = leader; secs = secs }

            pub window-open : Turns x t d h (Open end total) h' bounds₃
            window-open = record {
              ready = record { seated = still-seated x S hq L; kept = still_kept x S hq L bounds₃ gathered.ready.kept; long = gathered.ready.long };
              scores = λ floats K. moved-scored x S hq L floats (scores-still places₃ gathered.leader floats K);
              turned = (
                turn-open t d ld ss live all secs-are ends sums (test-is ∙ a)
                    ∙ ap (λ (z : ℕ). place_of (stage_of z (map (block_max_score 128 f32) (secondaries_in x places₃))) (load_leader 128 (seek_block 128 d ld)) (secondaries_in x places₃)) block-is
                    ∙ ap (λ (z : List Float). place_of (stage_of (cursor_at h'.places q).dec z) (load_leader 128 (seek_block 128 d ld)) (secondaries_in x places₃)) (sym gathered.bounds-are)
                    ∙ ap (λ (z : Scorer Float). place_of (stage_of (cursor_at h'.places q).dec (bounds_of x bounds₃)) z (secondaries_in x places₃)) loaded-is
                    ∙ ap (λ (z : List (Scorer Float)). place_of (stage_of (cursor_at h'.places q).dec (bounds_of x bounds₃)) (leader_in x h'.places) z) secs-then,
                small,
              );
            }
