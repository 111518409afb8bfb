-- One turn in the tables is one turn of the route: the exits, a window, a candidate.
use mathlib.Core.Bool.{cond}
use mathlib.Core.List.{List, [], ◌∷◌, map}
use mathlib.Core.Option.{Option, none, some}
use Rattle.std.specs.Prelude.{Some, None}
use Rattle.std.specs.Prelude as prelude
use mathlib.Core.Path.{ap, refl, subst, sym, ◌∙◌, ◌≡◌}
use Prim.Native.Nat.{ℕ, ◌+◌, ◌<◌, ◌≤◌}
use native.Mathlib.Numerals.{add-one}
use native.Mathlib.Omega.{arith}
use lib.ListN.{drop, get_or, set, take}
use lib.Seq.{get_or-set_other, get_or-set_same}
use lib.Ieee.{Float}
use borrow.Author.Tests.{le-ltb}
use Rattle.block_search.specs.Search.{count_below}
use Rattle.route.specs.F32.{f32}
use Rattle.route.specs.Score.{sum}
use Rattle.route.specs.Report.{Report}
use Rattle.route.specs.Postings.{Postings, TERMINATED}
use Rattle.route.specs.Cursor.{Cursor}
use Rattle.route.specs.Scorer.{Scorer, max_score}
use Rattle.route.specs.Route.{Load, Turn, loads_of}
use Rattle.route.specs.Intersection.{InterPlace, Stage as RouteStage, Tried, called, found_turn, max_score_sum, over, try_candidate, window_turn, within}
use Rattle.route.proofs.Cases.{on_test}
use Rattle.slot_rows.specs.Inner.Rows.{cursor_in}
use Rattle.notefile.specs.Inner.Reads.{docs_of}
use Rattle.term_scorer.specs.Inner.Slots.{Held, Sixteen, SlotIn, cursor_at, held}
use Rattle.term_scorer.specs.Inner.Weights.{BlockScores, FloatRows}
use Rattle.slot_scores.specs.Inner.Made.{ScoresMade}
use Rattle.term_scorer.proofs.Floats.{rows-set}
use Rattle.slot_scores.proofs.Made.{made-cursor, made_kept, made-scores, made-slot}
use Rattle.intersection_order.specs.Inner.Scorers.{BoundsKept, Query, Ready, ScoredIn, leader_in, list_in, place_at, scorer_at, secondaries_in, slot_at, Rests}
use Rattle.intersection_candidate.specs.Inner.Candidates.{BlockRows, Finds, FindsBy, Tries, behind, candidate_of, left_in}
use Rattle.intersection_window.specs.Inner.Windows.{Sums, Turns, Windowed, bounds_of, bounds_row, rests_row, scores_row}
use Rattle.intersection_candidate.specs.declared.candidate.Posting.{Posting}
use Rattle.intersection_candidate.specs.declared.leader.Candidates.{Candidates}
use Rattle.intersection_window.specs.declared.window.Window.{Window as Answer}
use Rattle.intersection_window.specs.declared.window.Window.TheVariants.{Low, Open as Opened, Over as RunOut}
use Rattle.intersection_window.proofs.Gathering.{map-map}
use Rattle.intersection_order.proofs.Seats.{row-scored, slot_small}
use Rattle.intersection_candidate.proofs.Finding.{block-rows, few-below, first-candidates}
use Rattle.intersection_turn.specs.Inner.Stands.{Open, Scored, StageKept, Stands, left_at, max_sum, stage_of}
use Rattle.intersection_stage.specs.Inner.Steps.{behind_candidate, moved_to, quietly}
use Rattle.intersection_turn.specs.Inner.Turns.{TakesTurn, inter_turn}
use Rattle.intersection_stage.specs.declared.Intersection.{Intersection}
use Rattle.intersection_stage.specs.declared.Stage.{Stage}
use Rattle.intersection_stage.specs.declared.Stage.TheVariants.{Called, Early, Over, Window, Within}
use Rattle.reports.specs.declared.Step.{Step}

map_same : {A B : Type 0} (f g : A → B) → ((a : A) → f a ≡ g a) → (l : List A) → map f l ≡ map g l
map_same f g e [] = refl
map_same f g e (a ∷ l) = rw (e a, map_same f g e l)

-- the list bounds do not move
max-is : (x : Query) (places : List (List ℕ)) → max_score_sum f32 (leader_in x places) (secondaries_in x places) ≡ max_sum x
max-is x places = ap (λ (z : List Float). f32.add (list_in x (slot_at x 0)).top (sum f32 z)) (map-map max_score (scorer_at x places) (drop 1 (take x.len x.order)))

-- the route's turn at a candidate, by the answer
module _ (t : Float) (c : ℕ) (cs : List (Report Float)) (e : ℕ) (bs : List Float) (d : ℕ) (ld : Scorer Float) (ss : List (Scorer Float)) (ls : List Load) where
  turn-passed : (o : Option Float) → None ≡ candidate_of t o
      → ((found_turn 128 f32 t o c cs e bs d ld ss ls).next ≡ record { stage = within cs e bs; doc = d; leader = ld; secs = ss }) × ((found_turn 128 f32 t o c cs e bs d ld ss ls).due ≡ none)
  turn-passed none q = (refl, refl)
  turn-passed (some v) q =
      on_test (f32.above v t) (λ b. let z : None ≡ Some v = rw b at q in absurd (let w : ◌≡◌ {A = ℕ} 0 1 = cc in omega arith)) (λ b. (rw b, rw b))

  turn-due : (v : Float) (o : Option Float) → Some v ≡ candidate_of t o
      → ((found_turn 128 f32 t o c cs e bs d ld ss ls).next ≡ record { stage = called cs e bs; doc = d; leader = ld; secs = ss })
      × ((found_turn 128 f32 t o c cs e bs d ld ss ls).due ≡ some (record { doc = c; score = v }))
  turn-due v none q = absurd (let w : ◌≡◌ {A = ℕ} 0 1 = cc in omega arith)
  turn-due v (some w) q =
      on_test (f32.above w t)
      (λ b. let z : Some v ≡ Some w = rw b at q in let k : v ≡ w = cc in (rw b, rw (b, k)))
      (λ b. let z : Some v ≡ None = rw b at q in absurd (let n : ◌≡◌ {A = ℕ} 0 1 = cc in omega arith))

module _ (x : Query) (t : Float) {v : Intersection} {h : Held} {floats : List (List Float)} (S : Stands x v h floats) where
  -- the place at a stage
  abbrev at : Stage → InterPlace Float
  at stage = place_at x h.places (stage_of x h.places floats stage) v.doc

  -- the tables stay
  stands_at : (d : ℕ) (stage : Stage) → StageKept x h.places floats stage → Stands x (moved_to v d stage) h floats
  stands_at d stage k = record { order = S.order; ready = S.ready; rows = S.rows; scores = S.scores; len_is = S.len_is; max-is = S.max-is; stage = k }

  abbrev Taken : Step Intersection → Type 0
  Taken r = TakesTurn x t v h floats r h floats

  -- ---- the exits

  test-is : f32.above (max_score_sum f32 (leader_in x h.places) (secondaries_in x h.places)) t ≡ f32.above v.max_sum t
  test-is = ap (λ (z : Float). f32.above z t) (max-is x h.places ∙ sym S.max-is)

  module _ (to : Stage) (k : StageKept x h.places floats to)
      (n : (inter_turn t (at v.stage)).next
      ≡ place_at x h.places (cond (f32.above (max_score_sum f32 (leader_in x h.places) (secondaries_in x h.places)) t) (stage_of x h.places floats to) over) v.doc)
      (u : (inter_turn t (at v.stage)).due ≡ none) where
    exits : Taken (quietly v v.doc (cond (f32.above v.max_sum t) to Over))
    exits =
        on_test (f32.above v.max_sum t)
        (λ b. let a = test-is ∙ b in rw b (record { stands = stands_at v.doc to k; next-is = n ∙ rw a; due-is = u }))
        (λ b. let a = test-is ∙ b in rw b (record { stands = stands_at v.doc Over tt; next-is = n ∙ rw a; due-is = u }))

  pub exits-early : v.stage ≡ Early → {r : Step Intersection} → r ≡ quietly v v.doc (cond (f32.above v.max_sum t) Window Over) → Taken r
  exits-early e er =
      subst Taken (sym er) (exits Window tt (ap (λ (s : Stage). (inter_turn t (at s)).next) e) (ap (λ (s : Stage). (inter_turn t (at s)).due) e))

  pub exits-called : (c : Candidates) → v.stage ≡ Called c → {r : Step Intersection} → r ≡ quietly v v.doc (cond (f32.above v.max_sum t) (Within c) Over) → Taken r
  exits-called c e er =
      subst Taken (sym er)
      (exits (Within c) (subst (StageKept x h.places floats) e S.stage) (ap (λ (s : Stage). (inter_turn t (at s)).next) e) (ap (λ (s : Stage). (inter_turn t (at s)).due) e))

  pub stays-over : v.stage ≡ Over → {r : Step Intersection} → r ≡ quietly v v.doc Over → Taken r
  stays-over e er =
      subst Taken (sym er)
      (record { stands = stands_at v.doc Over tt; next-is = ap (λ (s : Stage). (inter_turn t (at s)).next) e; due-is = ap (λ (s : Stage). (inter_turn t (at s)).due) e })

  -- ---- a window

  module _ (w : v.stage ≡ Window) where
    abbrev windowed : InterPlace Float
    windowed = window_turn 128 f32 t v.doc (leader_in x h.places) (secondaries_in x h.places)

    turns-to : {p : InterPlace Float} → windowed ≡ p → (inter_turn t (at v.stage)).next ≡ p
    turns-to e = ap (λ (s : Stage). (inter_turn t (at s)).next) w ∙ e

    no-report : (inter_turn t (at v.stage)).due ≡ none
    no-report = ap (λ (s : Stage). (inter_turn t (at s)).due) w

    pub ends-windows : 2147483647 ≤ v.doc → {r : Step Intersection} → r ≡ quietly v v.doc Over → Taken r
    ends-windows k er =
        let l = le-ltb v.doc TERMINATED k in
        subst Taken (sym er) (record { stands = stands_at v.doc Over tt; next-is = turns-to (rw l); due-is = no-report })

    module _ {h' : Held} {bounds : List Float} {a : Answer} (T : Turns x t v.doc h a h' bounds) where
      abbrev By : Answer → Type 0
      By z = Windowed x t v.doc h z h' bounds

      -- the bounds are back in their row
      abbrev floats₁ : List (List Float)
      floats₁ = set floats 0 bounds

      bounds-there : bounds_row floats₁ ≡ bounds
      bounds-there = get_or-set_same floats 0 bounds [] (omega (arith, S.rows.eighteen))

      pub rows-there : FloatRows floats₁
      rows-there = rows-set 0 bounds S.rows (omega arith) T.ready.long

      pub scored-there : ScoredIn x (slot_at x 0) h'.places floats₁
      scored-there = T.scores floats₁ (rw (get_or-set_other floats 0 (2 + slot_at x 0) bounds [] (λ z. omega (arith, z))) S.scores)

      stands-there : (d : ℕ) (stage : Stage) → StageKept x h'.places floats₁ stage → Stands x (moved_to v d stage) h' floats₁
      stands-there d stage k = record {
        order = S.order;
        ready = subst (Ready x h') (sym bounds-there) T.ready;
        rows = rows-there;
        scores = scored-there;
        len_is = S.len_is;
        max-is = S.max-is;
        stage = k;
      }

      pub window-over : a ≡ RunOut → {r : Step Intersection} → r ≡ quietly v v.doc Over → TakesTurn x t v h floats r h' floats₁
      window-over e er =
          subst (λ (z : Step Intersection). TakesTurn x t v h floats z h' floats₁) (sym er)
          (record { stands = stands-there v.doc Over tt; next-is = turns-to (subst By e T.turned); due-is = no-report })

      pub low_end : {end : ℕ} → a ≡ Low end → end ≤ 2147483647
      low_end e = (subst By e T.turned).1

      pub window-low : {end : ℕ} → a ≡ Low end → {r : Step Intersection} → r ≡ quietly v (end + 1) Window → TakesTurn x t v h floats r h' floats₁
      window-low {end} e er =
          subst (λ (z : Step Intersection). TakesTurn x t v h floats z h' floats₁) (sym er)
          (record { stands = stands-there (end + 1) Window tt; next-is = turns-to (rw add-one (subst By e T.turned).0); due-is = no-report })

      -- the leader's scores are made, and the bounds that follow are summed
      module _ {end : ℕ} {total : Float} (e : a ≡ Opened end total) {places₂ : List (List ℕ)} {floats₂ : List (List Float)}
          (K : ScoresMade x.scoring x.file x.lists (slot_at x 0) h'.places floats₁ places₂ floats₂)
          {floats₃ : List (List Float)} (U : Sums x.len x.order floats₂ floats₃)
          {next : ℕ} (en : next ≡ count_below 128 (docs_of (get_or h'.blocks (slot_at x 0) [])) v.doc) where
        abbrev h₂ : Held
        h₂ = held places₂ h'.blocks

        abbrev left : Candidates
        left = record { next = next; window_end = end; score_threshold = f32.sub t total }

        small : slot_at x 0 < 16
        small = slot_small S.order S.order.leader

        long : Sixteen h'.places
        long = T.ready.seated.sixteen.0

        slot : SlotIn x.file x.lists h' (slot_at x 0)
        slot = T.ready.seated.slot (slot_at x 0) (S.order.below 0 S.order.leader)

        same-bounds : bounds_row floats₂ ≡ bounds_row floats₁
        same-bounds =
            ap bounds_row K.floats-are ∙ get_or-set_other floats₁ (2 + slot_at x 0) 0 (scores_row floats₂ (slot_at x 0)) [] (λ z. omega (arith, z))

        bounds-then : bounds_row floats₃ ≡ bounds
        bounds-then = U.bounds ∙ same-bounds ∙ bounds-there

        -- every scorer stands where it stood
        same-cursor : (q : ℕ) → cursor_at h'.places q ≡ cursor_at places₂ q
        same-cursor q = sym (made-cursor small long K q)

        same_place : (stage : RouteStage Float) → place_at x h'.places stage v.doc ≡ place_at x places₂ stage v.doc
        same_place stage =
            ap (λ (c : Cursor). placed (record { ord = slot_at x 0; list = list_in x (slot_at x 0); cur = c }) (secondaries_in x h'.places)) (same-cursor (slot_at x 0))
            ∙ ap (placed (leader_in x places₂)) (map_same (scorer_at x h'.places) (scorer_at x places₂)
            (λ q. ap (λ (c : Cursor). record { ord = q; list = list_in x q; cur = c }) (same-cursor q)) (drop 1 (take x.len x.order)))
          where
            placed : Scorer Float → List (Scorer Float) → InterPlace Float
            placed ld ss = record { stage = stage; doc = v.doc; leader = ld; secs = ss }

        ready-then : Ready x h₂ (bounds_row floats₃)
        ready-then = record {
          seated = record { sixteen = (made-slot small long K (slot_at x 0) slot).sixteen; slot = λ q k. made-slot small long K q (T.ready.seated.slot q k) };
          kept =
              subst (BoundsKept x places₂) (sym U.bounds)
              (λ q k. made_kept small long K q (subst (BoundsKept x h'.places) (sym bounds-there) T.ready.kept q k));
          long = U.rows.row 0 (omega arith);
        }

        stands-open : StageKept x places₂ floats₃ (Within left) → Stands x (moved_to v v.doc (Within left)) h₂ floats₃
        stands-open k = record {
          order = S.order;
          ready = ready-then;
          rows = U.rows;
          scores = rw (U.scores (slot_at x 0)) (made-scores small long K (slot_at x 0) scored-there);
          len_is = S.len_is;
          max-is = S.max-is;
          stage = k;
        }

        scored-then : Scored x places₂ floats₃
        scored-then = rw (U.scores (slot_at x 0), ← same-cursor (slot_at x 0)) K.scores

        open-there : Open x floats₃ left
        open-there = record {
          inside = omega (arith, en, few-below x.scoring slot v.doc);
          small = (subst By e T.turned).1;
          rests = subst (λ (z : List Float). Rests x.len (bounds_of x z) (rests_row floats₃)) (sym U.bounds) U.rests;
        }

        pub window-open : {r : Step Intersection} → r ≡ quietly v v.doc (Within left) → TakesTurn x t v h floats r h₂ floats₃
        window-open er =
            subst (λ (z : Step Intersection). TakesTurn x t v h floats z h₂ floats₃) (sym er)
            (record {
              stands = stands-open (scored-then, open-there);
              next-is =
                  turns-to
                  ((subst By e T.turned).0
                  ∙ ap (λ (z : List (Report Float)). place_at x h'.places (within z end (bounds_of x bounds)) v.doc) (first-candidates x.scoring slot (f32.sub t total) v.doc end en)
                  ∙ ap (λ (c : Cursor). place_at x h'.places (within (left_in (list_in x (slot_at x 0)) c.dec left) end (bounds_of x bounds)) v.doc) (same-cursor (slot_at x 0))
                  ∙ ap (λ (z : List Float). place_at x h'.places (within (left_at x places₂ left) end (bounds_of x z)) v.doc) (sym bounds-then)
                  ∙ same_place (within (left_at x places₂ left) end (bounds_of x (bounds_row floats₃))));
              due-is = no-report;
            })

  -- ---- a candidate

  module _ (c : Candidates) (w : v.stage ≡ Within c) where
    kept : Scored x h.places floats × Open x floats c
    kept = subst (StageKept x h.places floats) w S.stage

    pub opened : Open x floats c
    opened = kept.1

    -- the rows of the leader's block
    pub leader-rows : BlockRows (list_in x (slot_at x 0)) (cursor_at h.places (slot_at x 0)).dec (docs_of (get_or h.blocks (slot_at x 0) [])) (scores_row floats (slot_at x 0))
    leader-rows = block-rows x.scoring (S.ready.seated.slot (slot_at x 0) (S.order.below 0 S.order.leader)) kept.0

    abbrev q : ℕ
    q = slot_at x 0

    abbrev l : Postings Float
    l = list_in x q

    abbrev b : ℕ
    b = (cursor_at h.places q).dec

    abbrev bs : List Float
    bs = bounds_of x (bounds_row floats)

    -- with the candidates left
    abbrev before : List (Report Float) → InterPlace Float
    before cs = place_at x h.places (within cs c.window_end bs) v.doc

    module _ {a : prelude.Option (ℕ × Posting)} (F : Finds l b c a) where
      pub window-ends : a ≡ None → {r : Step Intersection} → r ≡ quietly v (c.window_end + 1) Window → Taken r
      window-ends e er =
          let z : left_in l b c ≡ [] = subst (FindsBy l b c) e F.finds in
          subst Taken (sym er)
          (record {
            stands = stands_at (c.window_end + 1) Window tt;
            next-is = ap (λ (s : Stage). (inter_turn t (at s)).next) w ∙ ap (λ (cs : List (Report Float)). (inter_turn t (before cs)).next) z ∙ (rw add-one);
            due-is = ap (λ (s : Stage). (inter_turn t (at s)).due) w ∙ ap (λ (cs : List (Report Float)). (inter_turn t (before cs)).due) z;
          })

      module _ {i : ℕ} {p : Posting} (e : a ≡ Some (i, p)) where
        pub found : FindsBy l b c (Some (i, p))
        found = subst (FindsBy l b c) e F.finds

        abbrev rest : Candidates
        rest = behind c i

        module _ {h' : Held} {k : prelude.Option Float} (T : Tries x p.doc p.score t (rests_row floats) h h' k) where
          abbrev X : Tried Float
          X = try_candidate 128 f32 p.doc t p.score (secondaries_in x h.places) bs

          abbrev ls : List Load
          ls = loads_of (secondaries_in x h.places) X.secs

          abbrev answer : Turn (InterPlace Float) Float
          answer = found_turn 128 f32 t X.found p.doc (left_in l b rest) c.window_end bs v.doc (leader_in x h.places) X.secs ls

          next-by : (inter_turn t (at v.stage)).next ≡ answer.next
          next-by = ap (λ (s : Stage). (inter_turn t (at s)).next) w ∙ ap (λ (cs : List (Report Float)). (inter_turn t (before cs)).next) found.0

          due-by : (inter_turn t (at v.stage)).due ≡ answer.due
          due-by = ap (λ (s : Stage). (inter_turn t (at s)).due) w ∙ ap (λ (cs : List (Report Float)). (inter_turn t (before cs)).due) found.0

          -- the secondaries have moved, the leader not
          moved_on : (f : List (Report Float) → RouteStage Float)
              → record { stage = f (left_in l b rest); doc = v.doc; leader = leader_in x h.places; secs = X.secs } ≡ place_at x h'.places (f (left_at x h'.places rest)) v.doc
          moved_on f =
              ap (λ (z : List (Scorer Float)). record { stage = f (left_in l b rest); doc = v.doc; leader = leader_in x h.places; secs = z }) (T.secs-are bs opened.rests)
              ∙ ap (λ (row : List ℕ). record { stage = f (left_in l (cursor_in row).dec rest); doc = v.doc; leader = record { ord = q; list = l; cur = cursor_in row }; secs = secondaries_in x h'.places })
              (sym T.leader.place)

          still_open : Scored x h'.places floats × Open x floats rest
          still_open = (
            subst (λ (row : List ℕ). BlockScores l (cursor_in row).dec (scores_row floats q)) (sym T.leader.place) kept.0,
            record { inside = found.1; small = opened.small; rests = opened.rests },
          )

          stands-then : (stage : Stage) → StageKept x h'.places floats stage → Stands x (moved_to v v.doc stage) h' floats
          stands-then stage o = record {
            order = S.order;
            ready = record { seated = T.seated; kept = T.bounds (bounds_row floats) S.ready.kept; long = S.ready.long };
            rows = S.rows;
            scores = row-scored x h.places h'.places q T.leader.place floats S.scores;
            len_is = S.len_is;
            max-is = S.max-is;
            stage = o;
          }

          candidate-passed : None ≡ candidate_of t X.found → TakesTurn x t v h floats (quietly v v.doc (Within rest)) h' floats
          candidate-passed o =
              let z = turn-passed t p.doc (left_in l b rest) c.window_end bs v.doc (leader_in x h.places) X.secs ls X.found o in
              record { stands = stands-then (Within rest) still_open; next-is = next-by ∙ z.0 ∙ moved_on (λ cs. within cs c.window_end bs); due-is = due-by ∙ z.1 }

          candidate-due : (s : Float) → Some s ≡ candidate_of t X.found
              → TakesTurn x t v h floats (record { to = moved_to v v.doc (Called rest); due = Some (p.doc, s) }) h' floats
          candidate-due s o =
              let z = turn-due t p.doc (left_in l b rest) c.window_end bs v.doc (leader_in x h.places) X.secs ls s X.found o in
              record { stands = stands-then (Called rest) still_open; next-is = next-by ∙ z.0 ∙ moved_on (λ cs. called cs c.window_end bs); due-is = due-by ∙ z.1 }

        candidate-turn : {h' : Held} (k : prelude.Option Float) → Tries x p.doc p.score t (rests_row floats) h h' k → TakesTurn x t v h floats (behind_candidate v rest p k) h' floats
        candidate-turn None T = candidate-passed T (T.answer-is bs opened.rests)
        candidate-turn (Some s) T = candidate-due T s (T.answer-is bs opened.rests)

        pub tried : {h' : Held} (k : prelude.Option Float) → Tries x p.doc p.score t (rests_row floats) h h' k → {r : Step Intersection} → r ≡ behind_candidate v rest p k → TakesTurn x t v h floats r h' floats
        tried {h'} k T er = subst (λ (z : Step Intersection). TakesTurn x t v h floats z h' floats) (sym er) (candidate-turn k T)
