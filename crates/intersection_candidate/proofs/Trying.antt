-- `try_candidate`'s loop: the secondaries before place i have the candidate, and what is left decides.
use mathlib.Core.Bool.{false, true}
use mathlib.Core.List.{List, [], ◌++◌, ◌∷◌}
use mathlib.Core.Logic.{inl, inr}
use mathlib.Core.Option.{Option, none, some}
use mathlib.Core.Path.{ap, refl, sym, ◌∙◌, ◌≡◌}
use Prim.Native.Nat.{suc, zero, ℕ, ◌+◌, ◌<◌, ◌≤◌}
use native.Mathlib.Nat.{le_of_lt}
use native.Mathlib.Numerals.{add-one}
use native.Mathlib.Omega.{arith}
use lib.Dec.{eqb, ltb}
use lib.ListN.{drop, get_or, length}
use lib.Seq.{append_snoc}
use lib.Ieee.{Float, nan}
use borrow.Author.Tests.{eq-eqb, eqb-true, le-leb, le-ltb, lt-ltb, ne_eqb}
use Rattle.arrays.proofs.Order.{lt-or-ge}
use Rattle.route.specs.F32.{f32}
use Rattle.route.specs.Score.{sum_back}
use Rattle.route.specs.Cursor.{seek_in}
use Rattle.route.specs.Scorer.{Scorer, doc_of, score_here, seek}
use Rattle.route.specs.Intersection.{Tried, dropped, push_sec, tail_of, try_candidate}
use Rattle.skip_reader.specs.Inner.Decoded.{doc-is, doc_in}
use Rattle.term_scorer.specs.Inner.Slots.{Held, MovedSlot, SameRows, cursor_at, list_at, part_at}
use Rattle.intersection_order.specs.Inner.Scorers.{InOrder, Query, SlotsIn, StillKept, scorer_at, scorers_between, secondaries_in, slot_at, Rests}
use Rattle.intersection_candidate.specs.Inner.Candidates.{Tries, candidate_of}
use Rattle.std.specs.Prelude.{Some, None}
use Rattle.std.specs.Prelude as prelude
use Rattle.intersection_order.proofs.Parts.{part-first, part-last, part_none, part-split}
use Rattle.intersection_order.proofs.Seats.{leader-stays, moved-only, others-stay, scorer-is, still_kept, still-seated, unmoved, unmoved-trans}

tail-drop : (i : ℕ) (bs : List Float) → tail_of (drop i bs) ≡ drop (suc i) bs
tail-drop zero [] = refl
tail-drop zero (b ∷ bs) = refl
tail-drop (suc i) [] = refl
tail-drop (suc i) (b ∷ bs) = tail-drop i bs

-- one secondary of the route, by what its tests show
module _ (c : ℕ) (t tot : Float) (s : Scorer Float) (ss : List (Scorer Float)) (bs : List Float) where
  abbrev Try : Tried Float
  Try = try_candidate 128 f32 c t tot (s ∷ ss) bs

  -- a scorer past the candidate stays where it is
  stays-past : c < doc_of s → seek 128 c s ≡ s
  stays-past l = rw (le-leb c (doc_of s) (le_of_lt l))

  try-missed : eqb (doc_of (seek 128 c s)) c ≡ false → Try ≡ dropped (seek 128 c s ∷ ss)
  try-missed e = elim (lt-or-ge c (doc_of s)) [
    | inl l ↦ rw (lt-ltb c (doc_of s) l) (ap (λ (z : Scorer Float). dropped (z ∷ ss)) (sym (stays-past l)))
    | inr l ↦ rw (le-ltb c (doc_of s) l, e)
  ]

  module _ (on : eqb (doc_of (seek 128 c s)) c ≡ true) where
    low : ltb c (doc_of s) ≡ false
    low = elim (lt-or-ge c (doc_of s)) [
      | inl l ↦ absurd (omega (arith, l, sym (ap doc_of (stays-past l)) ∙ eqb-true (doc_of (seek 128 c s)) c on))
      | inr l ↦ le-ltb c (doc_of s) l
    ]

    try-low : f32.above (f32.add (f32.add tot (score_here (seek 128 c s))) (sum_back f32 (tail_of bs))) t ≡ false → Try ≡ dropped (seek 128 c s ∷ ss)
    try-low e = rw (low, on, e)

    try-on : f32.above (f32.add (f32.add tot (score_here (seek 128 c s))) (sum_back f32 (tail_of bs))) t ≡ true
        → Try ≡ push_sec (seek 128 c s) (try_candidate 128 f32 c t (f32.add tot (score_here (seek 128 c s))) ss (tail_of bs))
    try-on e = rw (low, on, e)

-- the secondaries that the candidate has passed, before what is left
abbrev behind : List (Scorer Float) → Tried Float → Tried Float
behind pre z = record { secs = pre ++ z.secs; found = z.found }

module _ (x : Query) (c : ℕ) (score t : Float) (rests : List Float) (h₀ : Held) where
  -- what the route makes of the secondaries from place i on
  abbrev left : ℕ → Float → Held → List Float → Tried Float
  left i total h bs = try_candidate 128 f32 c t total (scorers_between x h.places i x.len) (drop i (f32.nil ∷ bs))

  pub record Trying (i : ℕ) (total : Float) (h : Held) : Type 0 where
    pub seated : SlotsIn x h
    pub leader : SameRows h₀ h (slot_at x 0)
    pub bounds : StillKept x h₀.places h.places
    pub low : 1 ≤ i
    pub high : i ≤ x.len
    pub whole : (bs : List Float) → Rests x.len bs rests
        → try_candidate 128 f32 c t score (secondaries_in x h₀.places) bs ≡ behind (scorers_between x h.places 1 i) (left i total h bs)

  module _ (O : InOrder x) where
    long : x.len ≤ length x.order
    long = let e = O.long in let f = O.few in omega arith

    pub begun : SlotsIn x h₀ → Trying 1 score h₀
    begun S = record {
      seated = S;
      leader = unmoved (slot_at x 0) h₀;
      bounds = λ bounds B. B;
      low = omega arith;
      high = O.leader;
      whole = λ bs _. ap (λ (z : List (Scorer Float)). behind z (left 1 score h₀ bs)) (sym (part_none x.order (scorer_at x h₀.places) 1 1 (omega arith)));
    }

    module _ {i : ℕ} {total : Float} {h : Held} (T : Trying i total h) where
      -- what is left has answered: the secondaries before place i are those of h still
      answers : {h' : Held} → SlotsIn x h' → SameRows h h' (slot_at x 0) → StillKept x h.places h'.places
          → scorers_between x h'.places 1 i ≡ scorers_between x h.places 1 i → {r : prelude.Option Float} (o : Option Float) → r ≡ candidate_of t o
          → ((bs : List Float) → Rests x.len bs rests → left i total h bs ≡ record { secs = scorers_between x h'.places i x.len; found = o }) → Tries x c score t rests h₀ h' r
      answers {h'} S u k p {r} o e a = record {
        seated = S;
        leader = unmoved-trans T.leader u;
        bounds = λ bounds B. k bounds (T.bounds bounds B);
        secs-are = λ bs s.
            ap (λ (z : Tried Float). z.secs) (T.whole bs s ∙ ap (behind (scorers_between x h.places 1 i)) (a bs s))
            ∙ ap (λ (z : List (Scorer Float)). z ++ scorers_between x h'.places i x.len) (sym p)
            ∙ sym (part-split x.order (scorer_at x h'.places) 1 i x.len T.low T.high long);
        answer-is = λ bs s. e ∙ ap (candidate_of t) (sym (ap (λ (z : Tried Float). z.found) (T.whole bs s ∙ ap (behind (scorers_between x h.places 1 i)) (a bs s))));
      }

      -- all secondaries have it
      module _ (end : x.len ≤ i) where
        all_have : {r : prelude.Option Float} → r ≡ candidate_of t (some total) → Tries x c score t rests h₀ h r
        all_have e =
            let nothing = part_none x.order (scorer_at x h.places) i x.len end in
            answers T.seated (unmoved (slot_at x 0) h) (λ bounds B. B) refl (some total) e
            (λ bs s. rw nothing)

        pub due : f32.above total t ≡ true → Tries x c score t rests h₀ h (Some total)
        due b = all_have (rw b)

        pub not-above : f32.above total t ≡ false → Tries x c score t rests h₀ h None
        not-above b = all_have (rw b)

      module _ (hi : i < x.len) where
        abbrev q : ℕ
        q = slot_at x i

        abbrev s : Scorer Float
        s = scorer_at x h.places q

        abbrev rest : List (Scorer Float)
        rest = scorers_between x h.places (suc i) x.len

        here : scorers_between x h.places i x.len ≡ s ∷ rest
        here = part-first x.order (scorer_at x h.places) i x.len hi long

        left_is : (bs : List Float) → left i total h bs ≡ try_candidate 128 f32 c t total (s ∷ rest) (drop i (f32.nil ∷ bs))
        left_is bs = ap (λ (z : List (Scorer Float)). try_candidate 128 f32 c t total z (drop i (f32.nil ∷ bs))) here

        module _ {h' : Held} {sought : ℕ} (M : MovedSlot x.file x.lists q (λ k. seek_in (list_at k x.file x.lists q) 128 c (cursor_at h.places q)) h h' sought) where
          abbrev s' : Scorer Float
          s' = scorer_at x h'.places q

          hq : q < x.len
          hq = O.below i hi

          sought-is : s' ≡ seek 128 c s
          sought-is = scorer-is x T.seated hq M

          doc-there : doc_of (seek 128 c s) ≡ sought
          doc-there = ap doc_of (sym sought-is) ∙ doc-is x.file (part_at x.lists q) x.scoring (cursor_at h'.places q).at ∙ sym M.moved.doc-is

          pub seated-there : SlotsIn x h'
          seated-there = still-seated x T.seated hq M

          pub on-candidate : sought ≡ c → c ≡ doc_in x.file (part_at x.lists q) (cursor_at h'.places q).at
          on-candidate e = sym e ∙ M.moved.doc-is

          front-stays : scorers_between x h'.places 1 i ≡ scorers_between x h.places 1 i
          front-stays = others-stay x O hi (moved-only x T.seated hq M) 1 i T.high (λ k u v e. omega arith)

          rest-stays : scorers_between x h'.places (suc i) x.len ≡ rest
          rest-stays = others-stay x O hi (moved-only x T.seated hq M) (suc i) x.len (omega arith) (λ k u v e. omega arith)

          leader-there : SameRows h h' (slot_at x 0)
          leader-there = leader-stays x O hi (moved-only x T.seated hq M) T.low

          there : scorers_between x h'.places i x.len ≡ seek 128 c s ∷ rest
          there =
              part-first x.order (scorer_at x h'.places) i x.len hi long ∙ ap (λ (z : List (Scorer Float)). s' ∷ z) rest-stays
              ∙ ap (λ (z : Scorer Float). z ∷ rest) sought-is

          drops : ((bs : List Float) → Rests x.len bs rests → try_candidate 128 f32 c t total (s ∷ rest) (drop i (f32.nil ∷ bs)) ≡ dropped (seek 128 c s ∷ rest))
              → Tries x c score t rests h₀ h' None
          drops a =
              answers seated-there leader-there (still_kept x T.seated hq M) front-stays none refl (λ bs k. left_is bs ∙ a bs k ∙ ap dropped (sym there))

          pub missed : (sought ≡ c → ⊥) → Tries x c score t rests h₀ h' None
          missed n = drops (λ bs _. try-missed c t total s rest (drop i (f32.nil ∷ bs)) (ap (λ (z : ℕ). eqb z c) doc-there ∙ ne_eqb sought c n))

          module _ (e : sought ≡ c) {v : Float} (ev : v ≡ (list_at x.scoring x.file x.lists q).score (cursor_at h'.places q).at) where
            on : eqb (doc_of (seek 128 c s)) c ≡ true
            on = ap (λ (z : ℕ). eqb z c) doc-there ∙ eq-eqb sought c e

            score-is : score_here (seek 128 c s) ≡ v
            score-is = ap score_here (sym sought-is) ∙ sym ev

            bound-is : (bs : List Float) → Rests x.len bs rests → sum_back f32 (tail_of (drop i (f32.nil ∷ bs))) ≡ get_or rests i nan
            bound-is bs k = ap (sum_back f32) (tail-drop i (f32.nil ∷ bs)) ∙ sym (k i T.low hi)

            test-is : (bs : List Float) → Rests x.len bs rests
                → f32.above (f32.add (f32.add total (score_here (seek 128 c s))) (sum_back f32 (tail_of (drop i (f32.nil ∷ bs))))) t
                ≡ f32.above (f32.add (f32.add total v) (get_or rests i nan)) t
            test-is bs k =
                ap (λ (z : Float). f32.above (f32.add (f32.add total z) (sum_back f32 (tail_of (drop i (f32.nil ∷ bs))))) t) score-is
                ∙ ap (λ (z : Float). f32.above (f32.add (f32.add total v) z) t) (bound-is bs k)

            pub too-low : f32.above (f32.add (f32.add total v) (get_or rests i nan)) t ≡ false → Tries x c score t rests h₀ h' None
            too-low b = drops (λ bs k. try-low c t total s rest (drop i (f32.nil ∷ bs)) on (test-is bs k ∙ b))

            pub goes_on : f32.above (f32.add (f32.add total v) (get_or rests i nan)) t ≡ true → Trying (i + 1) (f32.add total v) h'
            goes_on b =
                let front : scorers_between x h'.places 1 (suc i) ≡ scorers_between x h.places 1 i ++ (seek 128 c s ∷ []) =
                part-last x.order (scorer_at x h'.places) 1 i T.low (omega (arith, long)) ∙ ap (λ (z : List (Scorer Float)). z ++ (s' ∷ [])) front-stays
                ∙ ap (λ (z : Scorer Float). scorers_between x h.places 1 i ++ (z ∷ [])) sought-is in
                record {
                  seated = seated-there;
                  leader = unmoved-trans T.leader leader-there;
                  bounds = λ bounds B. still_kept x T.seated hq M bounds (T.bounds bounds B);
                  low = omega arith;
                  high = omega arith;
                  whole = λ bs k.
                      let z = try_candidate 128 f32 c t (f32.add total v) rest (drop (suc i) (f32.nil ∷ bs)) in
                      T.whole bs k
                      ∙ ap (behind (scorers_between x h.places 1 i))
                      (left_is bs ∙ try-on c t total s rest (drop i (f32.nil ∷ bs)) on (test-is bs k ∙ b)
                      ∙ ap (λ (w : Float). push_sec (seek 128 c s) (try_candidate 128 f32 c t (f32.add total w) rest (tail_of (drop i (f32.nil ∷ bs))))) score-is
                      ∙ ap (λ (w : List Float). push_sec (seek 128 c s) (try_candidate 128 f32 c t (f32.add total v) rest w)) (tail-drop i (f32.nil ∷ bs)))
                      ∙ ap (λ (w : List (Scorer Float)). record { secs = w; found = z.found }) (sym (append_snoc (scorers_between x h.places 1 i) (seek 128 c s) z.secs))
                      ∙ ap (λ (w : List (Scorer Float)). behind w z) (sym front)
                      ∙ rw add-one (ap (λ (w : List (Scorer Float)). behind (scorers_between x h'.places 1 (suc i)) (try_candidate 128 f32 c t (f32.add total v) w (drop (suc i) (f32.nil ∷ bs)))) (sym rest-stays));
                }
