-- The reports of any run, in both scorings: documents rise strictly below N, so that there are at most N, and each score is a sum of the lists' scores.
use mathlib.Core.List.{List, [], ◌∷◌}
use mathlib.Core.Option.{Option, none, some}
use mathlib.Core.Path.{refl, subst, sym}
use Prim.Native.Nat.{suc, zero, ℕ, ◌+◌, ◌≤◌}
use native.Mathlib.Omega.{arith}
use lib.ListN.{length}
use Rattle.arrays.specs.Every.{All}
use Rattle.route.specs.Score.{Ops}
use Rattle.route.specs.Report.{Callback, Report}
use Rattle.route.specs.Rule.{Rule, ruled}
use Rattle.route.specs.Postings.{Postings}
use Rattle.route.specs.Plain.{Mode, all_of, hit, intersection, plain, present, scan, single, total_of, turn_of, union}
use Rattle.route.specs.Cursor.{fresh}
use Rattle.route.specs.Ordering.{retain, sort_by}
use Rattle.route.specs.Scorer.{Scorer, doc_of, scorers_from, size_hint}
use Rattle.route.specs.Route.{Ends, Route}
use Rattle.route.specs.Single.{block_wand_single_scorer}
use Rattle.route.specs.Union.{pivot_route}
use Rattle.route.specs.Intersection.{leader_route}
use Rattle.route.specs.Skipping.{Skips, no_route, route}
use Rattle.route.specs.Inner.Lists.{ListOk}
use Rattle.route.specs.Inner.Singles.{SingleKept, single_cost}
use Rattle.route.specs.Inner.Unions.{UnionKept}
use Rattle.route.specs.Inner.Intersections.{InterKept}
use Rattle.route.proofs.Lists.{all-imp, all-perm, all-zip}
use Rattle.route.proofs.Scan.{offer-all}
use Rattle.route.proofs.ListLaws.{Scored}
use Rattle.route.proofs.Ordering.{sort-perm}
use Rattle.route.proofs.Scorers.{present-has}
use Rattle.route.proofs.Hits.{Every, e-all, e-not, every}
use Rattle.route.proofs.Ending.{one_end}
use Rattle.route.proofs.Order.{HasOf}
use Rattle.route.proofs.Onward.{Listed, Summed, Upward, listed_below, listed_more, reports-upward, sum-has, upward-few}
use Rattle.route.proofs.Single.Ends.{single-nears, single-stays}
use Rattle.route.proofs.Single.Onward.{SingleAhead, single-onward}
use Rattle.route.proofs.Union.Ends.{union-nears, union-stays, union_cost}
use Rattle.route.proofs.Union.Onward.{UnionAhead, union-onward}
use Rattle.route.proofs.Intersection.Ends.{inter_cost, intersection-nears, intersection-stays}
use Rattle.route.proofs.Intersection.Onward.{InterAhead, intersection-onward}
use Rattle.route.proofs.Agree.{Fresh, by-live, by_one, by_two, fresh-all, live_all}

-- a scan's list rises, and its scores have what every document's sum has
module _ (O : Ops) (P : O.S → Type 0) (rule : Rule O.S) (start : O.S) (h : ℕ → Option O.S) (has : (d : ℕ) → HasOf P (h d)) where
  turn-listed : (o : Option O.S) (d : ℕ) (rs : List (Report O.S)) → HasOf P o → Listed P d rs → Listed P (suc d) (turn_of O (ruled O rule start) o d rs)
  turn-listed none d rs p k = listed_below P d (suc d) rs (omega arith) k
  turn-listed (some x) d rs p k =
      offer-all O (ruled O rule start) (Listed P (suc d)) d x rs
      (λ _. listed_more P d rs (record { doc = d; score = x }) (omega arith) p k)
      (λ _. listed_below P d (suc d) rs (omega arith) k)

  scan-from : (n d : ℕ) (rs : List (Report O.S)) → Listed P d rs → Listed P (d + n) (scan O (ruled O rule start) h n d rs)
  scan-from zero d rs k = listed_below P d (d + 0) rs (omega arith) k
  scan-from (suc n) d rs k =
      let rs' = turn_of O (ruled O rule start) (h d) d rs in
      listed_below P (suc d + n) (d + suc n) (scan O (ruled O rule start) h n (suc d) rs') (omega arith)
      (scan-from n (suc d) rs' (turn-listed (h d) d rs (has d) k))

  scan-listed : (N : ℕ) → Listed P N (scan O (ruled O rule start) h N 0 [])
  scan-listed N =
      listed_below P (0 + N) N (scan O (ruled O rule start) h N 0 []) (omega arith) (scan-from N 0 [] (record { upward = omega arith; scored = tt }))

module _ (O : Ops) (P : O.S → Type 0) (Z : Summed O P) (q : List (Postings O.S)) (has : All (Scored P) q) (rule : Rule O.S) (start : O.S) where
  abbrev K : Callback O.S
  K = ruled O rule start

  -- ---- the plain scan

  total-has : (xs : List O.S) → All P xs → HasOf P (total_of O xs)
  total-has [] a = tt
  total-has (x ∷ xs) a = sum-has O P Z x xs a.0 a.1

  hit-has : (m : Mode) (d : ℕ) → HasOf P (hit O m q d)
  hit-has union d = total-has (present d q) (present-has P d q has)
  hit-has single d = total-has (present d q) (present-has P d q has)
  hit-has intersection d = go (every d q)
    where
      go : Every d q → HasOf P (hit O intersection q d)
      go (e-all a b) = subst (λ o. HasOf P (all_of O o)) (sym a) (total-has (present d q) (present-has P d q has))
      go (e-not a b) = subst (λ o. HasOf P (all_of O o)) (sym a) tt

  plain-listed : (m : Mode) (N : ℕ) → Listed P N (plain O m q rule start N)
  plain-listed m N = scan-listed O P rule start (hit O m q) (hit-has m) N

  -- ---- skipping runs

  module _ (B N : ℕ) (ok : All (ListOk B N) q) where
    -- the list that a run over W leaves rises below N, and has P
    abbrev Lists : Route O.S → Type 0
    Lists W = (rows : List (Report O.S)) → Ends K W [] rows → Listed P N rows

    -- no turn is taken
    none-listed : Lists no_route
    none-listed rows z =
        subst (Listed P N) (one_end no_route K (λ t p e. refl) [] [] rows (record { steps = 0; ended = refl; leaves = refl }) z)
        (record { upward = omega arith; scored = tt })

    single-listed : (i : ℕ) (l : Postings O.S) → ListOk B N l → Scored P l → Lists (block_wand_single_scorer B O (record { ord = i; list = l; cur = fresh }))
    single-listed i l k h =
        let s : Scorer O.S = record { ord = i; list = l; cur = fresh } in
        reports-upward O P N rule start (block_wand_single_scorer B O s) (single-stays B O s)
        (λ p. SingleKept B l p.phase p.cur p.doc) (λ p. single_cost B l p.phase p.cur) (single-nears B N O l k i)
        SingleAhead (single-onward B N O P l k h i)

    -- the query's lists, each right and with P
    both : All (λ l. ListOk B N l × Scored P l) q
    both = all-zip (ListOk B N) (Scored P) (λ l. ListOk B N l × Scored P l) (λ l k h. (k, h)) q ok has

    skips-listed : (m : Mode) → Lists (route B O m q)
    skips-listed union =
        let live : List (Scorer O.S) = retain doc_of (scorers_from 0 q) in
        by-live B O (λ l. ListOk B N l × Scored P l) Lists q both (λ s e k. single-listed s.ord s.list k.0 k.1)
        (reports-upward O P N rule start (pivot_route B O live) (union-stays B O) (UnionKept B N O) (union_cost B N O) (union-nears B N O q ok)
        (UnionAhead B N O P)
        (union-onward B N O P Z q ok (all-imp (Fresh B O (Scored P)) (λ s. Scored P s.list) live (λ s h. h.0) (live_all B O (Scored P) q has))))
    skips-listed intersection =
        let all : List (Scorer O.S) = sort_by size_hint (scorers_from 0 q) in
        by_two B O Lists all
        (λ ld ss e.
        let scored = all-imp (Fresh B O (Scored P)) (λ s. Scored P s.list) all (λ s h. h.0)
        (all-perm (Fresh B O (Scored P)) (sort-perm size_hint (scorers_from 0 q)) (fresh-all B O (Scored P) 0 q has)) in
        reports-upward O P N rule start (leader_route B O ld ss) (intersection-stays B O)
        (λ u. InterKept B N O u.stage u.doc u.leader u.secs) (λ u. inter_cost B N O u.stage u.doc)
        (intersection-nears B N O q ok ld ss e) (InterAhead B N O P)
        (intersection-onward B N O P Z ld ss (subst (All (λ s. Scored P s.list)) e scored)))
        (λ _. none-listed)
    skips-listed single =
        by_one B O Lists q (λ l e. let k = (subst (All (λ l. ListOk B N l × Scored P l)) e both).0 in single-listed 0 l k.0 k.1) (λ _. none-listed)

-- ---- every run

-- nothing asked of scores
any-summed : (O : Ops) → Summed O (λ _. Unit {0})
any-summed O = record { nil-has = tt; add-has = λ x y a b. tt }

any-scored : {S : Type 0} (q : List (Postings S)) → All (Scored (λ _. Unit {0})) q
any-scored [] = tt
any-scored (l ∷ ls) = (λ i h. tt, any-scored ls)

module _ (O : Ops) (m : Mode) (q : List (Postings O.S)) (rule : Rule O.S) (start : O.S) where
  module _ (B N : ℕ) (ok : All (ListOk B N) q) (rows : List (Report O.S)) (run : Skips B O m q rule start rows) where
    -- A SKIPPING RUN'S REPORTS RISE
    pub skips-rise : Upward 0 N rows
    skips-rise = (skips-listed O (λ _. Unit {0}) (any-summed O) q (any-scored q) rule start B N ok m rows run).upward

    pub skips-few : length rows ≤ N
    skips-few = omega (arith, upward-few 0 N rows skips-rise)

    -- A SKIPPING RUN'S SCORES ARE SUMS OF THE LISTS' SCORES
    pub skips-scores : (P : O.S → Type 0) → Summed O P → All (Scored P) q → All (λ r. P r.score) rows
    skips-scores P Z has = (skips-listed O P Z q has rule start B N ok m rows run).scored

  -- THE PLAIN SCAN'S REPORTS RISE
  pub plain-rise : (N : ℕ) → Upward 0 N (plain O m q rule start N)
  plain-rise N = (plain-listed O (λ _. Unit {0}) (any-summed O) q (any-scored q) rule start m N).upward

  pub plain-few : (N : ℕ) → length (plain O m q rule start N) ≤ N
  plain-few N = omega (arith, upward-few 0 N (plain O m q rule start N) (plain-rise N))

  -- THE PLAIN SCAN'S SCORES ARE ITS DOCUMENTS' SUMS
  pub plain-sums : (N : ℕ) (P : O.S → Type 0) → ((d : ℕ) → HasOf P (hit O m q d)) → All (λ r. P r.score) (plain O m q rule start N)
  plain-sums N P has = (scan-listed O P rule start (hit O m q) has N).scored

  -- AND SO SUMS OF THE LISTS' SCORES
  pub plain-scores : (N : ℕ) (P : O.S → Type 0) → Summed O P → All (Scored P) q → All (λ r. P r.score) (plain O m q rule start N)
  plain-scores N P Z has = (plain-listed O P Z q has rule start m N).scored
