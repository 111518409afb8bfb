-- All modes in one statement: a skipping run ends, leaves one list, and under the laws of stepped scoring that list is the plain scan's.
use mathlib.Core.Bool.{true}
use mathlib.Core.List.{List, [], ◌∷◌}
use mathlib.Core.Path.{ap, refl, subst, sym, ◌∙◌, ◌≡◌}
use Prim.Native.Nat.{suc, ℕ, ◌<◌, ◌≤◌}
use native.Mathlib.Omega.{arith}
use lib.ListN.{length, length-map}
use Rattle.arrays.specs.Every.{All}
use Rattle.route.specs.Score.{Ops}
use Rattle.route.specs.Report.{Callback}
use Rattle.route.specs.Postings.{Postings, TERMINATED, score_of}
use Rattle.route.specs.Plain.{Mode, hit, intersection, scan, single, union}
use Rattle.route.specs.Cursor.{fresh}
use Rattle.route.specs.Ordering.{retain, sort_by}
use Rattle.route.specs.Scorer.{Scorer, doc_of, on_cur, scorers_from, size_hint}
use Rattle.route.specs.Route.{Ends, Route, after}
use Rattle.route.specs.Single.{block_wand_single_scorer}
use Rattle.route.specs.Union.{block_wand, pivot_route}
use Rattle.route.specs.Intersection.{leader_route}
use Rattle.route.specs.Skipping.{no_route, of_two, route}
use Rattle.route.specs.Inner.Rules.{Takes}
use Rattle.route.specs.Inner.Lists.{ListOk}
use Rattle.route.specs.Inner.Singles.{SingleKept, single_cost}
use Rattle.route.specs.Inner.Unions.{UnionKept}
use Rattle.route.specs.Inner.Intersections.{InterKept}
use Rattle.route.proofs.Lists.{perm-length}
use Rattle.route.proofs.Order.{NeverFalls, Ordered}
use Rattle.route.proofs.Scan.{rest, scan-ext}
use Rattle.route.proofs.ListLaws.{Accepted}
use Rattle.route.proofs.Sums.{Exact, Sums}
use Rattle.route.proofs.Ordering.{retain-all, sort-perm}
use Rattle.route.proofs.Scorers.{QueryOk, fresh-lists}
use Rattle.route.proofs.Hits.{one-total}
use Rattle.route.proofs.Single.Agrees.{single-agrees}
use Rattle.route.proofs.Ending.{Nears, Stays, ends-within, one_end}
use Rattle.route.proofs.Single.Ends.{single-nears, single-stays}
use Rattle.route.proofs.Union.Agrees.{one_left, union-agrees}
use Rattle.route.proofs.Union.Ends.{union-nears, union-stays, union_cost}
use Rattle.route.proofs.Intersection.Agrees.{intersection-agrees}
use Rattle.route.proofs.Intersection.Ends.{inter_cost, intersection-nears, intersection-stays}

-- What stepped scoring gives, for sums of at most M values: an order, sums that ignore order, differences that are exact.
pub record SteppedLaws (O : Ops) (M : ℕ) : Type 1 where
  pub order : Ordered O
  pub sums : Sums O order M
  pub exact : Exact O order M sums

module _ (B : ℕ) (O : Ops) where
  -- a fresh scorer of a list with P
  abbrev pub Fresh : (Postings O.S → Type 0) → Scorer O.S → Type 0
  Fresh P s = P s.list × (s.cur ≡ fresh)

  pub fresh-all : (P : Postings O.S → Type 0) (n : ℕ) (q : List (Postings O.S)) → All P q → All (Fresh P) (scorers_from n q)
  fresh-all P n [] a = tt
  fresh-all P n (l ∷ ls) a = ((a.0, refl), fresh-all P (suc n) ls a.1)

  pub live_all : (P : Postings O.S → Type 0) (q : List (Postings O.S)) → All P q → All (Fresh P) (retain doc_of (scorers_from 0 q))
  live_all P q a = retain-all doc_of (Fresh P) (scorers_from 0 q) (fresh-all P 0 q a)

  -- by cases on what `retain` leaves: the single route over one scorer, else the loop over pivots
  pub by-live : (P : Postings O.S → Type 0) (T : Route O.S → Type 0) (q : List (Postings O.S)) → All P q
      → ((s : Scorer O.S) → retain doc_of (scorers_from 0 q) ≡ s ∷ [] → P s.list → T (block_wand_single_scorer B O (on_cur s fresh)))
      → T (pivot_route B O (retain doc_of (scorers_from 0 q))) → T (block_wand B O (retain doc_of (scorers_from 0 q)))
  by-live P T q a one more = go (retain doc_of (scorers_from 0 q)) (live_all P q a) one more
    where
      go : (ss : List (Scorer O.S)) → All (Fresh P) ss
          → ((s : Scorer O.S) → ss ≡ s ∷ [] → P s.list → T (block_wand_single_scorer B O (on_cur s fresh)))
          → T (pivot_route B O ss) → T (block_wand B O ss)
      go [] a one more = more
      go (s ∷ []) a one more = subst (λ c. T (block_wand_single_scorer B O (on_cur s c))) (sym a.0.1) (one s refl a.0.0)
      go (x ∷ y ∷ ss) a one more = more

  -- by cases on the number of scorers of an intersection
  pub by_two : (T : Route O.S → Type 0) (ss : List (Scorer O.S))
      → ((ld : Scorer O.S) (rest : List (Scorer O.S)) → ss ≡ ld ∷ rest → T (leader_route B O ld rest))
      → (length ss < 2 → T no_route) → T (of_two B O ss)
  by_two T [] f g = g (omega arith)
  by_two T (s ∷ []) f g = g (omega arith)
  by_two T (x ∷ y ∷ ss) f g = f x (y ∷ ss) refl

  -- by cases on the number of lists of a single run
  pub by_one : (T : Route O.S → Type 0) (q : List (Postings O.S))
      → ((l : Postings O.S) → q ≡ l ∷ [] → T (block_wand_single_scorer B O (record { ord = 0; list = l; cur = fresh })))
      → ((length q ≡ 1 → ⊥) → T no_route) → T (route B O single q)
  by_one T [] f g = g (λ e. omega (arith, e))
  by_one T (l ∷ []) f g = f l refl
  by_one T (l ∷ m ∷ ls) f g = g (λ e. omega (arith, e))

  -- every route stays at its end
  pub route-stays : (m : Mode) (q : List (Postings O.S)) → Stays (route B O m q)
  route-stays union q = by-live (λ _. Unit {0}) Stays q (anything q) (λ s e k. single-stays B O s) (union-stays B O)
    where
      anything : (q : List (Postings O.S)) → All (λ _. Unit {0}) q
      anything [] = tt
      anything (l ∷ ls) = (tt, anything ls)
  route-stays intersection q = by_two Stays (sort_by size_hint (scorers_from 0 q)) (λ ld ss e. intersection-stays B O) (λ _ t p e. refl)
  route-stays single q = by_one Stays q (λ l e. single-stays B O (record { ord = 0; list = l; cur = fresh })) (λ _ t p e. refl)

  module _ (K : Callback O.S) (r : K.State) where
    -- ---- a run ends, in both scorings

    abbrev Ending : Route O.S → Type 0
    Ending W = (n : ℕ) × (W.ended (after K W r n).place ≡ true)

    ending : (W : Route O.S) (Kept : W.Place → Type 0) (cost : W.Place → ℕ) → Nears W Kept cost → Ending W
    ending W Kept cost h = let z = ends-within W K Kept cost h r in (z.0, z.2)

    module _ (N : ℕ) where
      single-ending : (i : ℕ) (l : Postings O.S) → ListOk B N l → Ending (block_wand_single_scorer B O (record { ord = i; list = l; cur = fresh }))
      single-ending i l k =
          ending (block_wand_single_scorer B O (record { ord = i; list = l; cur = fresh }))
          (λ p. SingleKept B l p.phase p.cur p.doc) (λ p. single_cost B l p.phase p.cur) (single-nears B N O l k i)

      -- EVERY ROUTE ENDS
      pub route-ends : (m : Mode) (q : List (Postings O.S)) → All (ListOk B N) q → Ending (route B O m q)
      route-ends union q ok =
          by-live (ListOk B N) Ending q ok (λ s e k. single-ending s.ord s.list k)
          (ending (pivot_route B O (retain doc_of (scorers_from 0 q))) (UnionKept B N O) (union_cost B N O) (union-nears B N O q ok))
      route-ends intersection q ok =
          by_two Ending (sort_by size_hint (scorers_from 0 q))
          (λ ld ss e. ending (leader_route B O ld ss) (λ u. InterKept B N O u.stage u.doc u.leader u.secs)
          (λ u. inter_cost B N O u.stage u.doc)
          (intersection-nears B N O q ok ld ss e))
          (λ _. (0, refl))
      route-ends single q ok = by_one Ending q (λ l e. single-ending 0 l (subst (All (ListOk B N)) e ok).0) (λ _. (0, refl))

      -- a run has a list
      pub has-list : (m : Mode) (q : List (Postings O.S)) → All (ListOk B N) q → (list : K.State) × Ends K (route B O m q) r list
      has-list m q ok =
          let z = route-ends m q ok in
          ((after K (route B O m q) r z.0).state, record { steps = z.0; ended = z.1; leaves = refl })

    -- A RUN LEAVES ONE LIST
    pub one_list : (m : Mode) (q : List (Postings O.S)) (a b : K.State) → Ends K (route B O m q) r a → Ends K (route B O m q) r b → a ≡ b
    one_list m q = one_end (route B O m q) K (route-stays m q) r

  -- ---- stepped scoring

  module _ (N M : ℕ) (Y : SteppedLaws O M) where
    abbrev pub Listed : Postings O.S → Type 0
    Listed l = Accepted B N O Y.order Y.sums.Ok l

    module _ (q : List (Postings O.S)) (qs : All Listed q) (few : length q ≤ M) (small : N ≤ TERMINATED)
        (K : Callback O.S) (G : NeverFalls O Y.order K) (r : K.State) (g : G.Good r) where
      abbrev Agrees : Mode → Route O.S → Type 0
      Agrees m W = (total : K.State) → Ends K W r total → total ≡ scan O K (hit O m q) N 0 r

      abbrev Q : QueryOk B N Y.sums q
      Q = record { all-ok = qs; few = few; small = small }

      -- a list whose scores are the mode's sums
      alone : (m : Mode) (i : ℕ) (l : Postings O.S) → Listed l → ((d : ℕ) → score_of l d ≡ hit O m q d)
          → Agrees m (block_wand_single_scorer B O (record { ord = i; list = l; cur = fresh }))
      alone m i l k e total z =
          single-agrees B N G Y.sums.values l k.ok k.vals i r total g z ∙ scan-ext O K (score_of l) (hit O m q) e N 0 r

      -- EVERY ROUTE'S REPORTS ARE THE PLAIN SCAN'S
      pub agrees : (m : Mode) → Takes m (length q) → Agrees m (route B O m q)
      agrees union takes =
          by-live Listed (Agrees union) q qs
          (λ s e k. alone union s.ord s.list k (λ d. sym (one_left G Q s e d)))
          (λ total z. union-agrees G Q r total g z)
      agrees intersection takes =
          by_two (Agrees intersection) (sort_by size_hint (scorers_from 0 q))
          (λ ld ss e total z. intersection-agrees G Y.exact Q ld ss e r total g z)
          (λ h. absurd (omega (
            arith,
            perm-length (sort-perm size_hint (scorers_from 0 q)),
            ap length (fresh-lists 0 q),
            length-map (scorers_from 0 q)
                (λ s. s.list),
          )))
      agrees single takes =
          by_one (Agrees single) q
          (λ l e. alone single 0 l (subst (All Listed) e qs).0 (λ d. sym (ap (λ z. hit O single z d) e ∙ one-total O (score_of l d))))
          (λ n. absurd (n takes))
