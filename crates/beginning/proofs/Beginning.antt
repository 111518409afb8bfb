-- A run begins at its route's first place: the lists that a query names are open in their slots, and the machine of each mode stands there.
use mathlib.Core.Path.{◌≡◌, refl, sym, ap, ◌∙◌, subst}
use mathlib.Core.List.{List, [], ◌∷◌, map}
use Prim.Native.Nat.{ℕ, zero, suc, ◌+◌, ◌≤◌, ◌<◌}
use native.Mathlib.Nat.{zero-add}
use native.Mathlib.Omega.{arith}
use lib.ListN.{length, get_or, get_or-replicate, replicate, take}
use lib.Seq.{length-take-le}
use lib.Ieee.{Float}
use Rattle.arrays.specs.Every.{All}
use Rattle.route.specs.F32.{f32}
use Rattle.route.specs.Cursor.{Cursor, fresh}
use Rattle.route.specs.Ordering.{retain}
use Rattle.route.specs.Plain as plain
use Rattle.route.specs.Report.{Report}
use Rattle.route.specs.Scorer.{Scorer, doc_of, scorers_from}
use Rattle.route.specs.Route.{Ends, Route}
use Rattle.route.specs.Single.{block_wand_single_scorer}
use Rattle.route.specs.Union.{block_wand, pivot_route}
use Rattle.route.specs.Intersection.{leader_route}
use Rattle.route.specs.Skipping.{of_one, route}
use Rattle.route.specs.Inner.Lists.{ListOk}
use Rattle.route.proofs.Scan.{scan-ext}
use Rattle.route.proofs.Intersection.Ends.{intersection-nears}
use Rattle.bm25.specs.declared.Scoring.{Scoring}
use Rattle.rule.specs.declared.Rule.{Rule}
use Rattle.ordering.specs.Inner.Scorers.{Apart, Left, by_doc, no_scorer}
use Rattle.ordering.specs.declared.Scorers.{Scorers}
use Rattle.term_scorer.specs.declared.TermScorer.{TermScorer}
use Rattle.ordering.proofs.Kept.{kept-all, kept-apart, retain-kept}
use Rattle.ordering.proofs.OnRoute.{SameDoc, retained-on-route}
use Rattle.notefile.specs.Header.{documents, norm_reader}
use Rattle.notefile.specs.Parts.{part_of}
use Rattle.notefile.specs.declared.part.Part.{Part}
use Rattle.decoded.specs.Lists.{list_of, postings_of, queried}
use Rattle.skip_reader.specs.Inner.Decoded.{doc_in, doc-is}
use Rattle.reports.specs.Inner.Runs.{callback_of}
use Rattle.term_scorer.specs.Inner.Slots.{Sixteen, cursor_at, list_at, lists_from, part_at}
use Rattle.term_scorer.specs.Inner.Weights.{FloatRows}
use Rattle.term_scorer.specs.declared.score.Similarity.{Similarity}
use Rattle.query.specs.Inner.Openings as opening
use Rattle.query.specs.Inner.Openings.{QueryOpened}
use Rattle.query.proofs.Opening.{lists-are, opened-scorers}
use Rattle.block_wand_single.proofs.Going.{single-begins}
use Rattle.union_moves.specs.Inner.Seats.{alive, scorer_at, terms}
use Rattle.block_wand_union.specs.Inner.Runs as any
use Rattle.union_turn.specs.declared.Union.{Union}
use Rattle.block_wand_union.proofs.Begins as begins
use Rattle.intersection_order.specs.Inner.Scorers as window
use Rattle.intersection_order.specs.Inner.Scorers.{leader_in, secondaries_in}
use Rattle.block_wand_intersection.specs.Inner.Beginnings as all
use Rattle.intersection_turn.specs.Inner.Stands as stands
use Rattle.intersection_stage.specs.declared.Intersection.{Intersection}
use Rattle.block_wand_intersection.proofs.Beginning.{route-is}
use Rattle.plain_scan.specs.Inner.Turns.{hits_of, needs_all, scan_route}
use Rattle.plain_scan.proofs.Slots.{ok}
use Rattle.plain_scan.proofs.Beginning.{same-hits, scan_begins}
use Rattle.plain_scan.proofs.Scanning.{none-behind}
use Rattle.plain_scan.proofs.Ending.{scan-ends}
use Rattle.machine.specs.Inner.Places as place
use Rattle.machine.specs.Inner.Places.{machine_from, Runs}
use Rattle.machine.specs.Inner.Kept.{KeptIn}
use Rattle.machine.specs.Inner.Stands.{only_scorer, place_in}
use Rattle.machine.specs.declared.Machine.{Machine}
use Rattle.machine.specs.declared.Machine.TheVariants as mode
use Rattle.machine.proofs.Embeds.{ends-in, runs-intersection, runs-plain, runs-single, runs-union}
use Rattle.request.specs.Request.{mode_of}
use Rattle.request.specs.declared.Mode.{Mode}
use Rattle.request.specs.declared.Mode.TheVariants as modes
use Rattle.beginning.specs.Inner.Begins.{begun_tables, plain_from, single_from, BeganWith, one_left, some_left, UnionBegun}
use Rattle.beginning.specs.declared.Way.TheVariants.{Plain, Skipping}

-- what holds of each of the first n
all_first : {A : Type 0} (P : A → Type 0) (d : A) (xs : List A) (n : ℕ) → n ≤ length xs → ((q : ℕ) → q < n → P (get_or xs q d)) → All P (take n xs)
all_first P d xs zero k h = tt
all_first P d [] (suc n) k h = absurd (omega (arith, k))
all_first P d (x ∷ xs) (suc n) k h = (h 0 (omega arith), all_first P d xs n (omega arith) (λ q l. h (suc q) (omega arith)))

-- slots that are counted up are apart
apart-first : (xs : List TermScorer) (n i : ℕ) → n ≤ length xs → ((q : ℕ) → q < n → (get_or xs q no_scorer).slot ≡ i + q) → Apart (take n xs)
apart-first xs zero i k h = tt
apart-first [] (suc n) i k h = absurd (omega (arith, k))
apart-first (x ∷ xs) (suc n) i k h = (
  all_first (λ s. s.slot ≡ x.slot → ⊥) no_scorer xs n (omega arith) (λ q l e. omega (arith, e, h 0 (omega arith), h (suc q) (omega arith))),
  apart-first xs n (suc i) (omega arith) (λ q l. h (suc q) (omega arith) ∙ next i q),
)
  where
    next : (i q : ℕ) → i + suc q ≡ suc i + q
    next i q = omega arith

-- the floats as they are made
pub made-rows : (z : Float) → FloatRows (replicate 18 (replicate 128 z))
made-rows z = record { eighteen = refl; row = λ r h. ap length (get_or-replicate 18 r (replicate 128 z) [] h) }

-- a route that the machine runs, by another name
runs_by : {W Z : Route Float} → Z ≡ W → {p : place.Place} → Runs Z p → Runs W p
runs_by e {p} R = subst (λ (Y : Route Float). Runs Y p) e R

-- and its lists
lists-by : {W : Route Float} {p : place.Place} → Runs W p → (rule : Rule) (script : List Float) (list : List (Report Float))
    → Ends (callback_of rule script) W [] list → Ends (callback_of rule script) (machine_from p) [] list
lists-by R rule script list E = ends-in R (callback_of rule script) [] list E

module _ (similarity : Similarity) (file query : List ℕ) (norms-are : similarity.norms ≡ norm_reader file) (few : length query ≤ 16)
    (a : opening.Tables) (scorers : List TermScorer) (Q : QueryOpened similarity.scoring file query (length query) a scorers) where
  -- the slots of an intersection, before their order is made
  pub fresh-slots : {order : List ℕ} → 2 ≤ length query → Sixteen order → all.FreshSlots (window.query similarity file a.lists a.norms (length query) order) a.held
  fresh-slots two room = record {
    two = two;
    few = few;
    long = room;
    norms-are = norms-are;
    sixteen = (Q.room.places, Q.room.blocks);
    each = λ q h. (Q.open-slots q h).fresh;
  }

module _ (similarity : Similarity) (file query : List ℕ) (norms-are : similarity.norms ≡ norm_reader file) (few : length query ≤ 16)
    (a : opening.Tables) (scorers : List TermScorer) (Q : QueryOpened similarity.scoring file query (length query) a scorers)
    (order : List ℕ) (floats : List (List Float)) (rows : FloatRows floats) where
  abbrev n : ℕ
  n = length query

  abbrev scoring : Scoring
  scoring = similarity.scoring

  abbrev Begins : Mode → Machine → Type 0
  Begins m r = BeganWith Skipping similarity file query m a (begun_tables a order floats) r

  abbrev at : Machine → place.Place
  at r = place_in file similarity a.lists a.norms (begun_tables a order floats) r

  abbrev f : TermScorer → Scorer Float
  f = scorer_at file a.lists scoring a.held.places

  abbrev Fresh : TermScorer → Type 0
  Fresh = begins.Fresh file a.lists (terms scoring a.norms floats) a.held

  list-there : (q : ℕ) → q < n → list_at scoring file a.lists q ≡ postings_of scoring file (get_or query q 0)
  list-there q h = ap (list_of scoring file) (Q.open-slots q h).part-is

  first-doc : (q : ℕ) → q < n → doc_in file (part_of file (get_or query q 0)) 0 ≡ doc_in file (part_at a.lists q) 0
  first-doc q h = ap (λ (x : Part). doc_in file x 0) (sym (Q.open-slots q h).part-is)

  -- what holds of each scorer that was opened
  record Opened (s : TermScorer) : Type 0 where
    as-opened : Fresh s
    doc : SameDoc f s
    slot-in : s.slot < n
    scorer-is : f s ≡ only_scorer file similarity a.lists a.norms s.slot
    doc-is : s.doc ≡ doc_in file (part_at a.lists s.slot) 0

  one-opened : (q : ℕ) → q < n → Opened (get_or scorers q no_scorer)
  one-opened q h =
      let S = Q.open-slots q h in
      let at-is : (cursor_at a.held.places q).at ≡ 0 = ap (λ (c : Cursor). c.at) S.fresh.first in
      let d : doc_in file (part_of file (get_or query q 0)) 0 ≡ doc_in file (part_at a.lists q) (cursor_at a.held.places q).at =
      first-doc q h ∙ ap (doc_in file (part_at a.lists q)) (sym at-is) in
      subst Opened (sym (Q.scorers-are q h))
      (record {
        as-opened = record {
          opened = S.fresh;
          scorer-is = ap (λ (k : ℕ). record { doc = k; max_score = (list_of scoring file (part_of file (get_or query q 0))).top; slot = q }) d
              ∙ ap (λ (x : Part). record { doc = doc_in file (part_at a.lists q) (cursor_at a.held.places q).at; max_score = (list_of scoring file x).top; slot = q }) (sym S.part-is);
        };
        doc = doc-is file (part_at a.lists q) scoring (cursor_at a.held.places q).at ∙ sym d;
        slot-in = h;
        scorer-is = ap (λ (c : Cursor). record { ord = q; list = list_at scoring file a.lists q; cur = c }) S.fresh.first;
        doc-is = first-doc q h;
      })

  long : n ≤ length scorers
  long = omega (arith, few, Q.long)

  all-opened : All Opened (take n scorers)
  all-opened = all_first Opened no_scorer scorers n long one-opened

  all_apart : Apart (take n scorers)
  all_apart = apart-first scorers n 0 long (λ q h. ap (λ (s : TermScorer). s.slot) (Q.scorers-are q h) ∙ sym (zero-add q))

  imp : (P : TermScorer → Type 0) → ((s : TermScorer) → Opened s → P s) → (l : List TermScorer) → All Opened l → All P l
  imp P g [] o = tt
  imp P g (s ∷ l) o = (g s o.0, imp P g l o.1)

  -- ---- one scorer: the single scan

  module _ (s : TermScorer) (O : Opened s) where
    abbrev W₁ : Route Float
    W₁ = block_wand_single_scorer 128 f32 (only_scorer file similarity a.lists a.norms s.slot)

    single-begun : (m : Mode) → W₁ ≡ route 128 f32 (mode_of m) (queried scoring file query) → Begins m (single_from s)
    single-begun m e =
        let F = O.as-opened in
        let z = single-begins norms-are F.opened rows O.doc-is in
        let first : at (single_from s) ≡ place.single (only_scorer file similarity a.lists a.norms s.slot) W₁.first =
        ap (place.single (only_scorer file similarity a.lists a.norms s.slot)) (z.1 s.slot) in
        let R = runs_by e (subst (Runs W₁) (sym first) (runs-single (only_scorer file similarity a.lists a.norms s.slot))) in
        record { stands = z.0; kept = (ok scoring file a.lists s.slot F.opened.slot, z.0.kept); runs-are = R; list-is = lists-by R }

  by-query : (qs : List ℕ) → length qs ≡ 1 → list_at scoring file a.lists 0 ≡ postings_of scoring file (get_or qs 0 0)
      → block_wand_single_scorer 128 f32 (only_scorer file similarity a.lists a.norms 0) ≡ of_one 128 f32 (scorers_from 0 (queried scoring file qs))
  unfolding queried
  by-query [] e l = absurd (omega (arith, e))
  by-query (x ∷ []) e l = ap (λ z. block_wand_single_scorer 128 f32 (record { ord = 0; list = z; cur = fresh })) l
  by-query (x ∷ y ∷ xs) e l = absurd (omega (arith, e))

  -- a query of one number
  pub one_number : n ≡ 1 → Begins modes.Single (single_from (get_or scorers 0 no_scorer))
  one_number e =
      let h : 0 < n = omega (arith, e) in
      let O = one-opened 0 h in
      let s-is = ap (λ (s : TermScorer). s.slot) (Q.scorers-are 0 h) in
      single-begun (get_or scorers 0 no_scorer) O modes.Single
      (ap (λ (q : ℕ). block_wand_single_scorer 128 f32 (only_scorer file similarity a.lists a.norms q)) s-is ∙ by-query query e (list-there 0 h))

  -- ---- a union

  module _ (live : Scorers) (L : Left (retain by_doc (take n scorers)) n live) where
    left-opened : All Opened (alive live)
    left-opened = subst (All Opened) (sym L.are) (kept-all Opened (retain-kept by_doc (take n scorers)) all-opened)

    left-apart : Apart (alive live)
    left-apart = subst Apart (sym L.are) (kept-apart (retain-kept by_doc (take n scorers)) all_apart)

    -- the scorers left are the route's
    left-are : map f (alive live) ≡ retain doc_of (scorers_from 0 (queried scoring file query))
    left-are =
        ap (map f) L.are ∙ retained-on-route f (take n scorers) (imp (SameDoc f) (λ s o. o.doc) (take n scorers) all-opened)
        ∙ ap (retain doc_of) (opened-scorers scoring file query a scorers Q few)

    -- more than one, or none: the loop over pivots
    pivots : (ss : List (Scorer Float)) → (length ss ≡ 1 → ⊥) → pivot_route 128 f32 ss ≡ block_wand 128 f32 ss
    pivots [] ne = refl
    pivots (s ∷ []) ne = absurd (ne refl)
    pivots (x ∷ y ∷ ss) ne = refl

    map-long : (l : List TermScorer) → length (map f l) ≡ length l
    map-long [] = refl
    map-long (s ∷ l) = ap suc (map-long l)

    pub pivots-begun : (live.len ≡ 1 → ⊥) → {u : Union} → any.Begins (alive live) live.len u order → Begins modes.Union (mode.Union u)
    pivots-begun ne {u} B =
        let T = terms scoring a.norms floats in
        let z = begins.begins file a.lists T a.held (alive live) (imp Fresh (λ s o. o.as-opened) (alive live) left-opened) left-apart rows (omega (arith, L.few, few)) B in
        let k : length (map f (alive live)) ≡ live.len = map-long (alive live) ∙ length-take-le live.len live.scorers (omega (arith, L.few, L.long, few)) in
        let W : Route Float = pivot_route 128 f32 (map f (alive live)) in
        let first : at (mode.Union u) ≡ place.union W.first = ap place.union z.1 in
        let R = runs_by (pivots (map f (alive live)) (λ e. ne (sym k ∙ e)) ∙ ap (block_wand 128 f32) left-are) (subst (Runs W) (sym first) (runs-union (map f (alive live)))) in
        record { stands = z.0; kept = z.0.kept; runs-are = R; list-is = lists-by R }

    abbrev only : TermScorer
    only = get_or live.scorers 0 no_scorer

    one_only : live.len ≡ 1 → alive live ≡ only ∷ []
    one_only e = ap (λ (k : ℕ). take k live.scorers) e ∙ take-one live.scorers (omega (arith, L.long))
      where
        take-one : (xs : List TermScorer) → 0 < length xs → take 1 xs ≡ get_or xs 0 no_scorer ∷ []
        take-one [] h = absurd (omega (arith, h))
        take-one (x ∷ xs) h = refl

    -- of one list left: the single scan over it
    pub only-begun : live.len ≡ 1 → Begins modes.Union (single_from only)
    only-begun e =
        let O = (subst (All Opened) (one_only e) left-opened).0 in
        single-begun only O modes.Union (ap (block_wand_single_scorer 128 f32) (sym O.scorer-is) ∙ ap (block_wand 128 f32) (ap (map f) (sym (one_only e)) ∙ left-are))

  -- whatever is left
  pub union-begun : {before : List ℕ} (r : Machine) → UnionBegun scorers n r before order → Begins modes.Union r
  union-begun r (one_left live L e) = only-begun live L e
  union-begun r (some_left live L ne B) = pivots-begun live L ne B

  -- ---- an intersection

  abbrev asked-for : window.Query
  asked-for = window.query similarity file a.lists a.norms n order

  lists_named : lists_from scoring file a.lists 0 n ≡ queried scoring file query
  lists_named = lists-are scoring file a.lists query (λ q h. (Q.open-slots q h).part-is)

  pub intersection-begun : All (ListOk 128 (documents file)) (queried scoring file query) → {v : Intersection} → all.Begins asked-for a.held v
      → Begins modes.Intersection (mode.Intersection v)
  intersection-begun right {v} B =
      let x = asked-for in
      let ld = leader_in x a.held.places in
      let ss = secondaries_in x a.held.places in
      let W : Route Float = leader_route 128 f32 ld ss in
      let S = B.stands floats rows in
      let first : at (mode.Intersection v) ≡ place.intersection W.first =
      ap (λ (k : ℕ). place.intersection (stands.place_of (window.query similarity file a.lists a.norms k order) v a.held.places floats)) B.len_is ∙ ap place.intersection (B.first-is floats) in
      let R = runs_by (sym (route-is B) ∙ ap (route 128 f32 plain.intersection) lists_named) (subst (Runs W) (sym first) (runs-intersection ld ss)) in
      record {
        stands = subst (λ (k : ℕ). stands.Stands (window.query similarity file a.lists a.norms k order) v a.held floats) (sym B.len_is) S;
        kept = subst (KeptIn (documents file)) (sym first)
            (intersection-nears 128 (documents file) f32 (lists_from scoring file a.lists 0 n) (subst (All (ListOk 128 (documents file))) (sym lists_named) right) ld ss B.sorted-is).begins;
        runs-are = R;
        list-is = lists-by R;
      }

  -- ---- a plain scan

  pub plain-begun : documents file ≤ 2147483647 → (m : Mode) → BeganWith Plain similarity file query m a (begun_tables a order floats) (plain_from m n)
  plain-begun small m =
      let all = needs_all (mode_of m) in
      let H = hits_of scoring file a.lists n all in
      record {
        stands = scan_begins scoring file query a scorers Q few all;
        kept = tt;
        runs-are = tt;
        list-is = λ rule script list l.
            let K = callback_of rule script in
            ends-in (runs-plain H) K [] list
            (subst (Ends K (scan_route H) []) (scan-ext f32 K H (plain.hit f32 (mode_of m) (queried scoring file query))
            (same-hits scoring file query a scorers Q (mode_of m)) (documents file) 0 [] ∙ sym l)
            (scan-ends H K (documents file) small (none-behind scoring file a.lists n all (λ q h. (Q.open-slots q h).fresh.slot)) []));
      }
