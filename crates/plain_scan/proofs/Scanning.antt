-- Documents upward: those before the least are in no list, and the least one is taken as the route's turn says.
use mathlib.Core.Path.{◌≡◌, refl, sym, ap, ◌∙◌, subst}
use mathlib.Core.Bool.{Bool, true, false, false≢true}
use mathlib.Core.List.{List, [], ◌++◌}
use mathlib.Core.Option.{Option, none, some}
use Prim.Native.Nat.{ℕ, zero, suc, ◌+◌, ◌-◌, ◌≤◌, ◌<◌}
use native.Mathlib.Nat.{add-suc, add-zero}
use native.Mathlib.Numerals.{add-one}
use native.Mathlib.Omega.{arith}
use lib.Dec.{leb}
use lib.Ieee.{Float, lt}
use borrow.Author.Tests.{le-leb, lt-leb}
use Rattle.route.specs.Postings.{TERMINATED, score_of}
use Rattle.route.specs.Plain.{opt_list, present}
use Rattle.route.specs.Route.{Turn}
use Rattle.route.proofs.Cases.{on_test}
use Rattle.route.proofs.Looking.{score-none}
use Rattle.bm25.specs.declared.Scoring.{Scoring}
use Rattle.reports.specs.Inner.Turns.{Went}
use Rattle.reports.specs.declared.Event.{Event}
use Rattle.reports.specs.declared.Event.TheVariants.{Over, Paused, Report}
use Rattle.reports.proofs.TurnLaws.{Quietly, and_then, at-end, at_pause, at-report, none_yet, one_more}
use Rattle.notefile.specs.Header.{documents}
use Rattle.term_scorer.specs.Inner.Slots.{Held, SlotIn, list_at, lists_from}
use Rattle.scan_heads.specs.Inner.Found.{due_in, found_of, hit_in, matches_in}
use Rattle.scan_heads.specs.Inner.Heads.{least_in}
use Rattle.scan_heads.specs.declared.Found.{Found}
use Rattle.scan_heads.proofs.Heading.{least_above, least-cap, least-low}
use Rattle.plain_scan.specs.Inner.Heads.{Standing, Taken}
use Rattle.plain_scan.specs.Inner.Turns.{due_for, gone_to, hits_of, scan_turn, GoneOn, PlainStands}
use Rattle.reports.specs.declared.Gone.{Gone}
use Rattle.plain_scan.specs.declared.Plain.{Plain}
use Rattle.plain_scan.proofs.Slots.{absent, ok, raised}
use Rattle.plain_scan.proofs.Beginning.{at_rest}

module _ (scoring : Scoring) (file : List ℕ) (lists : List (List ℕ)) (n : ℕ) (all : Bool) where
  abbrev H : ℕ → Option Float
  H = hits_of scoring file lists n all

  -- ---- documents without a match

  none-present : (x m q : ℕ) → ((p : ℕ) → q ≤ p → p < q + m → score_of (list_at scoring file lists p) x ≡ none) → present x (lists_from scoring file lists q m) ≡ []
  none-present x zero q f = refl
  none-present x (suc m) q f =
      ap (λ (o : Option Float). opt_list o ++ present x (lists_from scoring file lists (suc q) m)) (f q (omega arith) (omega arith))
      ∙ none-present x m (suc q) (λ p g h. f p (omega (arith, g)) (omega (arith, h)))

  no_hit : (x : ℕ) → ((p : ℕ) → p < n → score_of (list_at scoring file lists p) x ≡ none) → H x ≡ none
  no_hit x f = ap (λ (xs : List Float). hit_in all n (found_of xs)) (none-present x n 0 (λ p g h. f p (omega (arith, h))))

  -- behind the file's last document nothing matches
  pub none-behind : {h : Held} → ((q : ℕ) → q < n → SlotIn file lists h q) → (x : ℕ) → documents file ≤ x → H x ≡ none
  none-behind S x g = no_hit x (λ q l. score-none (list_at scoring file lists q) x (λ i m e. omega (arith, (ok scoring file lists q (S q l)).below i m, e, g)))

  -- ---- turns

  module _ (t : Float) where
    -- a document that is no TERMINATED is looked at
    pub on-document : (d : ℕ) → d < TERMINATED → (leb TERMINATED d ≡ false) × (scan_turn H t d ≡ record { next = suc d; due = due_for t d (H d); loads = [] })
    on-document d h = let e = lt-leb TERMINATED d h in (e, rw e)

    -- those that no list has
    pub gap : {h : Held} {heads : List ℕ} {a : ℕ} → Standing scoring file lists n a h heads → (m : ℕ) → a + m ≤ least_in heads n → a + m ≤ TERMINATED
        → Quietly (scan_turn H) (leb TERMINATED) t a m (a + m)
    gap {a = a} S zero g c = subst (Quietly (scan_turn H) (leb TERMINATED) t a 0) (sym (add-zero a)) (none_yet (scan_turn H) (leb TERMINATED) t a)
    gap {heads = heads} {a = a} S (suc m) g c =
        let o = on-document (a + m) (omega arith) in
        let none_here : H (a + m) ≡ none =
        no_hit (a + m) (λ q k. absent scoring file lists (S.each q k) (a + m) (omega arith) (omega (arith, least-low heads n q k))) in
        one_more (scan_turn H) (leb TERMINATED) t (gap S m (omega arith) (omega arith)) o.0
        (ap (λ (u : Turn ℕ Float). u.due) o.1 ∙ ap (due_for t (a + m)) none_here)
        (ap (λ (u : Turn ℕ Float). u.next) o.1 ∙ sym (add-suc a m))

    -- one that was taken, due or not
    module _ (d : ℕ) (l : d < TERMINATED) {found : Found} {h : Held} {heads : List ℕ} (T : Taken scoring file lists n d found h heads) where
      hit-here : H d ≡ hit_in all n found
      hit-here = ap (hit_in all n) (sym T.found-is)

      pub goes-next : (scan_turn H t d).next ≡ suc d
      goes-next = ap (λ (u : Turn ℕ Float). u.next) (on-document d l).1

      due-here : (scan_turn H t d).due ≡ due_for t d (hit_in all n found)
      due-here = ap (λ (u : Turn ℕ Float). u.due) (on-document d l).1 ∙ ap (due_for t d) hit-here

      pub not-due : due_in all n found t ≡ false → (scan_turn H t d).due ≡ none
      not-due e = due-here ∙ on_test (matches_in all n found.matched)
          (λ m. let z : lt t found.total ≡ false = rw m at e in rw (m, z))
          (λ m. rw m)

      pub is-due : due_in all n found t ≡ true → (scan_turn H t d).due ≡ some (record { doc = d; score = found.total })
      is-due e = due-here ∙ on_test (matches_in all n found.matched)
          (λ m. let z : lt t found.total ≡ true = rw m at e in rw (m, z))
          (λ m. absurd (false≢true (rw m at e)))

  -- the scorers may count as standing from any document up to the least
  pub up_to : {h : Held} {heads : List ℕ} {a : ℕ} → Standing scoring file lists n a h heads → (b : ℕ) → a ≤ b → b ≤ least_in heads n → Standing scoring file lists n b h heads
  up_to {heads = heads} S b g c = record { long = S.long; each = λ q l. raised scoring file lists (S.each q l) b g (omega (arith, least-low heads n q l)) }

  -- ---- the loop

  -- from document d₀ on `taken` turns without a report have led to document `at`
  pub record Upward (t : Float) (turns d₀ taken at : ℕ) (h : Held) (heads : List ℕ) : Type 0 where
    pub standing : Standing scoring file lists n at h heads
    pub quietly : Quietly (scan_turn H) (leb TERMINATED) t d₀ taken at
    pub cap : at ≤ TERMINATED
    pub within : taken ≤ turns

  module _ {t : Float} {turns d₀ taken at : ℕ} {h : Held} {heads : List ℕ} (U : Upward t turns d₀ taken at h heads) {doc : ℕ} (doc-is : doc ≡ least_in heads n) where
    pub ahead : (at ≤ doc) × (doc ≤ TERMINATED)
    ahead = (omega (arith, doc-is, least_above heads n at U.cap (λ q l. (U.standing.each q l).low)), omega (arith, doc-is, least-cap heads n))

    -- any document up to the least
    pub to-document : (m : ℕ) → at + m ≤ doc → taken + m ≤ turns → Upward t turns d₀ (taken + m) (at + m) h heads
    to-document m g w = record {
      standing = up_to U.standing (at + m) (omega arith) (omega (arith, doc-is, g));
      quietly = and_then (scan_turn H) (leb TERMINATED) t U.quietly (gap t U.standing m (omega (arith, doc-is, g)) (omega (arith, ahead.1, g)));
      cap = omega (arith, ahead.1, g);
      within = w;
    }

  module _ {t : Float} {turns d₀ taken d : ℕ} {h : Held} {heads : List ℕ} (U : Upward t turns d₀ taken d h heads) where
    pub stops-over : d ≡ TERMINATED → Went (scan_turn H) (leb TERMINATED) t d₀ turns taken d Over
    stops-over e = at-end (scan_turn H) (leb TERMINATED) t U.quietly U.within (le-leb TERMINATED d (omega (arith, e)))

    module _ (l : d < TERMINATED) where
      pub stops-paused : taken ≡ turns → Went (scan_turn H) (leb TERMINATED) t d₀ turns taken d Paused
      stops-paused e =
          subst (λ (i : ℕ). Went (scan_turn H) (leb TERMINATED) t d₀ i taken d Paused) e (at_pause (scan_turn H) (leb TERMINATED) t U.quietly (on-document t d l).0)

      module _ (more : taken < turns) {found : Found} {h' : Held} {heads' : List ℕ} (T : Taken scoring file lists n d found h' heads') where
        pub passes : due_in all n found t ≡ false → Upward t turns d₀ (taken + 1) (d + 1) h' heads'
        passes e = rw (add-one taken, add-one d) (record {
          standing = T.standing;
          quietly = one_more (scan_turn H) (leb TERMINATED) t U.quietly (on-document t d l).0 (not-due t d l T e) (goes-next t d l T);
          cap = l;
          within = more;
        })

        pub stands-next : Standing scoring file lists n (d + 1) h' heads'
        stands-next = rw (add-one d) T.standing

        pub stops-due : due_in all n found t ≡ true → Went (scan_turn H) (leb TERMINATED) t d₀ turns (taken + 1) (d + 1) (Report d found.total)
        stops-due e = rw (add-one taken, add-one d) (at-report (scan_turn H) (leb TERMINATED) t U.quietly more (on-document t d l).0 (is-due t d l T e) (goes-next t d l T))

  -- turns that end before the least document
  pub stops-early : {t : Float} {turns d₀ taken at : ℕ} {h : Held} {heads : List ℕ} → Upward t turns d₀ taken at h heads → {doc : ℕ} → doc ≡ least_in heads n → turns - taken < doc - at
      → Upward t turns d₀ turns (at + (turns - taken)) h heads × Went (scan_turn H) (leb TERMINATED) t d₀ turns turns (at + (turns - taken)) Paused
  stops-early {t} {turns} {d₀} {taken} {at} {h} {heads} U {doc} e g =
      let w = U.within in
      let o = ahead U e in
      let m : taken + (turns - taken) ≡ turns = omega arith in
      let N = subst (λ (i : ℕ). Upward t turns d₀ i (at + (turns - taken)) h heads) m (to-document U e (turns - taken) (omega arith) (omega arith)) in
      (N, stops-paused N (omega arith) refl)

-- a scan that stands still
pub gone-on : (scoring : Scoring) (file : List ℕ) (lists : List (List ℕ)) (norms : List (List Float)) {h : Held} (p : Plain) → PlainStands scoring file lists norms h p
    → {t : Float} {turns d taken : ℕ} {h' : Held} {heads' : List ℕ} {event : Event} → Standing scoring file lists p.len d h' heads' → d ≤ TERMINATED
    → Went (scan_turn (hits_of scoring file lists p.len p.all)) (leb TERMINATED) t p.doc turns taken d event
    → {r : Gone Plain} → r ≡ gone_to p.len p.all d taken event → GoneOn scoring file lists norms t turns p h' r
gone-on scoring file lists norms p P {t} {turns} {h' = h'} S c w e =
    subst (GoneOn scoring file lists norms t turns p h') (sym e)
    (record { stands = record { few = P.few; cap = c; weighed = P.weighed; each = at_rest scoring file lists S }; len_is = refl; all-is = refl; went = w })
