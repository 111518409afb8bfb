-- The rows of a run with a limit: all of its list with 0, its first n with 12, and 12 exactly where a report is due and the rows are full.
use mathlib.Core.Bool.{cond}
use mathlib.Core.List.{List, [], append_assoc, append-nil, ◌++◌, ◌∷◌}
use mathlib.Core.Option.{Option, none, some}
use mathlib.Core.Path.{ap, refl, sym, ◌∙◌, ◌≡◌}
use Prim.Native.Nat.{suc, zero, ℕ, ◌+◌, ◌-◌, ◌<◌}
use native.Mathlib.Nat.{add-suc, add-zero}
use native.Mathlib.Omega.{arith}
use lib.Dec.{leb}
use lib.ListN.{length, length-append, take}
use lib.Seq.{take_at}
use borrow.Author.Tests.{leb-false, leb-true, lt-leb}
use Rattle.route.specs.Score.{Ops}
use Rattle.route.specs.Report.{Callback, Report, reported}
use Rattle.route.specs.Rule.{Outcome, Rule, limited, ruled}
use Rattle.route.specs.Postings.{start}
use Rattle.route.specs.Route.{Ends, Route, after, step}
use Rattle.route.proofs.Cases.{by-test, on_test}
use Rattle.route.proofs.Ending.{Stays, stays_on}

module _ {S : Type 0} (n : ℕ) where
  -- a run that returns 0 has its whole list
  pub all-rows : (rs : List (Report S)) → (limited n rs).code ≡ 0 → (limited n rs).rows ≡ rs
  all-rows rs e =
      by-test (λ (o : Outcome S). o.code ≡ 0 → o.rows ≡ rs) (leb (length rs) n) (record { code = 0; rows = rs })
      (record { code = 12; rows = take n rs })
      (λ _ _. refl) (λ _ z. absurd (omega (arith, z))) e

  -- n rows r are full and x is due
  pub full-rows : (total r zs : List (Report S)) (x : Report S) → length r ≡ n → total ≡ (r ++ (x ∷ [])) ++ zs
      → limited n total ≡ record { code = 12; rows = r }
  full-rows total r zs x h e =
      let e' : total ≡ r ++ (x ∷ zs) = e ∙ append_assoc r (x ∷ []) zs in
      let l : n < length total = omega (arith, ap length e', length-append r (x ∷ zs)) in
      ap (λ b. cond {A = Outcome S} b (record { code = 0; rows = total }) (record { code = 12; rows = take n total })) (lt-leb (length total) n l)
      ∙ ap (λ z. record { code = 12; rows = z }) (ap (take n) e' ∙ take_at r (x ∷ zs) n h)

module _ (O : Ops) (rule : Rule O.S) (start : O.S) where
  abbrev K : Callback O.S
  K = ruled O rule start

  -- what was reported stays at the front
  abbrev Longer : List (Report O.S) → List (Report O.S) → Type 0
  Longer r r' = (zs : List (Report O.S)) × (r' ≡ r ++ zs)

  longer : (r r' r'' : List (Report O.S)) → Longer r r' → Longer r' r'' → Longer r r''
  longer r r' r'' a b = (a.0 ++ b.0, b.1 ∙ ap (λ z. z ++ b.0) a.1 ∙ append_assoc r a.0 b.0)

  reported-longer : (o : Option (Report O.S)) (r : List (Report O.S)) → Longer r (reported K o r)
  reported-longer none r = ([], sym (append-nil r))
  reported-longer (some x) r = (x ∷ [], refl)

  module _ (W : Route O.S) (stays : Stays W) where
    after-longer : (r : List (Report O.S)) (n m : ℕ) → Longer (after K W r n).state (after K W r (n + m)).state
    after-longer r n zero = ([], ap (λ z. (after K W r z).state) (add-zero n) ∙ sym (append-nil (after K W r n).state))
    after-longer r n (suc m) =
        let u = after K W r (n + m) in
        let z = longer (after K W r n).state u.state (step K W u).state (after-longer r n m)
        (reported-longer (W.turn (K.threshold u.state) u.place).due u.state) in
        (z.0, ap (λ y. (after K W r y).state) (add-suc n m) ∙ z.1)

    -- a skipping run whose rows are full after k steps, with a report due
    pub route-full : (total : List (Report O.S)) → Ends K W [] total → (k : ℕ) (x : Report O.S)
        → (W.turn (K.threshold (after K W [] k).state) (after K W [] k).place).due ≡ some x
        → limited (length (after K W [] k).state) total ≡ record { code = 12; rows = (after K W [] k).state }
    route-full total e k x due =
        on_test (leb e.steps k)
        (λ u.
        let s = e.steps in
        let h = leb-true s k u in
        let w : s + (k - s) ≡ k = omega arith in
        let same : after K W [] k ≡ after K W [] s = ap (after K W []) (sym w) ∙ stays_on W K stays [] s (k - s) e.ended in
        let q = stays (K.threshold (after K W [] k).state) (after K W [] k).place (ap (λ v. W.ended v.place) same ∙ e.ended) in
        let no : ◌≡◌ {A = Option (Report O.S)} (some x) none = sym due ∙ ap (λ t. t.due) q in
        let z : ◌≡◌ {A = ℕ} 0 1 = cc in absurd (omega arith))
        (λ u.
        let s = e.steps in
        let h = leb-false s k u in
        let w : suc k + (s - suc k) ≡ s = omega arith in
        let r = (after K W [] k).state in
        let z = after-longer [] (suc k) (s - suc k) in
        full-rows (length r) total r z.0 x refl
        (sym e.leaves ∙ ap (λ y. (after K W [] y).state) (sym w) ∙ z.1 ∙ ap (λ o. reported K o r ++ z.0) due))
