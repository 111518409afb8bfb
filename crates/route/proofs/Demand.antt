-- Demand 3: a skipping and a plain run of one query and rule agree exactly when the plain scan from the lower start reports nothing
-- at or below the higher.
use mathlib.Core.Bool.{true}
use mathlib.Core.List.{List, []}
use mathlib.Core.Logic.{◌↔◌}
use mathlib.Core.Path.{ap, sym, ◌∙◌, ◌≡◌}
use Prim.Native.Nat.{ℕ, ◌≤◌}
use native.Mathlib.Omega.{arith}
use lib.ListN.{length}
use Rattle.arrays.specs.Every.{All}
use Rattle.route.specs.Score.{Ops, larger, smaller}
use Rattle.route.specs.Report.{Report}
use Rattle.route.specs.Rule.{Rule, limited, ruled}
use Rattle.route.specs.Postings.{Postings, TERMINATED}
use Rattle.route.specs.Plain.{Mode, hit, plain}
use Rattle.route.specs.Skipping.{Skips}
use Rattle.route.specs.Inner.Rules.{RuleOk, Takes}
use Rattle.route.proofs.Cases.{on_test}
use Rattle.route.proofs.Order.{FinOf, above-false, above-true}
use Rattle.route.proofs.Rule.{never-falls, start-fin}
use Rattle.route.proofs.TwoStarts.{starts}
use Rattle.route.proofs.Hits.{hit-fin}
use Rattle.route.proofs.Agree.{Listed, SteppedLaws, agrees}
use Rattle.route.proofs.Rows.{all-rows}

module _ (B N M : ℕ) (O : Ops) (Y : SteppedLaws O M) where
  module _ (m : Mode) (q : List (Postings O.S)) (qs : All (Listed B O N M Y) q) (few : length q ≤ M) (takes : Takes m (length q))
      (small : N ≤ TERMINATED) (rule : Rule O.S) where
    -- THE LIST OF A SKIPPING RUN IS THE PLAIN SCAN'S
    pub skips-plain : (s : O.S) → RuleOk O Y.order.Fin rule s → (list : List (Report O.S)) → Skips B O m q rule s list
        → list ≡ plain O m q rule s N
    skips-plain s ok list z = agrees B O N M Y q qs few small (ruled O rule s) (never-falls O Y.order rule s ok) [] tt m takes list z

    -- SO ARE ITS ROWS: all of them with 0, the first n with 12
    pub skips-rows : (s : O.S) → RuleOk O Y.order.Fin rule s → (list : List (Report O.S)) → Skips B O m q rule s list
        → (n : ℕ) → limited n list ≡ limited n (plain O m q rule s N)
    skips-rows s ok list z n = ap (limited n) (skips-plain s ok list z)

    hits-fin : (d : ℕ) → FinOf O Y.order (hit O m q d)
    hits-fin = hit-fin B N Y.sums m q qs few

    -- DEMAND 3: a skipping run from s with n rows, a plain run from t with n' rows, both returning 0
    pub demand-3 : (s t : O.S) → RuleOk O Y.order.Fin rule s → RuleOk O Y.order.Fin rule t
        → (list : List (Report O.S)) → Skips B O m q rule s list → (n n' : ℕ)
        → (limited n list).code ≡ 0 → (limited n' (plain O m q rule t N)).code ≡ 0
        → ((limited n list).rows ≡ (limited n' (plain O m q rule t N)).rows)
        ↔ All (λ r. O.above r.score (larger O s t) ≡ true) (plain O m q rule (smaller O s t) N)
    demand-3 s t oks okt list z n n' c c' =
        let fs = start-fin O Y.order rule s oks in
        let ft = start-fin O Y.order rule t okt in
        let e : (limited n list).rows ≡ plain O m q rule s N = all-rows n list c ∙ skips-plain s oks list z in
        let e' = all-rows n' (plain O m q rule t N) c' in
        on_test (O.above t s)
        (λ u.
        let h = above-true O Y.order t s ft fs u in
        let w = starts O Y.order rule s t oks okt (omega arith) (hit O m q) hits-fin N in
        rw u (λ p. w.0 (sym e ∙ p ∙ e'), λ a. e ∙ w.1 a ∙ sym e'))
        (λ u.
        let w = starts O Y.order rule t s okt oks (above-false O Y.order t s ft fs u) (hit O m q) hits-fin N in
        rw u (λ p. w.0 (sym e' ∙ sym p ∙ e), λ a. e ∙ sym (w.1 a) ∙ sym e'))
